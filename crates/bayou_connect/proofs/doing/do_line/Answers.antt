use Rattle.std.proofs.Common.{◌∙◌, sym}
use Rattle.bayou_connect.proofs.Spelled.{does_nothing, does_script_line, does_short_line, empty_of, some_of}
use Rattle.bayou_streams.specs.Account.{account}
use Rattle.bayou_connect.proofs.doing.do_line.Goals as goal

pub returns-then-is_empty : goal.returns-then-is_empty
returns-then-is_empty g c =
    let words = c.trim_ascii-words.result.now in (
      words,
      c.trim_ascii-words.ensures.value,
      does_nothing c.args.line.now words c.args.desk.now (account g.W.Write.contents c.args.output.now) (empty_of words (sym c.is_empty.ensures ∙ c.if-is_empty.true)),
    )

pub returns-then-begins_as_script : goal.returns-then-begins_as_script
returns-then-begins_as_script g c =
    let words = c.trim_ascii-words.result.now in (
      words,
      c.trim_ascii-words.ensures.value,
      does_script_line c.args.line.now words c.do_script_line.result c.args.desk.now c.do_script_line.new.desk (account g.W.Write.contents c.args.output.now)
          (account g.W.Write.contents c.do_script_line.new.output) (sym c.begins_as_script.ensures ∙ c.if-begins_as_script.true) c.do_script_line.ensures,
    )

pub returns : goal.returns
returns g c =
    let words = c.trim_ascii-words.result.now in (
      words,
      c.trim_ascii-words.ensures.value,
      does_short_line c.args.line.now words c.do_short_line.result c.args.desk.now c.do_short_line.new.desk (account g.W.Write.contents c.args.output.now)
          (account g.W.Write.contents c.do_short_line.new.output) (some_of words (sym c.is_empty.ensures ∙ c.if-is_empty.false))
          (sym c.begins_as_script.ensures ∙ c.if-begins_as_script.false) c.do_short_line.ensures.spoken c.do_short_line.ensures.does,
    )
