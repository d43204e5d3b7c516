use Rattle.std.proofs.Common.{List, [], ℕ, ◌∙◌, subst, sym}
use Rattle.std.proofs.lemmas.Result.{on_ok_weaker}
use Rattle.std.specs.Io.{IsEmptyOrEndsWith}
use Rattle.std.specs.Prelude.{flat_map}
use Rattle.serde_json.specs.Written.{compact_text}
use Rattle.bayou_export.specs.Exports.{exported_json, exported_text, row_text}
use Rattle.bayou_export.specs.Laws.{line_ends}
use Rattle.bayou_print.specs.Waiting.{Gathers, stage}
use Rattle.bayou_print.specs.Laws.Gathered.{Gathers-trans}
use Rattle.bayou_export.proofs.writing.write_lines.Goals as goal

pub print-requires : goal.print-requires
print-requires g c =
    subst (λ (text : List ℕ). IsEmptyOrEndsWith text 10) (sym (c.as_bytes.ensures.value ∙ c.in_ok-line.ensures)) (line_ends (compact_text (exported_json c.args.told c.args.export.now)))

pub returns-clause-whole : goal.returns-clause-whole
returns-clause-whole g c =
    let now = stage g.W.Write.contents in
    let start = now c.args.output.now c.args.waiting.now in
    let mid = now c.print.new.output c.print.new.self in
    let end = now c.write_each.new.output c.write_each.new.waiting in
    let rows = flat_map row_text c.args.export.now.rows.items in
    let first : Gathers start mid (exported_text c.args.told c.args.export.now) [] =
    subst (λ text. Gathers start mid text []) (c.as_bytes.ensures.value ∙ c.in_ok-line.ensures) c.in_ok-print.ensures.whole in
    on_ok_weaker c.write_each.result (λ second. Gathers-trans start mid end (exported_text c.args.told c.args.export.now) rows [] first (subst (λ list. Gathers mid end (flat_map row_text list) []) c.as_slice.ensures.value second))
    c.write_each.ensures.whole
