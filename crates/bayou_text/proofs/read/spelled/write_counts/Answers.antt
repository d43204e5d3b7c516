use Rattle.std.proofs.Common.{◌∙◌, [], map}
use Rattle.bayou_text.specs.Spelling.{count_json}
use Rattle.bayou_text.proofs.AtOnce.{closed, more}
use Rattle.bayou_text.proofs.read.spelled.write_counts.Goals as goal

pub returns : goal.returns
returns c =
    let opened = c.in_ok-begin_array.ensures in
    let each = c.in_ok-write_each.ensures in
    closed c.end_array.result c.args.writer.now c.write_each.new.writer c.end_array.new.self (map count_json c.args.counts.now) c.end_array.ensures
    (each.0 ∙ opened.room.0) (more _ _ _ [] (map count_json c.args.counts.now) opened.ok each.1)
