use Rattle.std.proofs.Common.{◌∙◌, [], map}
use Rattle.bayou_text.specs.Spelling.{cond_json}
use Rattle.bayou_text.proofs.AtOnce.{closed, more}
use Rattle.bayou_text.proofs.read.spelled_check.write_conditions.Goals as goal

pub returns-clause-spelling : goal.returns-clause-spelling
returns-clause-spelling c =
    let opened = c.in_ok-begin_array.ensures in
    let each = c.in_ok-write_each.ensures.spelling in
    closed c.end_array.result c.args.writer.now c.write_each.new.writer c.end_array.new.self (map cond_json c.args.conditions.now) c.end_array.ensures
    (each.0 ∙ opened.room.0) (more _ _ _ [] (map cond_json c.args.conditions.now) opened.ok each.1)
