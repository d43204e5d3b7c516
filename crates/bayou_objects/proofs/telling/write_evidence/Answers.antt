use Rattle.bayou_judge.specs.History.{lent_lists}
use Rattle.bayou_objects.specs.Objects.{dumps_json, entries_json}
use Rattle.bayou_print.specs.Waiting.{stage}
use Rattle.bayou_objects.proofs.Sequence.{both_whole, first_part, second_part}
use Rattle.bayou_objects.proofs.telling.write_evidence.Goals as goal

pub returns-in_err-write_each-clause-part : goal.returns-in_err-write_each-clause-part
returns-in_err-write_each-clause-part g c =
    let now = stage g.W.Write.contents in
    first_part (now c.args.output.now c.args.waiting.now) (now c.write_each.new.output c.write_each.new.waiting) (entries_json c.args.count c.args.entries.now)
    (dumps_json c.args.count (lent_lists c.args.dumps.now) c.args.count) c.in_err-write_each.ensures.part

pub returns-clause-whole : goal.returns-clause-whole
returns-clause-whole g c =
    let now = stage g.W.Write.contents in
    both_whole (now c.args.output.now c.args.waiting.now) (now c.write_each.new.output c.write_each.new.waiting)
    (now c.write_dumps.new.output c.write_dumps.new.waiting) (entries_json c.args.count c.args.entries.now)
    (dumps_json c.args.count (lent_lists c.args.dumps.now) c.args.count) c.write_dumps.result c.in_ok-write_each.ensures.whole c.write_dumps.ensures.whole

pub returns-clause-part : goal.returns-clause-part
returns-clause-part g c =
    let now = stage g.W.Write.contents in
    second_part (now c.args.output.now c.args.waiting.now) (now c.write_each.new.output c.write_each.new.waiting)
    (now c.write_dumps.new.output c.write_dumps.new.waiting) (entries_json c.args.count c.args.entries.now)
    (dumps_json c.args.count (lent_lists c.args.dumps.now) c.args.count) c.in_ok-write_each.ensures.whole c.write_dumps.ensures.part
