use Rattle.bayou_objects.specs.Objects.{last_json, lines_json}
use Rattle.bayou_print.specs.Waiting.{stage}
use Rattle.bayou_objects.proofs.Sequence.{both_whole, first_part, second_part}
use Rattle.bayou_objects.proofs.telling.write_answer_objects.Goals as goal

pub returns-in_err-write_parts-clause-part : goal.returns-in_err-write_parts-clause-part
returns-in_err-write_parts-clause-part g c = first_part _ _ (lines_json c.args.answer.now) (last_json c.args.servers c.args.answer.now) c.in_err-write_parts.ensures.part

pub returns-clause-whole : goal.returns-clause-whole
returns-clause-whole g c =
    let now = stage g.W.Write.contents in
    both_whole (now c.args.output.now c.args.waiting.now) (now c.write_parts.new.output c.write_parts.new.waiting) (now c.write_last.new.output c.write_last.new.waiting)
    (lines_json c.args.answer.now) (last_json c.args.servers c.args.answer.now) c.write_last.result c.in_ok-write_parts.ensures.whole c.write_last.ensures.whole

pub returns-clause-part : goal.returns-clause-part
returns-clause-part g c =
    let now = stage g.W.Write.contents in
    second_part (now c.args.output.now c.args.waiting.now) (now c.write_parts.new.output c.write_parts.new.waiting) (now c.write_last.new.output c.write_last.new.waiting)
    (lines_json c.args.answer.now) (last_json c.args.servers c.args.answer.now) c.in_ok-write_parts.ensures.whole c.write_last.ensures.part
