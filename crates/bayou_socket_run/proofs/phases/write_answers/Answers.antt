use Rattle.std.proofs.Common.{arith}
use Rattle.std.proofs.lemmas.Result.{err_from_is_err_and}
use Rattle.bayou_print.specs.Waiting.{stage}
use Rattle.bayou_socket_run.proofs.Told.{fault_told, part_behind, phase_fault, some_of, whole_behind}
use Rattle.bayou_socket_run.proofs.phases.write_answers.Goals as goal

pub loop-answer-preserved : goal.loop-answer-preserved
loop-answer-preserved g c =
    let now = stage g.W.Write.contents in
    record {
      whole = whole_behind (now c.args.output.now c.args.waiting.now) (now c.loop-answer.output c.loop-answer.waiting) (now c.write_answer.new.output c.write_answer.new.waiting)
          c.loop-answer.invariant.whole (_, c.in_ok-write_answer.ensures.whole);
      ready = omega (arith, c.loop-answer.invariant.ready, c.in_ok-write_answer.ensures.ready);
    }

pub returns-in_err-write_answer-clause-told : goal.returns-in_err-write_answer-clause-told
returns-in_err-write_answer-clause-told g c =
    let p = err_from_is_err_and c.from_residual.result c.from_residual.ensures.1 in
    let now = stage g.W.Write.contents in
    let before = now c.loop-answer.output c.loop-answer.waiting in
    let after = now c.write_answer.new.output c.write_answer.new.waiting in
    rw (p.1, p.2)
    (fault_told c.in_err-write_answer.field-0.0 (now c.args.output.now c.args.waiting.now) after (phase_fault c.in_err-write_answer.field-0.0 c.in_err-write_answer.ensures.fault)
    (part_behind (now c.args.output.now c.args.waiting.now) before after c.loop-answer.invariant.whole (some_of before after _ c.in_err-write_answer.ensures.part)))
