use Rattle.std.proofs.Common.{arith}
use Rattle.std.proofs.lemmas.Result.{err_from_is_err_and}
use Rattle.bayou_print.specs.Waiting.{stage}
use Rattle.bayou_socket_run.proofs.Told.{fault_behind, nothing_told, whole_behind}
use Rattle.bayou_socket_run.proofs.phases.answer_closings.Goals as goal

pub loop-closing-init : goal.loop-closing-init
loop-closing-init g c = record { whole = nothing_told (stage g.W.Write.contents c.args.output.now c.args.waiting.now); ready = omega arith }

pub loop-closing-preserved : goal.loop-closing-preserved
loop-closing-preserved g c =
    let now = stage g.W.Write.contents in
    record {
      whole = whole_behind (now c.args.output.now c.args.waiting.now) (now c.loop-closing.output c.loop-closing.waiting) (now c.answer_one.new.output c.answer_one.new.waiting)
          c.loop-closing.invariant.whole c.in_ok-told.ensures.told;
      ready = omega (arith, c.loop-closing.invariant.ready, c.in_ok-told.ensures.ready);
    }

pub returns-in_err-told-clause-told : goal.returns-in_err-told-clause-told
returns-in_err-told-clause-told g c =
    let p = err_from_is_err_and c.from_residual.result c.from_residual.ensures.1 in
    let now = stage g.W.Write.contents in
    rw (p.1, p.2)
    (fault_behind c.in_err-told.field-0.0 (now c.args.output.now c.args.waiting.now) (now c.loop-closing.output c.loop-closing.waiting)
    (now c.answer_one.new.output c.answer_one.new.waiting) c.loop-closing.invariant.whole c.in_err-told.ensures.told)
