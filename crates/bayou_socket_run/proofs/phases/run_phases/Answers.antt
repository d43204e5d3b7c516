use Rattle.std.proofs.Common.{arith}
use Rattle.std.proofs.lemmas.Result.{err_from_is_err_and}
use Rattle.bayou_print.specs.Waiting.{stage}
use Rattle.bayou_socket_run.proofs.Told.{fault_behind, fault_told, nothing_told, part_of_whole, whole_behind}
use Rattle.bayou_socket_run.proofs.phases.run_phases.Goals as goal

pub returns-in_err-inquiry-clause-told : goal.returns-in_err-inquiry-clause-told
returns-in_err-inquiry-clause-told g c =
    let p = err_from_is_err_and c.from_residual.result c.from_residual.ensures.1 in
    let start = stage g.W.Write.contents c.args.output.now c.args.waiting.now in
    rw (p.1, p.2) (fault_told _ start start c.in_err-inquiry.ensures.fault (part_of_whole start start (nothing_told start)))

pub loop-inquiry-init : goal.loop-inquiry-init
loop-inquiry-init g c = record { whole = nothing_told (stage g.W.Write.contents c.args.output.now c.args.waiting.now); ready = omega arith }

pub loop-inquiry-preserved : goal.loop-inquiry-preserved
loop-inquiry-preserved g c =
    let now = stage g.W.Write.contents in
    record {
      whole = whole_behind (now c.args.output.now c.args.waiting.now) (now c.loop-inquiry.output c.loop-inquiry.waiting) (now c.run_phase.new.output c.run_phase.new.waiting)
          c.loop-inquiry.invariant.whole c.in_ok-passed.ensures.told;
      ready = omega (arith, c.loop-inquiry.invariant.ready, c.in_ok-passed.ensures.ready);
    }

pub returns-in_err-passed-clause-told : goal.returns-in_err-passed-clause-told
returns-in_err-passed-clause-told g c =
    let p = err_from_is_err_and c.from_residual-in_err-passed.result c.from_residual-in_err-passed.ensures.1 in
    let now = stage g.W.Write.contents in
    rw (p.1, p.2)
    (fault_behind c.in_err-passed.field-0.0 (now c.args.output.now c.args.waiting.now) (now c.loop-inquiry.output c.loop-inquiry.waiting)
    (now c.run_phase.new.output c.run_phase.new.waiting) c.loop-inquiry.invariant.whole c.in_err-passed.ensures.told)

pub returns-in_err-inquiry-clause-ended : goal.returns-in_err-inquiry-clause-ended
returns-in_err-inquiry-clause-ended g c =
    let p = err_from_is_err_and c.from_residual.result c.from_residual.ensures.1 in
    rw (p.1, p.2) (c.in_err-inquiry.ensures.writes _ _)
