use Rattle.std.proofs.Common.{arith}
use Rattle.std.proofs.lemmas.Result.{err_from_is_err_and}
use Rattle.bayou_print.specs.Waiting.{stage}
use Rattle.bayou_print.specs.Laws.Gathered.{Gathers-nil}
use Rattle.bayou_socket_run.proofs.Settled.{told_more}
use Rattle.bayou_socket_run.proofs.Told.{fault_behind}
use Rattle.bayou_socket_run.proofs.settling.write_nodes.Goals as goal

pub loop-index-init : goal.loop-index-init
loop-index-init g c = record { whole = Gathers-nil (stage g.W.Write.contents c.args.output.now c.args.waiting.now); ready = omega arith }

pub loop-index-preserved : goal.loop-index-preserved
loop-index-preserved g c =
    let now = stage g.W.Write.contents in
    record {
      whole = told_more c.loop-index.index c.args.nodes.now (now c.args.output.now c.args.waiting.now) (now c.loop-index.output c.loop-index.waiting) (now c.write_one.new.output c.write_one.new.waiting)
          c.loop-index.invariant.whole c.in_ok-write_one.ensures.prints;
      ready = omega (arith, c.loop-index.invariant.ready, c.in_ok-write_one.ensures.ready);
    }

pub returns-in_err-write_one-clause-told : goal.returns-in_err-write_one-clause-told
returns-in_err-write_one-clause-told g c =
    let p = err_from_is_err_and c.from_residual.result c.from_residual.ensures.1 in
    let now = stage g.W.Write.contents in
    rw (p.1, p.2)
    (fault_behind c.in_err-write_one.field-0.0 (now c.args.output.now c.args.waiting.now) (now c.loop-index.output c.loop-index.waiting)
    (now c.write_one.new.output c.write_one.new.waiting) (_, c.loop-index.invariant.whole) c.in_err-write_one.ensures.told)
