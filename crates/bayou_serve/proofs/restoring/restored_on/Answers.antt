use Rattle.std.proofs.lemmas.Result.{IfOk-weaker, err_from_is_err_and}
use Rattle.bayou_serve.proofs.Taken.{restoring_of}
use Rattle.bayou_serve.proofs.restoring.restored_on.Goals as goal

pub returns-in_err-taken-clause-fault : goal.returns-in_err-taken-clause-fault
returns-in_err-taken-clause-fault g c =
    let p = err_from_is_err_and c.from_residual-in_err-taken.result c.from_residual-in_err-taken.ensures.1 in
    rw (p.1, p.2) c.in_err-taken.ensures.fault

pub returns-in_err-keep_left_out-clause-fault : goal.returns-in_err-keep_left_out-clause-fault
returns-in_err-keep_left_out-clause-fault g c =
    let p = err_from_is_err_and c.from_residual-in_err-keep_left_out.result c.from_residual-in_err-keep_left_out.ensures.1 in
    rw (p.1, p.2) c.in_err-keep_left_out.ensures.fault

pub returns-clause-made : goal.returns-clause-made
returns-clause-made g c =
    IfOk-weaker c.give_name.result _ _ (λ restored counts. restoring_of c.args.asking.now.plan.now c.args.gathered.writes c.in_ok-server.server.core c.take_from_each.new.server.core
    c.deref.result.now c.in_ok-taken.taken.items restored.own c.in_ok-server.ensures.made c.in_ok-taken.ensures.taken c.in_ok-taken.ensures.each c.deref.ensures.value counts) c.give_name.ensures.own
