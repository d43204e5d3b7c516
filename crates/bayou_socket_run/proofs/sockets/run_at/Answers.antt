use Rattle.bayou_socket_run.proofs.Settled.{run_ends}
use Rattle.bayou_socket_run.proofs.Told.{took_both}
use Rattle.bayou_streams.specs.Account.{account}
use Rattle.bayou_socket_run.proofs.sockets.run_at.Goals as goal

pub returns-in_err-told-clause-took : goal.returns-in_err-told-clause-took
returns-in_err-told-clause-took g c =
    let at = account g.W.Write.contents in
    took_both (at c.args.output.now) (at c.pass.new.output) (at c.conclude.new.output) c.in_ok-passed.ensures.took c.conclude.ensures.took

pub returns-clause-took : goal.returns-clause-took
returns-clause-took g c =
    let at = account g.W.Write.contents in
    took_both (at c.args.output.now) (at c.pass.new.output) (at c.conclude.new.output) c.in_ok-passed.ensures.took c.conclude.ensures.took

pub returns-clause-prints : goal.returns-clause-prints
returns-clause-prints g c =
    let at = account g.W.Write.contents in
    run_ends c.args.network.mailboxes.items c.args.agenda.servers.count c.in_ok-passed.passed c.in_ok-told.told c.and.result (at c.args.output.now) (at c.pass.new.output) (at c.conclude.new.output)
    c.in_ok-passed.ensures.took c.in_ok-told.ensures.prints c.and.ensures
