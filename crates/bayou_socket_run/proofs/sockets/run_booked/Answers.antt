use Rattle.bayou_streams.specs.Account.{account}
use Rattle.bayou_socket_run.proofs.Settled.{prints_run}
use Rattle.bayou_socket_run.proofs.sockets.run_booked.Goals as goal

pub returns-clause-prints : goal.returns-clause-prints
returns-clause-prints g c =
    let at = account g.W.Write.contents in
    prints_run _ c.args.number.count c.run_setting.result (at c.args.output.now) (at c.run_setting.new.output) c.run_setting.ensures.took c.run_setting.ensures.prints
