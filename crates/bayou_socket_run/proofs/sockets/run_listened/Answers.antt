use Rattle.bayou_print.specs.Waiting.{stage}
use Rattle.bayou_socket_run.proofs.Told.{fault_told, nothing_told, part_of_whole}
use Rattle.bayou_socket_run.proofs.sockets.run_listened.Goals as goal

pub returns-in-Err-clause-told : goal.returns-in-Err-clause-told
returns-in-Err-clause-told g c =
    let start = stage g.W.Write.contents c.args.output.now c.args.waiting in
    fault_told c.fault_of.result start start c.fault_of.ensures.phase (part_of_whole start start (nothing_told start))
