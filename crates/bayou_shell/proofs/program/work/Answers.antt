use Rattle.bayou_shell.proofs.Nets.{nothing_written}
use Rattle.bayou_shell.proofs.program.work.Goals as goal

pub returns-in-Net-clause-works : goal.returns-in-Net-clause-works
returns-in-Net-clause-works g c = rw c.in-Net.is (c.read_net.ensures.nets (g.W.Write.contents c.args.output.now.channel.writer))

pub returns-in-Net-clause-written : goal.returns-in-Net-clause-written
returns-in-Net-clause-written g c = nothing_written _ _ (g.R.Read.remaining c.args.input.now.reader) c.read_net.result c.read_net.ensures.fault
