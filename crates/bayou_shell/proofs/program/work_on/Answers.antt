use Rattle.std.proofs.Common.{IfSome, subst}
use Rattle.bayou_command.specs.Words.{task_seen}
use Rattle.bayou_shell.specs.Program.{Works, opened}
use Rattle.bayou_shell.proofs.program.work_on.Goals as goal

pub returns-in-Ok-clause-works : goal.returns-in-Ok-clause-works
returns-in-Ok-clause-works g c =
    opened c.in-Ok.reader c.in-Ok.ensures.opened
    (subst (λ reader. IfSome (g.F.Reader.Read.remaining reader) (λ text. Works (task_seen c.args.task) text c.work-came.result (g.W.Write.contents c.args.output.now.channel.writer)
    (g.W.Write.contents c.work-came.new.output.channel.writer))) c.new-file.ensures.reader c.work-came.ensures.works)
    c.work-came.new.input.read_failed c.work-came.new.input.turns_left c.keep.ensures c.work-came.ensures.read
