use Rattle.std.proofs.Common.{◌∙◌, List, ℕ, subst}
use Rattle.bayou_command.specs.Words.{task_seen}
use Rattle.bayou_shell.specs.Program.{WorksOn}
use Rattle.bayou_shell.proofs.Tasks.{same_name}
use Rattle.bayou_shell.proofs.program.do_task.Goals as goal

pub returns-in-File-clause-named : goal.returns-in-File-clause-named
returns-in-File-clause-named g c =
    λ name from. subst (λ (n : List ℕ). WorksOn {R = g.row.F-Reader.Denot} (g.F.Files.opens n) (g.F.Files.refuses n) g.F.Reader.Read.remaining (g.F.Files.kept c.work_on.new.files) (task_seen c.args.task) c.work_on.result
    (g.W.Write.contents c.args.output.now.channel.writer) (g.W.Write.contents c.work_on.new.output.channel.writer)) (same_name c.in-File.name.now name (c.in-File.ensures ∙ from))
    c.work_on.ensures.works
