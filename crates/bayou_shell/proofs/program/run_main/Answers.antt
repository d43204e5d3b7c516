use Rattle.std.proofs.Common.{◌∙◌, Err, ap, map, refl, subst, sym}
use Rattle.std.proofs.KnownBytes.{Keeps-refl}
use Rattle.bayou_command.specs.declared.Stop.{Stop}
use Rattle.bayou_command.specs.Words.{Asked, Names, task_seen}
use Rattle.bayou_print.specs.declared.fault.RunFault.TheVariants.{Memory}
use Rattle.bayou_streams.specs.Account.{account}
use Rattle.bayou_streams.specs.Laws.Taken.{Pays-none}
use Rattle.bayou_shell.specs.declared.errand.Errand.TheVariants.{Done}
use Rattle.bayou_shell.specs.Program.{WorksOn, asked, input_of_asked, mistaken, no_memory}
use Rattle.bayou_shell.proofs.Tasks.{asked_once, no_mistake, no_text, pays_none, pays_one, works_so, works_unread}
use Rattle.bayou_shell.proofs.program.run_main.Goals as goal

pub returns-in-Ok-clause-named : goal.returns-in-Ok-clause-named
returns-in-Ok-clause-named g c =
    λ what name is from. let same = asked_once (map g.S.AsStr.text c.args.words.now) what (task_seen c.in-Ok.task) is c.in-Ok.ensures in (
      c.do_task-came.result,
      subst (λ (a : Asked). WorksOn {R = g.row.F-Reader.Denot} (g.F.Files.opens name) (g.F.Files.refuses name) g.F.Reader.Read.remaining (g.F.Files.kept c.do_task-came.new.files) a c.do_task-came.result
          (g.W.Write.contents c.args.output.now.channel.writer) (g.W.Write.contents c.do_task-came.new.output.channel.writer)) (sym same)
          (c.do_task-came.ensures.named name (sym (ap input_of_asked same) ∙ from)),
      c.end.ensures.errand,
      c.do_task-came.ensures.written,
      c.end.ensures.told,
    )

pub returns-in-Err-Asked-clause-others : goal.returns-in-Err-Asked-clause-others
returns-in-Err-Asked-clause-others g c =
    λ unasked. let (ended, written, status, told) = c.show.ensures.written in
    (c.show.result, refl, asked (subst (λ (stop : Stop). Names (map g.S.AsStr.text c.args.words.now) (Err stop)) c.in-Err-Asked.field-0-is c.in-Err-Asked.ensures) c.as_str.result.now ended written status told)

pub returns-in-Err-Memory-clause-standard : goal.returns-in-Err-Memory-clause-standard
returns-in-Err-Memory-clause-standard g c =
    λ what is from. works_unread (g.R.Read.remaining c.args.input.now.reader) what c.tell.result (g.W.Write.contents c.args.output.now.channel.writer)
    c.args.input.now.read_failed c.args.output.now.channel.write_failed c.args.input.now.turns_left c.args.output.now.channel.turns_left _ _ _ c.tell.ensures.status c.tell.ensures.told

pub returns-in-Err-Memory-clause-named : goal.returns-in-Err-Memory-clause-named
returns-in-Err-Memory-clause-named g c = λ what name is from. (Err Memory, no_memory refl (Keeps-refl _), ap Done c.tell.ensures.status, tt, c.tell.ensures.told)

pub returns-in-Ok-clause-standard : goal.returns-in-Ok-clause-standard
returns-in-Ok-clause-standard g c =
    λ what is from. let same = asked_once (map g.S.AsStr.text c.args.words.now) what (task_seen c.in-Ok.task) is c.in-Ok.ensures in
    let here = sym (ap input_of_asked same) ∙ from in
    rw same
    (works_so (g.R.Read.remaining c.args.input.now.reader) (task_seen c.in-Ok.task) c.do_task-came.result c.end.result (g.W.Write.contents c.args.output.now.channel.writer)
    (g.W.Write.contents c.do_task-came.new.output.channel.writer) _ _ _ _ _ _ _ (c.do_task-came.ensures.standard here) c.end.ensures.errand
    (c.do_task-came.ensures.read here) c.do_task-came.ensures.written c.end.ensures.told)

pub returns-in-Ok-clause-unread : goal.returns-in-Ok-clause-unread
returns-in-Ok-clause-unread g c = λ none. c.do_task-came.ensures.unread (λ from. none (task_seen c.in-Ok.task, c.in-Ok.ensures, from))

pub returns-in-Ok-clause-others : goal.returns-in-Ok-clause-others
returns-in-Ok-clause-others g c = λ none. absurd (none (task_seen c.in-Ok.task, c.in-Ok.ensures))

pub returns-in-Ok-clause-clean : goal.returns-in-Ok-clause-clean
returns-in-Ok-clause-clean g c = λ none. absurd (none (task_seen c.in-Ok.task, c.in-Ok.ensures))

pub returns-in-Ok-clause-paid : goal.returns-in-Ok-clause-paid
returns-in-Ok-clause-paid g c =
    pays_one (account g.W.Write.contents c.args.output.now) (account g.W.Write.contents c.do_task-came.new.output) c.do_task-came.result c.do_task-came.ensures.paid

pub returns-in-Ok-clause-paid_whole : goal.returns-in-Ok-clause-paid_whole
returns-in-Ok-clause-paid_whole g c =
    λ what is well. pays_none (account g.W.Write.contents c.args.output.now) (account g.W.Write.contents c.do_task-came.new.output) c.do_task-came.result c.end.result
    c.end.ensures.errand well c.do_task-came.ensures.paid

pub returns-in-Err-Asked-clause-standard : goal.returns-in-Err-Asked-clause-standard
returns-in-Err-Asked-clause-standard g c =
    λ what is from. let text = subst (λ (stop : Stop). Names (map g.S.AsStr.text c.args.words.now) (Err stop)) c.in-Err-Asked.field-0-is c.in-Err-Asked.ensures in
    absurd (no_text (map g.S.AsStr.text c.args.words.now) what text is)

pub returns-in-Err-Asked-clause-named : goal.returns-in-Err-Asked-clause-named
returns-in-Err-Asked-clause-named g c =
    λ what name is from. let text = subst (λ (stop : Stop). Names (map g.S.AsStr.text c.args.words.now) (Err stop)) c.in-Err-Asked.field-0-is c.in-Err-Asked.ensures in
    absurd (no_text (map g.S.AsStr.text c.args.words.now) what text is)

pub returns-in-Err-Asked-clause-paid_whole : goal.returns-in-Err-Asked-clause-paid_whole
returns-in-Err-Asked-clause-paid_whole g c =
    λ what is low. let text = subst (λ (stop : Stop). Names (map g.S.AsStr.text c.args.words.now) (Err stop)) c.in-Err-Asked.field-0-is c.in-Err-Asked.ensures in
    absurd (no_text (map g.S.AsStr.text c.args.words.now) what text is)

pub returns-in-Err-Refused-clause-standard : goal.returns-in-Err-Refused-clause-standard
returns-in-Err-Refused-clause-standard g c =
    λ what is from. let why = subst (λ (stop : Stop). Names (map g.S.AsStr.text c.args.words.now) (Err stop)) c.in-Err-Refused.field-0-is c.in-Err-Refused.ensures in
    absurd (no_mistake (map g.S.AsStr.text c.args.words.now) what why is)

pub returns-in-Err-Refused-clause-named : goal.returns-in-Err-Refused-clause-named
returns-in-Err-Refused-clause-named g c =
    λ what name is from. let why = subst (λ (stop : Stop). Names (map g.S.AsStr.text c.args.words.now) (Err stop)) c.in-Err-Refused.field-0-is c.in-Err-Refused.ensures in
    absurd (no_mistake (map g.S.AsStr.text c.args.words.now) what why is)

pub returns-in-Err-Refused-clause-others : goal.returns-in-Err-Refused-clause-others
returns-in-Err-Refused-clause-others g c =
    λ none. (_, refl, mistaken (subst (λ (stop : Stop). Names (map g.S.AsStr.text c.args.words.now) (Err stop)) c.in-Err-Refused.field-0-is c.in-Err-Refused.ensures) refl (Keeps-refl _) _ c.write_text.ensures.put)

pub returns-in-Err-Refused-clause-paid : goal.returns-in-Err-Refused-clause-paid
returns-in-Err-Refused-clause-paid g c = Pays-none _ 1

pub returns-in-Err-Memory-clause-paid : goal.returns-in-Err-Memory-clause-paid
returns-in-Err-Memory-clause-paid g c = Pays-none _ 1
