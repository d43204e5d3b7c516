use Rattle.std.proofs.Common.{◌≡◌, ◌∙◌, Option, Some, ap, refl, subst, sym}
use Rattle.std.specs.Option.{option_map}
use Rattle.bayou_base.specs.declared.server.ServerId.{ServerId}
use Rattle.bayou_session.specs.Needs.{Told}
use Rattle.bayou_text.specs.Said.{operation_said}
use Rattle.bayou_machine.specs.Filed.{Files, what_told}
use Rattle.bayou_machine.specs.Standing.{tried_at}
use Rattle.bayou_machine.proofs.Turned.{tries_turn}
use Rattle.bayou_machine.proofs.machine.Machine.operate.Goals as goal

pub returns-in-Some : goal.returns-in-Some
returns-in-Some g c =
    let operation = c.args.operation in
    let server = c.in-Some.server in
    let (filed, is, files) = c.file.ensures in
    let tried : tried_at c.self.inside.parties (operation_said operation) ≡ Some (operation.session.index, server.index) = sym c.server_of-tried.ensures ∙ ap (λ (told : Option ServerId). option_map (λ (server : ServerId). (operation.session.index, server.index)) told) c.in-Some.is in
    rw (← c.self.view_is)
    (tries_turn _ _ operation.session.index server.index (operation_said operation) c.operate-answer.result tried
    (record {
      step = c.operate-answer.ensures;
      name = operation.session;
      is_named = refl;
      filed = filed;
      files = subst (λ (told : Told). Files operation.session.index server.index told (what_told c.operate-answer.result) filed) c.session-session.ensures files;
      only = is;
    }))
