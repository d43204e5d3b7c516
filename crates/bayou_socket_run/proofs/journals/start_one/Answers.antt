use Rattle.std.proofs.Common.{◌≡◌, ◌∙◌, ℕ, List, Option, ap, subst}
use Rattle.bayou_journal.specs.declared.careful.DamagedEntry.{DamagedEntry}
use Rattle.bayou_socket_run.specs.Damage.{TellsEntry}
use Rattle.bayou_socket_run.proofs.Damaged.{refusal_told}
use Rattle.bayou_streams.specs.Account.{account}
use Rattle.bayou_socket_run.proofs.journals.start_one.Goals as goal

pub returns-clause-told : goal.returns-clause-told
returns-clause-told g c = refusal_told c.refuse.result _ _ c.args.index c.args.servers.count _ _ c.requires (c.as_str-in-Err.ensures.value ∙ c.in_ok-path.ensures.ok) c.refuse.ensures.told

pub returns-in-Ok-start-clause-told : goal.returns-in-Ok-start-clause-told
returns-in-Ok-start-clause-told g c =
    let at = account g.E.Write.contents in
    let new = c.tell_entry.new.told in
    let entry : c.entry.result ≡ c.in_ok-server-in-Ok-start.server.value.device.entry = c.entry.ensures ∙ ap (λ device. device.entry) (c.see_device.ensures ∙ ap (λ server. server.device) c.deref.ensures) in
    subst (λ (name : List ℕ). TellsEntry name c.in_ok-server-in-Ok-start.server.value.device.entry (at c.args.told.now) (at new) new.channel.write_failed)
    (c.as_str-in-Ok-start.ensures.value ∙ c.in_ok-path.ensures.ok)
    (subst (λ (dropped : Option DamagedEntry). TellsEntry c.as_str-in-Ok-start.result.now dropped (at c.args.told.now) (at new) new.channel.write_failed) entry c.in_ok-tell_entry-in-Ok-start.ensures.told)
