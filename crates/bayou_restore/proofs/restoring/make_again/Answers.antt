use Rattle.std.proofs.Common.{◌≡◌, ◌≢◌, ◌+◌, ◌-◌, ◌∙◌, List, Ok, Err, get_or, length, ap, sym, subst, false, true}
use Rattle.bayou_base.specs.declared.wid.Wid.{Wid}
use Rattle.bayou_lang.specs.declared.write.Write.{Write}
use Rattle.bayou_server.specs.Server.{own_count}
use Rattle.bayou_server.specs.Writes.{Writes, own_made}
use Rattle.bayou_server.specs.declared.answer.Written.{Written}
use Rattle.bayou_restore.specs.Inner.Steps.{MakesAgain}
use Rattle.bayou_restore.specs.declared.fault.RestoreFault.{RestoreFault}
use Rattle.bayou_restore.proofs.Making.{IsReadyFor, known_write, other_write, refused_write, same_write_made}
use Rattle.bayou_restore.proofs.restoring.make_again.Goals as goal

pub returns-then-is_last-clause-makes : goal.returns-then-is_last-clause-makes
returns-then-is_last-clause-makes g c =
    let old = c.args.server.now.core in
    let new = c.write.new.self.core in
    let own = c.args.own.now in
    let tag = c.in-Some.tag in
    let program = c.program.result.now in
    let ready : IsReadyFor c.args.gathered.now old own tag program = record {
      stands = c.requires.stands;
      fitting = c.write.ensures.sound.0.holds.sound.fitting;
      among = c.requires.own;
      program_is = c.program.ensures;
      number = c.in-Some.ensures.value.2 ∙ ap (λ (wid : Wid). wid.seq) c.wid-number.ensures;
    } in
    let writes = subst (λ (w : Written). Writes old tag c.zero.result program (Ok w) new) c.in-Ok-New.field-0-is c.in-Ok-New.ensures.writes in
    let more = c.in-Ok-New.ensures.own ∙ ap (λ (w : Written). own_count old + own_made (Ok w)) c.in-Ok-New.field-0-is in
    let last = subst (λ (l : List Write). get_or l (length l - 1) own ≡ own) c.receipts.ensures.value (c.is_last.ensures.0 c.if-is_last.true) in
    (same_write_made c.args.gathered.now old new own tag c.zero.result program c.in-Ok-New.field-0-0 ready writes more last).0

pub returns-else-is_last-clause-makes : goal.returns-else-is_last-clause-makes
returns-else-is_last-clause-makes g c =
    let old = c.args.server.now.core in
    let new = c.write.new.self.core in
    let own = c.args.own.now in
    let tag = c.in-Some.tag in
    let program = c.program.result.now in
    let ready : IsReadyFor c.args.gathered.now old own tag program = record {
      stands = c.requires.stands;
      fitting = c.write.ensures.sound.0.holds.sound.fitting;
      among = c.requires.own;
      program_is = c.program.ensures;
      number = c.in-Some.ensures.value.2 ∙ ap (λ (wid : Wid). wid.seq) c.wid-number.ensures;
    } in
    let writes = subst (λ (w : Written). Writes old tag c.zero.result program (Ok w) new) c.in-Ok-New.field-0-is c.in-Ok-New.ensures.writes in
    let other : get_or new.held (length new.held - 1) own ≢ own = λ same.
    let yes = c.is_last.ensures.1 (subst (λ (l : List Write). get_or l (length l - 1) own ≡ own) (sym c.receipts.ensures.value) same) in
    let both : true ≡ false = sym yes ∙ c.if-is_last.false in
    cc in
    other_write c.args.gathered.now old new own tag c.zero.result program c.in-Ok-New.field-0-0 ready writes other

pub returns-in-Ok-Known-clause-makes : goal.returns-in-Ok-Known-clause-makes
returns-in-Ok-Known-clause-makes g c =
    let old = c.args.server.now.core in
    let new = c.write.new.self.core in
    let own = c.args.own.now in
    let tag = c.in-Some.tag in
    let program = c.program.result.now in
    let ready : IsReadyFor c.args.gathered.now old own tag program = record {
      stands = c.requires.stands;
      fitting = c.write.ensures.sound.0.holds.sound.fitting;
      among = c.requires.own;
      program_is = c.program.ensures;
      number = c.in-Some.ensures.value.2 ∙ ap (λ (wid : Wid). wid.seq) c.wid-number.ensures;
    } in
    let writes = subst (λ (w : Written). Writes old tag c.zero.result program (Ok w) new) c.in-Ok-Known.field-0-is c.in-Ok-Known.ensures.writes in
    known_write c.args.gathered.now old new own tag c.zero.result program c.in-Ok-Known.field-0-0 ready writes

pub returns-in-Err-clause-makes : goal.returns-in-Err-clause-makes
returns-in-Err-clause-makes g c =
    let old = c.args.server.now.core in
    let new = c.write.new.self.core in
    let own = c.args.own.now in
    let tag = c.in-Some.tag in
    let program = c.program.result.now in
    let ready : IsReadyFor c.args.gathered.now old own tag program = record {
      stands = c.requires.stands;
      fitting = c.write.ensures.sound.0.holds.sound.fitting;
      among = c.requires.own;
      program_is = c.program.ensures;
      number = c.in-Some.ensures.value.2 ∙ ap (λ (wid : Wid). wid.seq) c.wid-number.ensures;
    } in
    subst (λ (fault : RestoreFault). MakesAgain c.args.gathered.now old own (Err fault) new) (sym c.unmade.ensures)
    (refused_write c.args.gathered.now old new own tag c.zero.result program c.in-Err.fault c.wid-number.result.seq ready c.zero.ensures c.in-Err.ensures.writes)
