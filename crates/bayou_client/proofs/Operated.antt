-- What becomes of a session and its share.
use Rattle.std.proofs.Common.{arith, ◌≡◌, Bool, true, false, ℕ, ◌+◌, ◌-◌, List, Option, Some, None, IsSome, Result, Ok, Err, refl, ap, subst, sym, ◌∙◌}
use Rattle.std.proofs.lemmas.Option.{same_Some}
use Rattle.bayou_audit.specs.declared.totals.Totals.{Totals}
use Rattle.bayou_audit.specs.Totals.{Shared, counted, with_slip, with_slip_out, without_slip}
use Rattle.bayou_base.specs.declared.answer.Accepted.{Accepted}
use Rattle.bayou_base.specs.declared.entry.Entry.{Entry}
use Rattle.bayou_base.specs.declared.entry.What.{What}
use Rattle.bayou_base.specs.declared.server.ServerId.{ServerId}
use Rattle.bayou_client.specs.declared.asker.Asked.{Asked}
use Rattle.bayou_client.specs.declared.asker.Heard.{Heard}
use Rattle.bayou_client.specs.declared.fault.LinkFault.{LinkFault}
use Rattle.bayou_client.specs.Inner.Spending.{Spends, as_told}
use Rattle.bayou_client.specs.Operating.{Asking, Ends, Hears, IsEntered, Operates, Operation, Sharing, after_hearing, after_told, asking_again, asks_at, asks_once_more, entered_of, sending, with_entered, without_share, writing}
use Rattle.bayou_lang.specs.declared.program.Program.{Program}
use Rattle.bayou_session.specs.Needs.{Told, asks_first}

-- ---- the share

slip_same : (totals : Totals) → without_slip (with_slip totals) ≡ totals
slip_same totals = ap (λ (n : ℕ). record totals { slips = n }) (one_less totals.slips)
  where
    one_less : (n : ℕ) → n + 1 - 1 ≡ n
    one_less n = omega arith

-- a slip that was handed out was spent on what was entered
entered : (session : Told) (server : ServerId) (what : Option What) (entry : Option Entry) (share new : Shared) → IsEntered session server what entry → Spends entry (with_slip_out share) new
    → new ≡ with_entered what share
entered session server None None share new is spent = spent ∙ ap (λ (totals : Totals). record share { totals = totals }) (slip_same share.totals)
entered session server None (Some entry) share new is spent = absurd (let none : ◌≡◌ {A = Option Entry} (Some entry) None = is in cc)
entered session server (Some what) None share new is spent = absurd is
entered session server (Some what) (Some entry) share new is spent =
    spent ∙ ap (λ (w : What). record share { totals = counted w (without_slip (with_slip share.totals)) }) is.what_is
    ∙ ap (λ (totals : Totals). record share { totals = counted what totals }) (slip_same share.totals)

-- ---- the session

-- what was said of it is told
pub hears_of : {A : Type 0} (operation : Operation A) (server : ServerId) (old new : Asking) (before after : Option (List ℕ)) (read : List ℕ) (was is : Bool) (gone : Type 0) (said told : Result A LinkFault) (entry : Option Entry)
    → said ≡ told → Ends operation before after read was is gone said → new ≡ after_told operation old told → IsEntered (operation.begins old).session server (entered_of operation.what said) entry
    → Hears operation server old new before after read was is gone (record { told = told; entry = entry })
hears_of {A} operation server old new before after read was is gone said told entry same ends becomes entered = record {
  ends = subst (λ (r : Result A LinkFault). Ends operation before after read was is gone r) same ends;
  becomes = becomes;
  entered = subst (λ (r : Result A LinkFault). IsEntered (operation.begins old).session server (entered_of operation.what r) entry) same entered;
}

-- a Write that was begun is sent
pub hears_writing : (old : Asking) (server : ServerId) (program : Program) (begun : Asking) (asked : Asked) (new : Asking) (before after : Option (List ℕ)) (read : List ℕ) (was is : Bool) (gone : Type 0) (heard : Heard Accepted)
    → begun ≡ asks_at old server program → begun.asked ≡ Some asked → Hears (sending begun.session asked) asked.server begun new before after read was is gone heard
    → Hears (writing old.session server program) server old new before after read was is gone heard
hears_writing old server program begun asked new before after read was is gone heard begins same hears =
    let sent = subst (λ (b : Asking). (b.asked ≡ Some asked) × Hears (sending b.session asked) asked.server b new before after read was is gone heard) begins (same, hears) in
    of (subst (λ (a : Asked). Hears (sending (asks_first old.session) a) a.server (asks_at old server program) new before after read was is gone heard) (sym (same_Some first asked sent.0)) sent.1)
  where
    first : Asked
    first = record { server = server; program = program }

    of : Hears (sending (asks_first old.session) first) server (asks_at old server program) new before after read was is gone heard
        → Hears (writing old.session server program) server old new before after read was is gone heard
    of h =
        let (request, asks, ends) = h.ends in
        let (number, tag, at, tagged, spelled) = asks in
        record {
          ends = (request, (tag, (tagged.0, tagged.1, tagged.2 ∙ sym (same_Some (old.session.begun + 1) number at)), spelled), ends);
          becomes = h.becomes;
          entered = h.entered;
        }

-- the Write that was asked last is sent once more
pub hears_again : (old begun : Asking) (asked : Asked) (new : Asking) (before after : Option (List ℕ)) (read : List ℕ) (was is : Bool) (gone : Type 0) (heard : Heard Accepted)
    → begun ≡ asks_once_more old → begun.asked ≡ Some asked → Hears (sending begun.session asked) asked.server begun new before after read was is gone heard
    → (old.asked ≡ Some asked) × Hears (asking_again old.session asked) asked.server old new before after read was is gone heard
hears_again old begun asked new before after read was is gone heard begins same hears =
    let sent = subst (λ (b : Asking). (b.asked ≡ Some asked) × Hears (sending b.session asked) asked.server b new before after read was is gone heard) begins (same, hears) in
    (sent.0, record { ends = sent.1.ends; becomes = sent.1.becomes; entered = sent.1.entered })

-- ---- both

-- what was heard was entered
pub operates : {A : Type 0} (operation : Operation A) (server : ServerId) (old : Sharing) (new : Asking) (share : Shared) (before after : Option (List ℕ)) (read : List ℕ) (was is : Bool) (gone : Type 0) (heard : Heard A)
    → Hears operation server (without_share old) new before after read was is gone heard → Spends heard.entry (with_slip_out old.share) share
    → Operates operation old (record { session = new.session; share = share; asked = new.asked }) before after read was is gone (as_told heard.told)
operates {A} operation server old new share before after read was is gone heard hears spent = of heard.told (hears.ends, same)
  where
    same : ◌≡◌ {A = Sharing} (record { session = new.session; share = share; asked = new.asked }) (after_hearing operation old heard.told)
    same =
        ap (λ (a : Asking). record { session = a.session; share = share; asked = a.asked }) hears.becomes
        ∙ ap (λ (s : Shared). record { session = (after_told operation (without_share old) heard.told).session; share = s; asked = (after_told operation (without_share old) heard.told).asked })
        (entered (operation.begins (without_share old)).session server (entered_of operation.what heard.told) heard.entry old.share share hears.entered spent)

    of : (told : Result A LinkFault) → Ends operation before after read was is gone told × ◌≡◌ {A = Sharing} (record { session = new.session; share = share; asked = new.asked }) (after_hearing operation old told)
        → Operates operation old (record { session = new.session; share = share; asked = new.asked }) before after read was is gone (as_told told)
    of (Ok answer) ends = ends
    of (Err fault) ends = ends

-- there is one
pub some_of : {A : Type 0} (o : Option A) → IsSome o → (a : A) × (o ≡ Some a)
some_of (Some a) is = (a, refl)
some_of None is = absurd (let none : false ≡ true = is in cc)
