-- That what a device keeps is never lost, and that nothing else of a device decides.
use Rattle.std.proofs.Common.{◌≡◌, ℕ, List, [], ◌∷◌, ◌++◌, Option, None, Some, Result, Ok, Err, refl, sym, ◌∙◌, ap, subst}
use Rattle.bayou_device.specs.declared.device.Device.{Ghosts}
use Rattle.bayou_journal.specs.Honest as journals
use Rattle.bayou_journal.specs.Honest.{BeginsWithBodies, HasJournal, IsPassing}
use Rattle.bayou_journal.specs.Opened.{Found}
use Rattle.bayou_journal.specs.Opening.{HasOpened, HasRefused}
use Rattle.bayou_journal.specs.declared.fault.OpenFault.{OpenFault}
use Rattle.bayou_journal.specs.declared.fault.OpenFault.TheVariants as opening
use Rattle.bayou_journal.specs.Versions.{Body}
use Rattle.bayou_wire.specs.declared.record.Record.{Record}
use Rattle.bayou_server.specs.declared.answer.Reopened.{Reopened}
use Rattle.bayou_server.specs.declared.fault.JournalFault.TheVariants.{Device, NotAJournal, OtherServer}
use Rattle.bayou_server.specs.declared.fault.ReopenFault.{ReopenFault}
use Rattle.bayou_server.specs.declared.fault.ReopenFault.TheVariants as reopening
use Rattle.bayou_server.specs.Honest.{IsLeft, LosesNothing, list_of}
use Rattle.bayou_server.specs.Server.{ServerState, records_of}
use Rattle.bayou_server.specs.Stored.{ReopensJournal, Stores}
use Rattle.bayou_server.proofs.Deciding.{OneRecord, one_record}

abbrev pub SameDevice : {D : Type 0} → Ghosts D → Type 0
SameDevice {D} d = (server : ℕ) (bodies : List Body) (doubts : List Body) (device other : D) → d.content other ≡ d.content device → d.kept other ≡ d.kept device
    → journals.IsHonestDevice d server bodies doubts device → journals.IsHonestDevice d server bodies doubts other

abbrev pub FindsKept : {D : Type 0} → Ghosts D → Type 0
FindsKept {D} d = (server : ℕ) (bodies : List Body) (old new : D) (found : Found) (last : List ℕ) → d.is_modelled
    → BeginsWithBodies server bodies (d.kept old) → HasOpened d server old new found last → (more : List Body) × (found.bodies ≡ bodies ++ more)

abbrev pub PassesKept : {D : Type 0} → Ghosts D → Type 0
PassesKept {D} d = (server : ℕ) (bodies : List Body) (old new : D) (fault : OpenFault) → d.is_modelled
    → BeginsWithBodies server bodies (d.kept old) → HasRefused d server old new fault → IsPassing fault

pub same_left : {D : Type 0} (d : Ghosts D) → SameDevice d → (id : ℕ) (held : List Record) (doubt : Option Record) (last : List ℕ) (device other : D) → d.content other ≡ d.content device → d.kept other ≡ d.kept device
    → IsLeft d id held doubt last device → IsLeft d id held doubt last other
same_left d law id held None last device other content kept left = record {
  bodies = left.bodies;
  stores = left.stores;
  whole = record {
    has = subst (λ (b : List ℕ). HasJournal id left.bodies last b) (sym content) left.whole.has;
    synced = kept ∙ left.whole.synced ∙ sym content;
  };
}
same_left d law id held (Some doubt) last device other content kept left = record {
  bodies = left.bodies;
  body = left.body;
  stores = left.stores;
  stores_doubt = left.stores_doubt;
  honest = law id left.bodies (list_of left.body) device other content kept left.honest;
}

-- records whose bodies begin with those of others begin with them
pub begins_with : OneRecord → (id : ℕ) (front more : List Body) (stored held : List Record) → Stores id (front ++ more) stored → Stores id front held
    → (rest : List Record) × (stored ≡ held ++ rest)
begins_with law id [] more stored [] stores begins = (stored, refl)
begins_with law id [] more stored (other ∷ held) stores begins = absurd begins
begins_with law id (body ∷ front) more stored [] stores begins = absurd begins
begins_with law id (body ∷ front) more [] (other ∷ held) stores begins = absurd stores
begins_with law id (body ∷ front) more (one ∷ stored) (other ∷ held) stores begins =
    let next = begins_with law id front more stored held stores.1 begins.1 in
    (next.0, ap (λ (r : Record). r ∷ stored) (one_record law id body one other stores.0 begins.0) ∙ ap (λ (l : List Record). other ∷ l) next.1)

pub never_lost : {D : Type 0} (d : Ghosts D) → FindsKept d → PassesKept d → (bodies : List Body) (result : Result Reopened ReopenFault) (old new : ServerState D) → d.is_modelled
    → Stores old.core.id bodies (records_of old.core) → BeginsWithBodies old.core.id bodies (d.kept old.device) → ReopensJournal d old result new → LosesNothing result
never_lost d law passes bodies (Ok reopened) old new modelled stores begins told = tt
never_lost d law passes bodies (Err reopening.NotDown) old new modelled stores begins told = tt
never_lost d law passes bodies (Err (reopening.Journal Device)) old new modelled stores begins told = tt
never_lost d law passes bodies (Err (reopening.BadRecord at)) old new modelled stores begins told = tt
never_lost d law passes bodies (Err reopening.OutOfMemory) old new modelled stores begins told = tt
never_lost d law passes bodies (Err (reopening.Journal NotAJournal)) old new modelled stores begins told = passes old.core.id bodies old.device new.device opening.NotAJournal modelled begins told
never_lost d law passes bodies (Err (reopening.Journal OtherServer)) old new modelled stores begins told = passes old.core.id bodies old.device new.device opening.OtherServer modelled begins told
never_lost d law passes bodies (Err reopening.Lost) old new modelled stores begins (found, opens, lost) =
    let more = law old.core.id bodies old.device new.device (record { bodies = found; dropped = opens.dropped }) new.last modelled begins opens.opened in
    lost (record { front = bodies; more = more.0; stores = stores; split = more.1 })
