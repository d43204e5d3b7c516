-- What a device has of sessions, behind entries that were added, and that could not be.
use Rattle.bayou_client.specs.Operating.{Asking}
use Rattle.std.proofs.Common.{◌≡◌, ℕ, true, false, List, [], ◌∷◌, ◌++◌, Option, Some, refl, sym, subst, inl, inr}
use Rattle.std.specs.Prelude.{◌⊎◌, map}
use Rattle.bayou_device.specs.declared.device.Device.{Ghosts}
use Rattle.bayou_journal.specs.Chain.{IsBody, entry, link}
use Rattle.bayou_journal.specs.Honest.{IsHonest, IsHonestDevice, IsWhole, OnlyTears, added_body}
use Rattle.bayou_journal.specs.Opened.{Found}
use Rattle.bayou_journal.specs.Opening.{FailsToAdd, HasOpened, KeepsChains}
use Rattle.bayou_journal.specs.Versions.{Body}
use Rattle.bayou_remember.specs.Inner.Reading.{CantTell}
use Rattle.bayou_remember.specs.Memory.{AreLast, AreSpelled, HasAll, HasFailedToKeep, HasNotRemembered, HasRemembered, MemoryState, OpensTo}
use Rattle.bayou_remember.specs.Spelling.{SpellsKept, in_run}
use Rattle.bayou_remember.specs.declared.memory.RememberFault.{RememberFault}
use Rattle.bayou_remember.specs.declared.memory.RememberFault.TheVariants.{Journal, NotKept, OutOfMemory}
use Rattle.bayou_remember.specs.declared.memory.TheConstants.{KEEPER}
use Rattle.bayou_remember.proofs.Remembering.{KeepOne, last_in_run, zip_more}

-- ---- what the journal's laws say

abbrev pub AddsWhole : {D : Type 0} → Ghosts D → Type 0
AddsWhole {D} d = (server : ℕ) (bodies : List Body) (last body : List ℕ) (old new : D) → IsWhole d server bodies last old → IsBody body
    → d.content new ≡ d.content old ++ entry last body → d.kept new ≡ d.content new → IsWhole d server (bodies ++ added_body body ∷ []) (link last body) new

abbrev pub WholeIsHonest : {D : Type 0} → Ghosts D → Type 0
WholeIsHonest {D} d = (server : ℕ) (bodies : List Body) (doubts : List Body) (last : List ℕ) (device : D) → IsWhole d server bodies last device → IsHonestDevice d server bodies doubts device

abbrev pub FailsHonestly : {D : Type 0} → Ghosts D → Type 0
FailsHonestly {D} d = (server : ℕ) (bodies : List Body) (last body : List ℕ) (old new : D) → OnlyTears d → IsBody body → IsWhole d server bodies last old
    → FailsToAdd d.may_leave (entry last body) (d.content old) (d.content new) → KeepsChains (d.kept old) (d.kept new) → IsHonestDevice d server bodies (added_body body ∷ []) new

abbrev pub OpensHonestly : {D : Type 0} → Ghosts D → Type 0
OpensHonestly {D} d = (server : ℕ) (bodies : List Body) (doubts : List Body) (old new : D) (found : Found) (last : List ℕ) → d.is_modelled
    → IsHonestDevice d server bodies doubts old → HasOpened d server old new found last → IsHonest bodies doubts found.bodies

abbrev pub OpensWhole : {D : Type 0} → Ghosts D → Type 0
OpensWhole {D} d = (server : ℕ) (old new : D) (found : Found) (last : List ℕ) → d.is_modelled → HasOpened d server old new found last → IsWhole d server found.bodies last new

-- ---- an entry

-- a device that had these and nothing else has this one too
pub adds_one : {D : Type 0} (d : Ghosts D) → AddsWhole d → (old new : MemoryState D) (kept : Asking) (body : List ℕ) → IsBody body → SpellsKept body kept
    → d.content new.device ≡ d.content old.device ++ entry old.last body → d.kept new.device ≡ d.content new.device → new.last ≡ link old.last body
    → (all : List Asking) → HasAll d old all → HasAll d new (all ++ kept ∷ [])
adds_one d law old new kept body is_body spelled added synced lasts all has = (
  has.0 ++ added_body body ∷ [],
  zip_more (λ body one. SpellsKept body.bytes one) has.0 all (added_body body) kept has.1 spelled,
  subst (λ l. IsWhole d KEEPER (has.0 ++ added_body body ∷ []) l new.device) (sym lasts) (law KEEPER has.0 old.last body old.device new.device has.2 is_body added synced),
)

-- ---- a refusal

-- a journal was opened whose bodies can't be told
pub not_told : {D : Type 0} (d : Ghosts D) (old new : D) (bodies : List Body) (fault : RememberFault) → OpensTo d old new bodies → CantTell bodies fault → HasNotRemembered d old new fault
not_told d old new bodies (Journal fault) opens cant = absurd cant
not_told d old new bodies (NotKept at) opens cant = (bodies, opens, cant)
not_told d old new bodies OutOfMemory opens cant = (bodies, opens)

-- ---- an opening

-- the bodies found are these
found_these : {D : Type 0} (d : Ghosts D) → KeepOne → OpensWhole d → (run : ℕ) (bodies : List Body) (all : List Asking) (old : D) (new : MemoryState D) (told : List (Option Asking)) → d.is_modelled
    → AreSpelled bodies all → (remembered : HasRemembered d run old new told) → remembered.found.bodies ≡ bodies → AreLast (map (in_run run) all) told × HasAll d new all
found_these d one law run bodies all old new told modelled spelled remembered is =
    let here = subst (λ b. AreSpelled b all) (sym is) spelled in (
      last_in_run one run remembered.found.bodies told all remembered.remembers here,
      (remembered.found.bodies, here, law KEEPER old new.device remembered.found new.last modelled remembered.opened),
    )

pub opened : {D : Type 0} (d : Ghosts D) → KeepOne → WholeIsHonest d → OpensHonestly d → OpensWhole d → (run : ℕ) (all : List Asking) (old new : MemoryState D) (told : List (Option Asking)) → d.is_modelled
    → HasAll d old all → HasRemembered d run old.device new told → AreLast (map (in_run run) all) told × HasAll d new all
opened d one honest finds whole run all old new told modelled has remembered =
    found_these d one whole run has.0 all old.device new told modelled has.1 remembered
    (finds KEEPER has.0 [] old.device new.device remembered.found new.last modelled (honest KEEPER has.0 [] old.last old.device has.2) remembered.opened)

-- ---- an entry that could not be added

abbrev pub Told : {D : Type 0} → Ghosts D → ℕ → List Asking → Asking → MemoryState D → List (Option Asking) → Type 0
Told d run all kept new told = (AreLast (map (in_run run) all) told × HasAll d new all) ⊎ (AreLast (map (in_run run) (all ++ kept ∷ [])) told × HasAll d new (all ++ kept ∷ []))

pub failed : {D : Type 0} (d : Ghosts D) → KeepOne → WholeIsHonest d → OpensHonestly d → OpensWhole d → FailsHonestly d → (run : ℕ) (all : List Asking) (kept : Asking) (old down new : MemoryState D)
    (told : List (Option Asking)) → OnlyTears d → HasAll d old all → HasFailedToKeep d old kept down → KeepsChains (d.kept old.device) (d.kept down.device) → HasRemembered d run down.device new told
    → Told d run all kept new told
failed {D} d one honest finds whole fails run all kept old down new told tears has failing safe remembered =
    elim old.is_down as (λ t. old.is_down ≡ t → Told d run all kept new told) [
      | true ↦ λ is_down. inl (opened d one honest finds whole run all old new told tears.modelled has (subst (λ (m : MemoryState D). HasRemembered d run m.device new told) (failing.before is_down) remembered))
      | false ↦ λ is_up. of_found
          (finds KEEPER has.0 (added_body failing.body ∷ []) down.device new.device remembered.found new.last tears.modelled
          (fails KEEPER has.0 old.last failing.body old.device down.device tears failing.is_body has.2 (failing.left tears.modelled is_up) safe) remembered.opened)
    ] refl
  where
    of_found : IsHonest has.0 (added_body failing.body ∷ []) remembered.found.bodies → Told d run all kept new told
    of_found (inl is) = inl (found_these d one whole run has.0 all down.device new told tears.modelled has.1 remembered is)
    of_found (inr is) = inr (found_these d one whole run (has.0 ++ added_body failing.body ∷ []) (all ++ kept ∷ []) down.device new told tears.modelled
        (zip_more (λ body k. SpellsKept body.bytes k) has.0 all (added_body failing.body) kept has.1 failing.spelled) remembered is)
