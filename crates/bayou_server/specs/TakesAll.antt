-- What becomes of a server, or of what stands for one, as it is given Writes, one after another (anti-entropy, Petersen et al. 1997).
use Rattle.std.specs.Prelude.{◌≡◌, ℕ, suc, List, [], ◌∷◌, ◌++◌, Option, None, Some, Result, Ok, Err, OnOk}
use Rattle.bayou_device.specs.declared.device.Device.{Ghosts}
use Rattle.bayou_journal.specs.Opening.{KeepsChains}
use Rattle.bayou_lang.specs.declared.write.Write.{Write}
use Rattle.bayou_server.specs.declared.answer.Took.{Took}
use Rattle.bayou_server.specs.declared.answer.Took.TheVariants.{New, Had}
use Rattle.bayou_server.specs.declared.answer.RefusedWrite.{RefusedWrite}
use Rattle.bayou_server.specs.declared.answer.TookAll.{TookAll}
use Rattle.bayou_server.specs.declared.fault.TakeFault.{TakeFault}
use Rattle.bayou_server.specs.Server.{IsSoundServer, ServerState, own_count}
use Rattle.bayou_server.specs.Stored.{IsStored, StoresTaken}
use Rattle.bayou_server.specs.Takes.{Takes}

-- A server, a Write that it is given, what it answers, and the server then: what it holds and how its device stands.
pub record TakesAt {D : Type 0} (d : Ghosts D) (old : ServerState D) (given : Write) (answer : Result Took TakeFault) (new : ServerState D) : Type 0 where
  pub takes : Takes old.core given answer new.core
  pub own : own_count new.core ≡ own_count old.core
  pub sound : IsSoundServer old.core × IsSoundServer new.core
  pub others : new.taking ≡ old.taking
  pub stores : StoresTaken d old answer new
  pub stored : d.is_modelled → OnOk answer (IsStored d old → IsStored d new)
  pub safe : d.is_modelled → KeepsChains (d.kept old.device) (d.kept new.device)
  pub calls : d.leads_to 2 old.device new.device

-- how many of the Writes that were taken were new
abbrev pub news : List Took → ℕ
news [] = 0
news (New ∷ tooks) = suc (news tooks)
news (Had ∷ tooks) = news tooks

-- and how many were held already
abbrev pub hads : List Took → ℕ
hads [] = 0
hads (New ∷ tooks) = hads tooks
hads (Had ∷ tooks) = suc (hads tooks)

-- the Writes were given one after another, and each was taken so
abbrev pub TakesEach : {S : Type 0} → (S → Write → Result Took TakeFault → S → Type 0) → S → List Write → List Took → S → Type 0
TakesEach {S} takes old [] [] new = new ≡ old
TakesEach {S} takes old (write ∷ writes) (took ∷ tooks) new = (mid : S) × takes old write (Ok took) mid × TakesEach takes mid writes tooks new
TakesEach {S} takes old [] (took ∷ tooks) new = ⊥
TakesEach {S} takes old (write ∷ writes) [] new = ⊥

-- after the Writes that were taken nothing more was given, and these are left; or one more was given, and refused
abbrev pub TakingEnds : {S : Type 0} → (S → Write → Result Took TakeFault → S → Type 0) → (mid : S) → (given front left : List Write) → Option RefusedWrite → (new : S) → Type 0
TakingEnds takes mid given front left None new = (given ≡ front ++ left) × (new ≡ mid)
TakingEnds takes mid given front left (Some refused) new = (write : Write) × (given ≡ front ++ write ∷ left) × takes mid write (Err refused.fault) new × (refused.wid ≡ write.wid)

-- The first of the Writes were given one after another, each was taken, and is counted; it ended so, and these are left.
pub record TakesAll {S : Type 0} (takes : S → Write → Result Took TakeFault → S → Type 0) (old : S) (given left : List Write) (told : TookAll) (new : S) : Type 0 where
  pub front : List Write
  pub tooks : List Took
  pub mid : S
  pub each : TakesEach takes old front tooks mid
  pub taken : told.taken ≡ news tooks
  pub had : told.had ≡ hads tooks
  pub ends : TakingEnds takes mid given front left told.refused new
