-- What becomes of several Writes of other servers that a server takes and stores together (anti-entropy, Petersen et al. 1997).
use Rattle.std.specs.Prelude.{◌≡◌, ℕ, zero, suc, List, [], ◌∷◌, ◌++◌, Option, None, Some, Result, map}
use Rattle.bayou_device.specs.Device.{Rose}
use Rattle.bayou_device.specs.declared.device.Device.{Ghosts}
use Rattle.bayou_journal.specs.Chain.{entries, last_link}
use Rattle.bayou_journal.specs.Honest.{added_body}
use Rattle.bayou_journal.specs.Opening.{FailsToAdd, KeepsChains}
use Rattle.bayou_lang.specs.declared.write.Write.{Write}
use Rattle.bayou_lang.specs.Ranges.{IsWrite}
use Rattle.bayou_server.specs.declared.answer.RefusedWrite.{RefusedWrite}
use Rattle.bayou_server.specs.declared.answer.Took.{Took}
use Rattle.bayou_server.specs.declared.fault.TakeFault.{TakeFault}
use Rattle.bayou_server.specs.declared.fault.TakeFault.TheVariants.{Conflict, Down, OwnLost, Gap, BadStamp, LogFull, OutOfMemory, Journal}
use Rattle.bayou_server.specs.Server.{Core, IsSoundServer, IsUp, ServerState, own_count, untagged, with_all, with_taken}
use Rattle.bayou_server.specs.Stored.{Stores}
use Rattle.bayou_server.specs.Takes.{IsTakable, Takes}

-- What a server holds, a Write that it is given, what it answers, and what it holds then.
pub record TakesHeld (old : Core) (given : Write) (answer : Result Took TakeFault) (new : Core) : Type 0 where
  pub takes : Takes old given answer new
  pub own : own_count new ≡ own_count old
  pub sound : IsSoundServer old × IsSoundServer new

-- The Writes may be taken, one after another.
abbrev pub AreTakable : Core → List Write → Type 0
AreTakable core [] = Unit {0}
AreTakable core (write ∷ writes) = IsTakable core write × IsWrite write × AreTakable (with_taken core write) writes

-- The entries of these Writes, which are held now, were added as one piece, and synced together.
pub record HasAddedAll {D : Type 0} (d : Ghosts D) (old new : ServerState D) : Type 0 where
  pub up : IsUp old.core
  pub writes : List Write
  pub takable : AreTakable old.core writes
  pub core : new.core ≡ with_all old.core writes
  pub taking : new.taking ≡ old.taking
  pub bodies : List (List ℕ)
  pub stands : Stores old.core.id (map added_body bodies) (untagged writes)
  pub ends : new.last ≡ last_link old.last bodies
  pub behind : d.is_modelled → d.content new.device ≡ d.content old.device ++ entries old.last bodies
  pub synced : d.kept new.device ≡ d.content new.device
  pub counts : d.failures new.device ≡ d.failures old.device
  pub safe : d.is_modelled → KeepsChains (d.kept old.device) (d.kept new.device)
  pub calls : d.leads_to 2 old.device new.device

-- The entries of these Writes, which are in doubt now, were to be added as one piece and synced together, and a device call failed.
pub record HasFailedAll {D : Type 0} (d : Ghosts D) (old new : ServerState D) : Type 0 where
  pub first : Write
  pub core : new.core ≡ record old.core { doubt = Some first; doubt_tag = None }
  pub takable : AreTakable old.core (first ∷ new.taking)
  pub bodies : List (List ℕ)
  pub stands : Stores old.core.id (map added_body bodies) (untagged (first ∷ new.taking))
  pub left : d.is_modelled → FailsToAdd d.may_leave (entries old.last bodies) (d.content old.device) (d.content new.device)
  pub rose : Rose (d.failures old.device) (d.failures new.device)
  pub safe : d.is_modelled → KeepsChains (d.kept old.device) (d.kept new.device)
  pub calls : d.leads_to 2 old.device new.device

-- so many pieces were added, one after another
abbrev pub StoresPieces : {D : Type 0} → Ghosts D → (pieces : ℕ) → (old new : ServerState D) → Type 0
StoresPieces d zero old new = new ≡ old
StoresPieces {D} d (suc pieces) old new = (mid : ServerState D) × HasAddedAll d old mid × StoresPieces d pieces mid new

-- after them nothing more was to be added, unless a device call failed
abbrev pub StoringEnds : {D : Type 0} → Ghosts D → TakeFault → (mid new : ServerState D) → Type 0
StoringEnds d Journal mid new = HasFailedAll d mid new
StoringEnds d Conflict mid new = new ≡ mid
StoringEnds d Down mid new = new ≡ mid
StoringEnds d OwnLost mid new = new ≡ mid
StoringEnds d Gap mid new = new ≡ mid
StoringEnds d BadStamp mid new = new ≡ mid
StoringEnds d LogFull mid new = new ≡ mid
StoringEnds d OutOfMemory mid new = new ≡ mid

abbrev pub StoringStops : {D : Type 0} → Ghosts D → Option RefusedWrite → (mid new : ServerState D) → Type 0
StoringStops d None mid new = new ≡ mid
StoringStops d (Some refused) mid new = StoringEnds d refused.fault mid new

-- How the device stands after several Writes were taken, up to one that was refused, if one was.
pub record StoresAll {D : Type 0} (d : Ghosts D) (old : ServerState D) (refused : Option RefusedWrite) (new : ServerState D) : Type 0 where
  pub pieces : ℕ
  pub mid : ServerState D
  pub stored : StoresPieces d pieces old mid
  pub ends : StoringStops d refused mid new

-- of the Writes that were given those that are left: where a device call failed, the others in doubt, and then those that weren't looked at
abbrev pub left_by : TakeFault → (taking rest : List Write) → List Write
left_by Journal taking rest = taking ++ rest
left_by Conflict taking rest = rest
left_by Down taking rest = rest
left_by OwnLost taking rest = rest
left_by Gap taking rest = rest
left_by BadStamp taking rest = rest
left_by LogFull taking rest = rest
left_by OutOfMemory taking rest = rest

abbrev pub left_behind : Option RefusedWrite → (taking rest : List Write) → List Write
left_behind None taking rest = rest
left_behind (Some refused) taking rest = left_by refused.fault taking rest
