-- The Writes that another server hands over, as they are gathered (anti-entropy, Petersen et al. 1997).
use Rattle.std.specs.Prelude.{◌≡◌, ◌<◌, ℕ, List, [], ◌∷◌, ◌++◌, Result, Ok, Err, Contains, length}
use Rattle.bayou_lang.specs.declared.write.Write.{Write}
use Rattle.bayou_lang.specs.Writes.{Fits, HasNoGap, IsWellStamped}
use Rattle.bayou_log.specs.Log.{Log}
use Rattle.bayou_server.specs.Takes.{HasAnother, IsMissing}
use Rattle.bayou_server.specs.declared.answer.Took.{Took}
use Rattle.bayou_server.specs.declared.answer.Took.TheVariants.{New, Had}
use Rattle.bayou_server.specs.declared.fault.TakeFault.{TakeFault}
use Rattle.bayou_server.specs.declared.fault.TakeFault.TheVariants.{Conflict, Down, OwnLost, Gap, BadStamp, LogFull, OutOfMemory, Journal}

-- among how many servers, how many Writes there may be, and the Writes, in the order in which they came
pub record Gathering : Type 0 where
  pub count : ℕ
  pub limit : ℕ
  pub writes : List Write

abbrev pub gathering_of : Log → Gathering
gathering_of log = record { count = log.count; limit = log.limit; writes = log.receipts }

-- no Write of its name is there, and it fits those that are
pub record IsGatherable (old : Gathering) (given : Write) : Type 0 where
  pub missing : IsMissing old.writes given
  pub fits : Fits old.count old.writes given

-- A Write that comes, the answer and what it leaves. The answers stand in their order: each says that those before it don't hold. A Write that is
-- new stands after the others; every other answer leaves all as it was. There is no server whose own a Write could be, and no device.
abbrev pub Gathers : (old : Gathering) → (given : Write) → Result Took TakeFault → (new : Gathering) → Type 0
Gathers old given (Ok Had) new = Contains old.writes given × (new ≡ old)
Gathers old given (Err Conflict) new = HasAnother old.writes given × (new ≡ old)
Gathers old given (Err Gap) new = IsMissing old.writes given × (¬ HasNoGap old.count old.writes given) × (new ≡ old)
Gathers old given (Err BadStamp) new = IsMissing old.writes given × HasNoGap old.count old.writes given × (¬ IsWellStamped old.writes given) × (new ≡ old)
Gathers old given (Err LogFull) new = IsGatherable old given × (length old.writes ≡ old.limit) × (new ≡ old)
Gathers old given (Err OutOfMemory) new = IsGatherable old given × (length old.writes < old.limit) × (new ≡ old)
Gathers old given (Ok New) new = IsGatherable old given × (length old.writes < old.limit) × (new ≡ record old { writes = old.writes ++ given ∷ [] })
Gathers old given (Err Down) new = ⊥
Gathers old given (Err OwnLost) new = ⊥
Gathers old given (Err Journal) new = ⊥
