-- What a server behind its lock answers. Between two calls other threads may have called it, so what stood behind the lock is known by what
-- is true of it whenever the lock is free.
use Rattle.std.specs.Prelude.{◌≡◌, ℕ, ◌+◌, ◌<◌, ◌≤◌, List, Result, Ok, Err, slice_index}
use Rattle.bayou_base.specs.declared.answer.Accepted.{Accepted}
use Rattle.bayou_base.specs.Vector.{Dominates}
use Rattle.bayou_lang.specs.declared.write.Write.{Write}
use Rattle.bayou_node.specs.Books.{Begun, IsServerOf}
use Rattle.bayou_server.specs.declared.answer.Took.{Took}
use Rattle.bayou_server.specs.declared.answer.TookAll.{TookAll}
use Rattle.bayou_server.specs.declared.answer.Written.{Written}
use Rattle.bayou_server.specs.declared.answer.Written.TheVariants.{New, Known}
use Rattle.bayou_server.specs.declared.fault.TakeFault.{TakeFault}
use Rattle.bayou_server.specs.declared.fault.WriteFault.{WriteFault}
use Rattle.bayou_server.specs.Server.{Core, IsSoundServer, own_count}
use Rattle.bayou_server.specs.Takes.{Takes}
use Rattle.bayou_server.specs.TakesAll.{TakesAll}

-- what may be behind the lock: it is this server, with its limit; it is sound; and it has made no fewer Writes itself than it had as its
-- node was made
pub record MayBeKept (begun : Begun) (core : Core) : Type 0 where
  pub is : IsServerOf begun core
  pub sound : IsSoundServer core
  pub own : begun.stored ≤ own_count core

-- it is so in something that may be behind the lock
abbrev pub InSome : Begun → (Core → Type 0) → Type 0
InSome begun IsSo = (core : Core) × MayBeKept begun core × IsSo core

-- a step that leads from something that may be behind the lock to something that may be
abbrev pub BySome : Begun → (Core → Core → Type 0) → Type 0
BySome begun Steps = (old new : Core) × MayBeKept begun old × MayBeKept begun new × Steps old new

-- The answer is of a Write of the server's own: it is the next after all that its server held as it was made, which had all that the
-- session needs (Terry et al. 1994).
pub record IsOwnAnswer (server : ℕ) (need : List ℕ) (accepted : Accepted) : Type 0 where
  pub own : accepted.wid.origin.index ≡ server
  pub covered : Dominates accepted.deps need
  pub next : accepted.wid.seq ≡ slice_index accepted.deps server + 1

-- So it is of a Write that was known, and of a new one, whose seq is above the number of those that were accepted for the desk before.
abbrev pub IsWritten : (server : ℕ) → (need : List ℕ) → (paid : ℕ) → Written → Type 0
IsWritten server need paid (New accepted) = IsOwnAnswer server need accepted × (paid < accepted.wid.seq)
IsWritten server need paid (Known accepted) = IsOwnAnswer server need accepted

-- what is paid to a desk: one for a new Write, and nothing for one that was known, or for a refusal
abbrev pub Pays : (old : ℕ) → Result Written WriteFault → (new : ℕ) → Type 0
Pays old (Ok (New accepted)) new = new ≡ old + 1
Pays old (Ok (Known accepted)) new = new ≡ old
Pays old (Err fault) new = new ≡ old

-- A Write is given to what may be behind the lock (anti-entropy, Petersen et al. 1997). Of what stands beside the node no call changes
-- anything; what is held between two calls isn't said, as others may change it.
abbrev pub TakesAtNode : {S : Type 0} → Begun → S → Write → Result Took TakeFault → S → Type 0
TakesAtNode begun before given answer after = BySome begun (λ old new. Takes old given answer new) × (after ≡ before)

-- Several Writes are given to it, one after another, between two of which others may call.
abbrev pub TakesAllAtNode : Begun → (given left : List Write) → TookAll → Type 0
TakesAllAtNode begun given left told = TakesAll {S = Unit {0}} (TakesAtNode begun) tt given left told tt
