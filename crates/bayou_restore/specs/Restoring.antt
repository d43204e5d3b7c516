-- A server whose own Writes are made again, of those that another has: this project's own.
use Rattle.std.specs.Prelude.{◌≡◌, ◌≢◌, ◌==◌, ◌<◌, ℕ, List, [], All, Contains, filter, length}
use Rattle.bayou_base.specs.Vector.{Covers, Dominates}
use Rattle.bayou_lang.specs.declared.write.Write.{Write}
use Rattle.bayou_restore.specs.declared.fault.RestoreFault.{RestoreFault}
use Rattle.bayou_restore.specs.declared.fault.RestoreFault.TheVariants.{NotEmpty, Misfit, LogFull, Device, OutOfMemory}
use Rattle.bayou_server.specs.Server.{Core, IsDown, IsUp}

-- those of the Writes that this server made, in their order
abbrev pub own_of : (server : ℕ) → List Write → List Write
own_of server writes = filter (λ write. write.wid.origin.index == server) writes

-- the Write is one of the list, and this server made it
abbrev pub IsOwnAmong : (server : ℕ) → List Write → Write → Type 0
IsOwnAmong server writes write = Contains writes write × (write.wid.origin.index ≡ server)

-- The server's Writes of the list are such as it may have made: each counts what those before it counted, since the server holds what it held;
-- and with each Write all that this counts (the prefix property, Petersen et al. 1997).
pub record IsHistory (server : ℕ) (writes : List Write) : Type 0 where
  pub rising : (one other : Write) → IsOwnAmong server writes one → IsOwnAmong server writes other → one.wid.seq < other.wid.seq → Dominates other.deps one.deps
  pub closed : (own other : Write) → IsOwnAmong server writes own → Contains writes other → Covers own.deps other.wid.origin.index other.wid.seq → Dominates own.deps other.deps

-- The server held nothing. Now its own Writes are just those of the list, in their order, and it holds nothing that isn't of the list.
pub record Restores (old : Core) (writes : List Write) (new : Core) : Type 0 where
  pub empty : old.held ≡ []
  pub own : own_of old.id new.held ≡ own_of old.id writes
  pub others : All (λ write. Contains writes write) new.held
  pub up : IsUp new
  pub id : new.id ≡ old.id
  pub count : new.count ≡ old.count
  pub limit : new.limit ≡ old.limit

-- Why that didn't come about, and how the server stands then. What the server may have made is never refused as a misfit.
abbrev pub FailsToRestore : (old : Core) → (writes : List Write) → RestoreFault → (new : Core) → Type 0
FailsToRestore old writes NotEmpty new = (old.held ≢ []) × (new ≡ old)
FailsToRestore old writes (Misfit number) new = ¬ IsHistory old.id writes
FailsToRestore old writes LogFull new = length new.held ≡ new.limit
FailsToRestore old writes Device new = IsDown new
FailsToRestore old writes OutOfMemory new = Unit {0}
