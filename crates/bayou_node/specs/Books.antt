-- The value behind a server's lock, and its books: this project's own.
use Rattle.std.specs.Prelude.{◌≡◌, ℕ, ◌+◌, List, ◌++◌, All, length}
use Rattle.std.specs.declared.sync.ledger.Blank.{Blank}
use Rattle.bayou_lang.specs.declared.write.Write.{Write}
use Rattle.bayou_server.specs.Server.{Core, IsSoundServer, ServerState, own_count}

-- A server as its node is made: which it is, and among how many; how many Writes it may hold; and how many it had made itself.
pub record Begun : Type 0 where
  pub server : ℕ
  pub count : ℕ
  pub limit : ℕ
  pub stored : ℕ

abbrev pub begun_of : Core → Begun
begun_of core = record { server = core.id; count = core.count; limit = core.limit; stored = own_count core }

-- it is that server, whatever it has made since
pub record IsServerOf (begun : Begun) (core : Core) : Type 0 where
  pub whose : core.id ≡ begun.server
  pub among : core.count ≡ begun.count
  pub limit : core.limit ≡ begun.limit

-- The server; how many Writes it had made itself as its node was made; and, since then, how many programs were accepted, and how many
-- of its own Writes were adopted.
pub record Booked (D : Type 0) : Type 0 where
  pub server : ServerState D
  pub stored : ℕ
  pub accepted : ℕ
  pub adopted : ℕ

-- The books are exact: it is this server, which had made so many Writes, and it is sound; those that it made itself are those, the
-- accepted and the adopted.
pub record IsExact {D : Type 0} (begun : Begun) (booked : Booked D) : Type 0 where
  pub is : IsServerOf begun booked.server.core
  pub since : booked.stored ≡ begun.stored
  pub sound : IsSoundServer booked.server.core
  pub own : own_count booked.server.core ≡ begun.stored + booked.accepted + booked.adopted

-- the books of a node as it is made
abbrev pub opened : {D : Type 0} → ServerState D → Booked D
opened server = record { server = server; stored = own_count server.core; accepted = 0; adopted = 0 }

-- so many desks, for none of which a program was accepted yet
abbrev pub AreNewDesks : ℕ → List ℕ → Type 0
AreNewDesks number desks = (length desks ≡ number) × All (λ accepted. accepted ≡ 0) desks

-- No Write that was held is taken away: those held then are the old ones, in their order, and others after them.
abbrev pub StillHolds : Core → Core → Type 0
StillHolds old new = (more : List Write) × (new.held ≡ old.held ++ more)

-- the blank is of the ledger of this name, with so many parts, one for each desk
abbrev pub IsBlankOf : Blank → (name parts desks : ℕ) → Type 0
IsBlankOf blank name parts desks = (blank.name ≡ name) × (blank.parts ≡ parts) × (parts ≡ desks)
