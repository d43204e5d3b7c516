-- Which dumps and entries stand for a history: what a server may have held (Terry et al. 1995, Petersen et al. 1997), and
-- what it may have answered.
use Rattle.std.specs.Prelude.{◌≡◌, ℕ, ◌<◌, ⊤, List, Some, All, slice_get, take}
use Rattle.bayou_base.specs.declared.entry.Entry.{Entry}
use Rattle.bayou_base.specs.declared.entry.What.{What}
use Rattle.bayou_base.specs.declared.entry.What.TheVariants as whats
use Rattle.bayou_base.specs.declared.server.ServerId.{ServerId}
use Rattle.bayou_base.specs.declared.wid.Wid.{Wid}
use Rattle.bayou_lang.specs.declared.write.Write.{Write}
use Rattle.bayou_lang.specs.Writes.{count_of, Fits}
use Rattle.bayou_judge.specs.History.{dump_of, IsReadFrom, IsWriteOf}

-- A server can have held the Write after these: it fits them; if it is the server's own, it says that all of these were
-- held; and no smaller server's dump has another Write of its name.
pub record IsGood (count : ℕ) (dumps : List (List Write)) (server : ℕ) (before : List Write) (write : Write) : Type 0 where
  pub fits : Fits count before write
  pub own : write.wid.origin.index ≡ server → write.deps ≡ count_of before
  pub same : (other : ℕ) → other < server → All (λ held. held.wid ≡ write.wid → held ≡ write) (dump_of dumps other)

-- the Write at this place of the server's dump is good
abbrev pub IsGoodAt : ℕ → List (List Write) → (server at : ℕ) → Type 0
IsGoodAt count dumps server at = (write : Write) → slice_get (dump_of dumps server) at ≡ Some write → IsGood count dumps server (take at (dump_of dumps server)) write

-- each Write of each dump is good
abbrev pub AreGood : ℕ → List (List Write) → Type 0
AreGood count dumps = (server at : ℕ) → IsGoodAt count dumps server at

-- the least place that isn't good: by server, then by place in its dump
pub record IsFirstBad (count : ℕ) (dumps : List (List Write)) (server at : ℕ) : Type 0 where
  pub bad : ¬ IsGoodAt count dumps server at
  pub none_before : (other : ℕ) (place : ℕ) → other < server → IsGoodAt count dumps other place
  pub none_here : (place : ℕ) → place < at → IsGoodAt count dumps server place

-- the entry tells of a Write of this name
abbrev pub TellsOf : Wid → What → Type 0
TellsOf name (whats.Read key vector) = ⊥
TellsOf name (whats.Write wid stamp deps) = wid ≡ name
TellsOf name whats.Refused = ⊥

-- A read has the vector of a front of its server's dump. A Write is the server's own, its dump has it with that stamp and
-- that vector, and no earlier entry has it.
abbrev pub IsTrueOf : List Write → ServerId → List Entry → What → Type 0
IsTrueOf dump server earlier (whats.Read key vector) = (database : List Write) × IsReadFrom dump (whats.Read key vector) database
IsTrueOf dump server earlier (whats.Write wid stamp deps) = (wid.origin ≡ server)
    × ((write : Write) × IsWriteOf dump (whats.Write wid stamp deps) write × (write.stamp ≡ stamp) × (write.deps ≡ deps))
    × All (λ entry. ¬ TellsOf wid entry.what) earlier
IsTrueOf dump server earlier whats.Refused = ⊤

-- The entry can stand after these: it is of one of the servers, its place is above those of its session before it, its
-- session asks for what it asked for before, and it tells of what was done.
pub record IsGenuine (count : ℕ) (dumps : List (List Write)) (earlier : List Entry) (entry : Entry) : Type 0 where
  pub server : entry.server.index < count
  pub place : All (λ other. other.session ≡ entry.session → other.place < entry.place) earlier
  pub asks : All (λ other. other.session ≡ entry.session → other.asks ≡ entry.asks) earlier
  pub what : IsTrueOf (dump_of dumps entry.server.index) entry.server earlier entry.what

-- the entry at this place is genuine
abbrev pub IsGenuineAt : ℕ → List (List Write) → List Entry → ℕ → Type 0
IsGenuineAt count dumps entries at = (entry : Entry) → slice_get entries at ≡ Some entry → IsGenuine count dumps (take at entries) entry

-- each entry is genuine
abbrev pub AreGenuine : ℕ → List (List Write) → List Entry → Type 0
AreGenuine count dumps entries = (at : ℕ) → IsGenuineAt count dumps entries at

-- the first entry that isn't
pub record IsFirstForged (count : ℕ) (dumps : List (List Write)) (entries : List Entry) (at : ℕ) : Type 0 where
  pub forged : ¬ IsGenuineAt count dumps entries at
  pub none_before : (place : ℕ) → place < at → IsGenuineAt count dumps entries place
