-- What sessions did and what servers held (Terry et al. 1994), and the history that entries and dumps stand for.
use Rattle.std.specs.Prelude.{◌≡◌, ℕ, List, [], ◌++◌, Contains, map, slice_index_or}
use Rattle.std.specs.Borrow.{Bor}
use Rattle.std.specs.Global.{Vec}
use Rattle.bayou_base.specs.declared.entry.Entry.{Entry}
use Rattle.bayou_base.specs.declared.entry.What.{What}
use Rattle.bayou_base.specs.declared.entry.What.TheVariants as whats
use Rattle.bayou_lang.specs.declared.write.Write.{Write}
use Rattle.bayou_lang.specs.Writes.{count_of}

-- The served operations of each session, by their places in it, and the databases of each server.
pub record History : Type 1 where
  pub Wrote : (session place : ℕ) → Write → Type 0  -- at this place of the session the Write was accepted
  pub Read : (session place server : ℕ) → List Write → Type 0  -- at this place of the session a read was served, by the server, from this database
  pub Had : (server : ℕ) → List Write → Type 0  -- the server had this database at some time

-- the database is a front of the list
abbrev pub IsFrontOf : List Write → List Write → Type 0
IsFrontOf writes database = (rest : List Write) × (writes ≡ database ++ rest)

-- each dump that a server keeps, as the list of its Writes
abbrev pub lists_of : List (Vec Write) → List (List Write)
lists_of dumps = map (λ dump. dump.items) dumps

-- each dump that is lent, as the list of its Writes
abbrev pub lent_lists : List (Bor (List Write)) → List (List Write)
lent_lists dumps = map (λ dump. dump.now) dumps

-- the server's dump; beyond the last it is empty
abbrev pub dump_of : List (List Write) → ℕ → List Write
dump_of dumps server = slice_index_or dumps server []

-- A read was served from the front of its server's dump that the vector counts.
abbrev pub IsReadFrom : List Write → What → List Write → Type 0
IsReadFrom dump (whats.Read key vector) database = IsFrontOf dump database × (count_of database ≡ vector)
IsReadFrom dump (whats.Write wid stamp deps) database = ⊥
IsReadFrom dump whats.Refused database = ⊥

-- A Write is the one of its name in its server's dump.
abbrev pub IsWriteOf : List Write → What → Write → Type 0
IsWriteOf dump (whats.Read key vector) write = ⊥
IsWriteOf dump (whats.Write wid stamp deps) write = Contains dump write × (write.wid ≡ wid)
IsWriteOf dump whats.Refused write = ⊥

-- the session's entry at this place
abbrev pub IsEntryAt : List Entry → (session place : ℕ) → Entry → Type 0
IsEntryAt entries session place entry = Contains entries entry × (entry.session.index ≡ session) × (entry.place ≡ place)

-- The history that entries and dumps stand for: the fronts of a server's dump are its databases.
abbrev pub history_of : List Entry → List (List Write) → History
history_of entries dumps = record {
  Wrote = λ session place write. (entry : Entry) × IsEntryAt entries session place entry × IsWriteOf (dump_of dumps entry.server.index) entry.what write;
  Read = λ session place server database. (entry : Entry) × IsEntryAt entries session place entry × (entry.server.index ≡ server) × IsReadFrom (dump_of dumps server) entry.what database;
  Had = λ server database. IsFrontOf (dump_of dumps server) database;
}
