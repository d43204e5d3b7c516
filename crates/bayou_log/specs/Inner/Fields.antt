-- How the fields of a log belong together, which its callers don't see.
use Rattle.std.specs.Prelude.{◌≡◌, ℕ, ◌<◌, ◌≤◌, List, [], ◌∷◌, All, length, take}
use Rattle.std.specs.List.{filter_map, slice_get}
use Rattle.bayou_base.specs.declared.limits.TheConstants.{SERVERS, MAX_WRITES}
use Rattle.bayou_lang.specs.declared.change.Change.{Change}
use Rattle.bayou_lang.specs.declared.eval.Outcome.{Outcome}
use Rattle.bayou_lang.specs.declared.write.Write.{Write}
use Rattle.bayou_lang.specs.Writes.{count_of, greatest_clock, in_stamp_order, AreFitting}
use Rattle.bayou_log.specs.Db.{Slots, database_of, room, HasRoomFor}
use Rattle.bayou_lang.specs.Database.{Database, empty}
use Rattle.bayou_lang.specs.Meaning.{mean}
use Rattle.bayou_log.specs.Inner.Undone.{changes_of, AreUndos, Stack}
use Rattle.bayou_log.specs.Replay.{replay}

-- the Writes that stand at these places of the list
abbrev pub picked : List Write → List ℕ → List Write
picked writes order = filter_map (slice_get writes) order

-- each Write fits those before it, and they are no more than a log of so many servers and with this limit may hold
pub record AreKept (count limit : ℕ) (writes : List Write) : Type 0 where
  pub servers : count ≤ SERVERS
  pub limit_in_range : limit ≤ MAX_WRITES
  pub fitting : AreFitting count writes
  pub within : length writes ≤ limit

-- there is room for all that the Writes may write, and the vector and the clock are those of the Writes
pub record AgreesWith (writes : List Write) (slots : Slots) (vector : List ℕ) (clock : ℕ) : Type 0 where
  pub room : All (λ write. HasRoomFor (room slots) write.program) writes
  pub counted : vector ≡ count_of writes
  pub latest : clock ≡ greatest_clock writes

-- These Writes, and no others, are applied: the order has their places in stamp order, the database is that of them, and the stack
-- has what takes them back.
pub record AreApplied (writes : List Write) (order : List ℕ) (slots : Slots) (taken_back_by : List (List Change)) : Type 0 where
  pub as_many : length order ≡ length writes
  pub inside : All (λ at. at < length writes) order
  pub in_order : picked writes order ≡ in_stamp_order writes
  pub replayed : database_of slots ≡ replay writes
  pub undos : AreUndos taken_back_by (in_stamp_order writes) empty

-- however many of the Writes are applied, there is room for the places of all, and for what takes them back
pub record HasRoomForAll (writes : List Write) (capacity : ℕ) (undone : Stack) : Type 0 where
  pub order : length writes ≤ capacity
  pub promised : undone.promised ≡ changes_of writes
  pub room : undone.promised ≤ undone.room
  pub places : length writes ≤ undone.places

-- the outcome of each of the Writes, where the first of the list is applied first
abbrev pub outcomes_after : List Write → Database → List Outcome
outcomes_after [] database = []
outcomes_after (write ∷ writes) database = (mean write.program database).0 ∷ outcomes_after writes (mean write.program database).1

-- What became of each of those Writes that are applied, the first that came, in stamp order; and there is room for what becomes of all.
pub record AreOutcomes (writes : List Write) (applied : ℕ) (outcomes : List Outcome) (capacity : ℕ) : Type 0 where
  pub each : outcomes ≡ outcomes_after (in_stamp_order (take applied writes)) empty
  pub room : length writes ≤ capacity
