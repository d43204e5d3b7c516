-- What is known of a dump once it was gone through: inner words.
use Rattle.std.specs.Prelude.{◌≡◌, ◌≢◌, ℕ, ◌+◌, ◌-◌, ◌<◌, false, List, [], Option, Some, None, All, length, slice_get, slice_index, slice_index_or, take, if◌then◌else◌}
use Rattle.bayou_base.specs.Order.{is_before}
use Rattle.bayou_base.specs.declared.stamp.Stamp.{Stamp}
use Rattle.bayou_base.specs.declared.wid.Wid.{Wid}
use Rattle.bayou_lang.specs.declared.write.Write.{Write}
use Rattle.bayou_lang.specs.Writes.{count_of}
use Rattle.bayou_judge.specs.History.{dump_of}

-- For each Write of a list the counts up to it and the last stamp up to it; and for each server the places of its Writes, in the order of their
-- sequence numbers.
pub record Tables : Type 0 where
  pub counts : List (List ℕ)
  pub lasts : List Stamp
  pub rows : List (List ℕ)

-- the places of the server's Writes
abbrev pub places_of : List (List ℕ) → ℕ → List ℕ
places_of rows server = slice_index_or rows server []

-- the place of the server's Write of this sequence number
abbrev pub place_in : List (List ℕ) → ℕ → ℕ → ℕ
place_in rows server seq = slice_index (places_of rows server) (seq - 1)

-- none of the Writes has a later stamp
abbrev pub AreUpTo : List Write → Stamp → Type 0
AreUpTo writes last = All (λ write. is_before last write.stamp ≡ false) writes

-- the stamp is not after the last one
abbrev pub IsUpTo : Option Stamp → Stamp → Type 0
IsUpTo None stamp = ⊥
IsUpTo (Some last) stamp = is_before last stamp ≡ false

-- the later of the stamps
abbrev pub later_of : Option Stamp → Stamp → Stamp
later_of None stamp = stamp
later_of (Some last) stamp = if is_before last stamp then stamp else last

-- the tables are those of the Writes
pub record IsIndexOf (writes : List Write) (tables : Tables) : Type 0 where
  pub as_many : length tables.counts ≡ length writes
  pub counts : (at : ℕ) → at < length writes → slice_index_or tables.counts at [] ≡ count_of (take (at + 1) writes)
  pub as_many_lasts : length tables.lasts ≡ length writes
  pub lasts : (at : ℕ) (last : Stamp) → slice_get tables.lasts at ≡ Some last → AreUpTo (take (at + 1) writes) last
  pub places : (place : ℕ) (write : Write) → slice_get writes place ≡ Some write → place_in tables.rows write.wid.origin.index write.wid.seq ≡ place
  pub reach : (server : ℕ) → length (places_of tables.rows server) ≡ slice_index (count_of writes) server

-- where the Write of this name stands, if at all
abbrev pub IsPlaceOf : List Write → Wid → Option ℕ → Type 0
IsPlaceOf writes wid None = All (λ write. write.wid ≢ wid) writes
IsPlaceOf writes wid (Some place) = (write : Write) × (slice_get writes place ≡ Some write) × (write.wid ≡ wid)

-- the last stamp of the first so many Writes, if there are any
abbrev pub IsLastOf : List Write → ℕ → Option Stamp → Type 0
IsLastOf writes size None = size ≡ 0
IsLastOf writes size (Some last) = AreUpTo (take size writes) last

-- each of the dumps has its tables
pub record AreIndexed (dumps : List (List Write)) (indexes : List Tables) : Type 0 where
  pub as_many : length indexes ≡ length dumps
  pub each : (server : ℕ) (tables : Tables) → slice_get indexes server ≡ Some tables → IsIndexOf (dump_of dumps server) tables
