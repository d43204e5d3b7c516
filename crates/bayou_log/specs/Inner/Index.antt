-- Where the Writes of each server stand in the order of receipt.
use Rattle.std.specs.Prelude.{◌≡◌, ℕ, ◌-◌, ◌<◌, List, [], length, slice_index, slice_index_or}
use Rattle.bayou_lang.specs.declared.write.Write.{Write}
use Rattle.bayou_lang.specs.Writes.{count_of}

-- for each server the places of its Writes, in the order of their sequence numbers, and for how many more Writes there is room
pub record Rows : Type 0 where
  pub rows : List (List ℕ)
  pub room : ℕ

-- the places of the server's Writes
abbrev pub places_of : List (List ℕ) → ℕ → List ℕ
places_of rows server = slice_index_or rows server []

-- the place of the server's Write of this sequence number
abbrev pub place_in : List (List ℕ) → ℕ → ℕ → ℕ
place_in rows server seq = slice_index (places_of rows server) (seq - 1)

-- Each Write has its place, and each server has as many places as Writes.
pub record AreIndexed (rows : List (List ℕ)) (writes : List Write) : Type 0 where
  pub places : (place : ℕ) (d : Write) → place < length writes
      → place_in rows (slice_index_or writes place d).wid.origin.index (slice_index_or writes place d).wid.seq ≡ place
  pub counts : (server : ℕ) → length (places_of rows server) ≡ slice_index (count_of writes) server
