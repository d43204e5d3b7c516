-- Reading what is asked beside one key, and what is answered, from left to right. No public clause cites this.
use Rattle.std.specs.Prelude.{ℕ, Bool, true, false, List, [], ◌∷◌, Option, None, Some, nat_lt, ◌==◌, if◌then◌else◌}
use Rattle.std.specs.Int.{w16, w32}
use Rattle.bayou_base.specs.declared.value.Value.{Value}
use Rattle.bayou_wire.specs.declared.layout.TheConstants as layout
use Rattle.bayou_wire.specs.declared.lookup.Became.{Became}
use Rattle.bayou_wire.specs.declared.lookup.Became.TheVariants.{Updated, Merged, Nothing}
use Rattle.bayou_wire.specs.declared.lookup.Fate.{Fate}
use Rattle.bayou_wire.specs.declared.lookup.FateAsked.{FateAsked}
use Rattle.bayou_wire.specs.declared.lookup.Page.{Page}
use Rattle.bayou_wire.specs.declared.lookup.Placed.{Placed}
use Rattle.bayou_wire.specs.declared.lookup.RowsAsked.{RowsAsked}
use Rattle.bayou_wire.specs.Inner.Reading.{Read, ◌>>=◌, both, byte_at, key_at, made, number_at, prefix_at, times, value_at, vector_at, wid_at}

-- a key, or none, which has no byte
unfoldable pub optional_key_at : List ℕ → Read (Option (List ℕ))
optional_key_at [] = None
optional_key_at (len ∷ bytes) = if len == 0 then Some (None, bytes) else made (λ key. Some key) key_at (len ∷ bytes)

unfoldable pub row_at : List ℕ → Read (List ℕ × Value)
row_at bytes = both key_at value_at bytes

-- how many rows, where they are no more than are listed at once, and the rows
unfoldable pub rows_at : List ℕ → Read (List (List ℕ × Value))
rows_at bytes = number_at w16 bytes >>= λ count. if nat_lt layout.ROWS_AT_ONCE count.0 then None else times count.0 row_at count.1

unfoldable pub more_at : List ℕ → Read Bool
more_at [] = None
more_at (byte ∷ bytes) =
    if byte == layout.MORE_LEFT then Some (true, bytes) else (if byte == layout.NONE_LEFT then Some (false, bytes) else None)

unfoldable pub rows_asked_at : List ℕ → Read RowsAsked
rows_asked_at bytes =
    made (λ p. record { need = p.0; prefix = p.1.0; after = p.1.1.0; most = p.1.1.1 })
    (both vector_at (both prefix_at (both optional_key_at (number_at w16)))) bytes

unfoldable pub page_at : List ℕ → Read Page
page_at bytes =
    made (λ p. record { vector = p.0; more = p.1.0; rows = record { items = p.1.1 } }) (both vector_at (both more_at rows_at)) bytes

unfoldable pub became_at : List ℕ → Read Became
became_at [] = None
became_at (byte ∷ bytes) =
    if byte == layout.WAS_UPDATED then Some (Updated, bytes)
    else (if byte == layout.WAS_MERGED then made Merged byte_at bytes
    else (if byte == layout.WAS_NOTHING then Some (Nothing, bytes) else None))

unfoldable pub placed_at : List ℕ → Read Placed
placed_at bytes = made (λ p. record { became = p.0; clock = p.1 }) (both became_at (number_at w32)) bytes

-- that it isn't held, or what became of it
unfoldable pub held_placed_at : List ℕ → Read (Option Placed)
held_placed_at [] = None
held_placed_at (byte ∷ bytes) = if byte == layout.NOT_HELD then Some (None, bytes) else made (λ placed. Some placed) placed_at (byte ∷ bytes)

unfoldable pub fate_asked_at : List ℕ → Read FateAsked
fate_asked_at bytes = made (λ p. record { need = p.0; wid = p.1 }) (both vector_at wid_at) bytes

unfoldable pub fate_at : List ℕ → Read Fate
fate_at bytes = made (λ p. record { vector = p.0; placed = p.1 }) (both vector_at held_placed_at) bytes
