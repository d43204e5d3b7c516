-- Where the rows that are asked for begin among the slots.
use Rattle.std.specs.Prelude.{ℕ, List, [], ◌∷◌, Option, None, Some, if◌then◌else◌}
use Rattle.std.specs.Ordering.{is_lt, nat_cmp}
use Rattle.std.specs.Cmp.Lexicographic.{slice_cmp}
use Rattle.std.specs.declared.ops.Bound.{Bound}
use Rattle.std.specs.declared.ops.Bound.TheVariants.{Excluded}
use Rattle.bayou_base.specs.declared.value.Value.{Value}
use Rattle.bayou_log.specs.Db.{Slots}
use Rattle.bayou_log.specs.Inner.Counting.{start_at}
use Rattle.bayou_log.specs.Rows.{Row}

-- from the first key on that begins with the prefix, or after this one where that is later
abbrev pub start_behind : List ℕ → Option (List ℕ) → Bound (List ℕ)
start_behind prefix None = start_at prefix
start_behind prefix (Some last) = if is_lt (slice_cmp nat_cmp last prefix) then start_at prefix else Excluded last

-- the row of a slot that has something, before these
abbrev pub with_row : List ℕ → Option Value → List Row → List Row
with_row key None rows = rows
with_row key (Some value) rows = (key, value) ∷ rows

-- the slots that have something, as rows
abbrev pub rows_in : Slots → List Row
rows_in [] = []
rows_in (slot ∷ slots) = with_row slot.0 slot.1 (rows_in slots)
