-- The rows of a database: the keys that are present, each with its value, in the order of keys.
use Rattle.std.specs.Prelude.{ℕ, ◌&&◌, Bool, true, List, Option, None, Some}
use Rattle.std.specs.List.{filter}
use Rattle.std.specs.FinMap as map
use Rattle.std.specs.Ordering.{is_lt, nat_cmp}
use Rattle.std.specs.Cmp.Lexicographic.{slice_cmp}
use Rattle.bayou_base.specs.declared.value.Value.{Value}
use Rattle.bayou_lang.specs.Database.{Database, begins_with}

-- a key and its value
abbrev pub Row : Type 0
Row = List ℕ × Value

-- whether the key comes after this one, if there is one, in the order of keys
abbrev pub is_after : Option (List ℕ) → List ℕ → Bool
is_after None key = true
is_after (Some last) key = is_lt (slice_cmp nat_cmp last key)

-- the rows whose keys begin with the prefix and come after this one, if there is one
abbrev pub rows_after : (prefix : List ℕ) → Option (List ℕ) → Database → List Row
rows_after prefix after database = filter (λ row. begins_with prefix row.0 && is_after after row.0) (map.entries database)
