-- Databases: what they have at each key, and how many of their keys begin so.
use Rattle.std.specs.Prelude.{ℕ, Bool, List, Option, None, Some, length, nat_eq}
use Rattle.std.specs.List.{filter, starts_with}
use Rattle.std.specs.FinMap as map
use Rattle.std.specs.Ordering.{nat_cmp}
use Rattle.std.specs.Cmp.Lexicographic.{pointwise, slice_cmp}
use Rattle.bayou_base.specs.declared.value.Value.{Value}

-- a database: finitely many keys, each with its value
abbrev pub Database : Type 0
Database = map.FinMap (slice_cmp nat_cmp) Value

-- the database that has nothing
abbrev pub empty : Database
empty = map.empty

-- what the key has, if anything
abbrev pub value_at : Database → List ℕ → Option Value
value_at database key = map.get database key

-- whether two keys are one
abbrev pub same_key : List ℕ → List ℕ → Bool
same_key = pointwise nat_eq

-- the database in which the key has this, or nothing, and each other key what it had
abbrev pub changed : List ℕ → Option Value → Database → Database
changed key None database = map.remove database key
changed key (Some value) database = map.insert database key value

-- whether the key begins with the prefix
abbrev pub begins_with : List ℕ → List ℕ → Bool
begins_with prefix key = starts_with nat_eq key prefix

-- how many keys that are present begin with the prefix
abbrev pub number_with : List ℕ → Database → ℕ
number_with prefix database = length (filter (begins_with prefix) (map.keys database))
