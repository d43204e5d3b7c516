-- Which keys may change yet: this project's own.
use Rattle.std.specs.Prelude.{◌≡◌, ℕ, Bool, if◌then◌else◌, List, Option, None, Some}
use Rattle.std.specs.BTreeSet.{BTreeSet, contains}
use Rattle.std.specs.Cmp.Lexicographic.{slice_cmp}
use Rattle.std.specs.List.{list_any}
use Rattle.std.specs.Ordering.{eq_by_cmp, nat_cmp}
use Rattle.bayou_connect.specs.declared.looking.Beyond.{Beyond}
use Rattle.bayou_final.specs.declared.standing.Standing.{Standing}
use Rattle.bayou_final.specs.declared.standing.Standing.TheVariants.{Tentative, Final}
use Rattle.bayou_lang.specs.Changes.{program_writes}
use Rattle.bayou_lang.specs.declared.write.Write.{Write}

-- whether two keys are one
abbrev pub is_key : List ℕ → List ℕ → Bool
is_key one other = eq_by_cmp (slice_cmp nat_cmp) one other

-- whether the key is one of these
abbrev pub is_among : List (List ℕ) → List ℕ → Bool
is_among keys key = list_any (λ one. is_key one key) keys

-- whether the set has the key
abbrev pub has_key : BTreeSet (List ℕ) → List ℕ → Bool
has_key keys key = contains (slice_cmp nat_cmp) keys key

-- whether one of the Writes may change the key: by its update, or by an alternative
abbrev pub may_change : List Write → List ℕ → Bool
may_change writes key = list_any (λ (write : Write). is_among (program_writes write.program) key) writes

-- the set has just the keys that the Writes may change
abbrev pub AreKeysOf : List Write → BTreeSet (List ℕ) → Type 0
AreKeysOf writes keys = (key : List ℕ) → has_key keys key ≡ may_change writes key

-- how the value of a key stands, by which keys may change yet
abbrev pub standing_by : BTreeSet (List ℕ) → List ℕ → Standing
standing_by keys key = if has_key keys key then Tentative else Final

-- the same, where it isn't known which may: then it may change yet
abbrev pub standing_at : Option Beyond → List ℕ → Standing
standing_at None key = Tentative
standing_at (Some beyond) key = standing_by beyond.keys key
