-- Arrays and objects of JSON beside the lists that the grammar reads.
use Rattle.std.proofs.Common.{◌≡◌, ℕ, Bool, ◌&&◌, ◌||◌, List, [], ◌∷◌, map, String, Global, string_bytes, refl, ap}
use Rattle.std.specs.List.{list_all, list_any}
use Rattle.std.specs.Map.{keys_of}
use Rattle.serde_json.specs.Data.{Data}
use Rattle.serde_json.specs.View.{view, items_view, members_view}
use Rattle.serde_json.specs.declared.value.Value.{Value}
use Rattle.bayou_text.specs.Reading.{listed, names}

-- the members of an array are those of the list that holds them
pub listed_view : (values : List Value) → listed (items_view values) ≡ map view values
listed_view [] = refl
listed_view (value ∷ values) = ap (λ ds. view value ∷ ds) (listed_view values)

pub any_view : (test : Data → Bool) (values : List Value)
    → list_any (λ v. test (view v)) values ≡ list_any test (map view values)
any_view test [] = refl
any_view test (value ∷ values) = ap (λ b. test (view value) || b) (any_view test values)

pub all_view : (test : Data → Bool) (values : List Value)
    → list_all (λ v. test (view v)) values ≡ list_all test (map view values)
all_view test [] = refl
all_view test (value ∷ values) = ap (λ b. test (view value) && b) (all_view test values)

-- the names of an object's members are the keys of the map that holds them
pub names_view : (test : List ℕ → Bool) (entries : List (String Global × Value))
    → list_all (λ key. test (string_bytes key)) (keys_of entries) ≡ list_all test (names (members_view entries))
names_view test [] = refl
names_view test (entry ∷ entries) = ap (λ b. test (string_bytes entry.0) && b) (names_view test entries)
