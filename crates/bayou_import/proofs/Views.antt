-- Arrays of JSON beside the lists that the grammar reads.
use Rattle.std.proofs.Common.{◌≡◌, List, [], ◌∷◌, map, refl, ap}
use Rattle.serde_json.specs.View.{view, items_view}
use Rattle.serde_json.specs.declared.value.Value.{Value}
use Rattle.bayou_text.specs.Reading.{listed}

-- the members of an array are those of the list that holds them
pub listed_view : (values : List Value) → listed (items_view values) ≡ map view values
listed_view [] = refl
listed_view (value ∷ values) = ap (λ ds. view value ∷ ds) (listed_view values)
