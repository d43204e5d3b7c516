-- A list of JSON values that one more was put behind.
use Rattle.std.proofs.Common.{◌≡◌, ◌∙◌, List, [], ◌∷◌, ◌++◌, map, ap, ap₂}
use Rattle.std.proofs.lemmas.List.{map-append}
use Rattle.serde_json.specs.Data.{Data}
use Rattle.serde_json.specs.View.{view}
use Rattle.serde_json.specs.declared.value.Value.{Value}

pub viewed : (list : List Value) (v : Value) (ds : List Data) (d : Data) (new : List Value) → map view list ≡ ds → view v ≡ d → new ≡ list ++ v ∷ []
    → map view new ≡ ds ++ d ∷ []
viewed list v ds d new are is grown = ap (map view) grown ∙ map-append view list (v ∷ []) ∙ ap₂ ◌++◌ are (ap (λ (x : Data). x ∷ []) is)
