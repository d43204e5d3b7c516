-- What all are heard to hold is known.
use Rattle.std.proofs.Common.{◌≡◌, ◌<◌, ◌∙◌, ℕ, List, Option, None, Some, ap, slice_get, subst, sym}
use Rattle.bayou_base.specs.declared.wid.Wid.{Wid}
use Rattle.bayou_base.specs.Vector.{Covers}
use Rattle.bayou_final.specs.Known.{IsKnown}
use Rattle.bayou_final.specs.Views.{AreHeard}

-- an option's element, for what is none
or_else : List ℕ → Option (Option (List ℕ)) → List ℕ
or_else none (Some (Some view)) = view
or_else none (Some None) = none
or_else none None = none

pub known_by_all : (count : ℕ) (heard : List (Option (List ℕ))) (views : ℕ → List ℕ) (name : Wid) → AreHeard count heard views
    → ((place : ℕ) → place < count → (view : List ℕ) × (slice_get heard place ≡ Some (Some view)) × Covers view name.origin.index name.seq) → IsKnown count views name
unfolding or_else
known_by_all count heard views name are each place among =
    let (view, is, covers) = each place among in
    let same : view ≡ views place = ap (or_else view) (sym is ∙ are place among) in
    subst (λ one. Covers one name.origin.index name.seq) same covers
