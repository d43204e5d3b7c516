-- One session more is kept, where there is one.
use Rattle.std.proofs.Common.{◌≡◌, ℕ, List, [], ◌∷◌, ◌++◌, Option, None, Some, ap, refl}
use Rattle.bayou_connect.specs.Anew.{entries_behind, those}
use Rattle.bayou_device.specs.Device.{one_more}
use Rattle.bayou_client.specs.Operating.{Asking}

pub those_more : (all : List (Option Asking)) (kept : Asking) → those (all ++ Some kept ∷ []) ≡ those all ++ kept ∷ []
those_more [] kept = refl
those_more (None ∷ all) kept = those_more all kept
those_more (Some first ∷ all) kept = ap (λ (l : List Asking). first ∷ l) (those_more all kept)

pub those_same : (all : List (Option Asking)) → those (all ++ None ∷ []) ≡ those all
those_same [] = refl
those_same (None ∷ all) = those_same all
those_same (Some first ∷ all) = ap (λ (l : List Asking). first ∷ l) (those_same all)

pub behind_more : (count : ℕ) (all : List Asking) (kept : Asking) → entries_behind count (all ++ kept ∷ []) ≡ one_more (entries_behind count all)
behind_more count [] kept = refl
behind_more count (first ∷ all) kept = behind_more (one_more count) all kept
