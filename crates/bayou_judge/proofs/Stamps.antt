-- The later of two stamps.
use Rattle.std.proofs.Common.{◌≡◌, ◌⊎◌, inl, inr, subst, true, false, cond, Option, Some, None, sym, ◌∙◌, refl}
use Rattle.bayou_base.specs.declared.stamp.Stamp.{Stamp}
use Rattle.bayou_base.specs.Order.{is_before}
use Rattle.bayou_lang.specs.Laws.StampOrder.{is_before-asym, is_before-cotrans}
use Rattle.bayou_judge.specs.Inner.Index.{later_of, IsUpTo}

pub not_before_itself : (stamp : Stamp) → is_before stamp stamp ≡ false
not_before_itself stamp =
    elim (is_before stamp stamp) as (λ t. is_before stamp stamp ≡ t → t ≡ false) [
      | true ↦ λ is. sym is ∙ is_before-asym stamp stamp is
      | false ↦ λ isnt. refl
    ] refl

-- what isn't after a stamp isn't after a later one
pub later_keeps : (last stamp other : Stamp) → is_before last stamp ≡ true → is_before last other ≡ false → is_before stamp other ≡ false
later_keeps last stamp other earlier up_to =
    elim (is_before stamp other) as (λ t. is_before stamp other ≡ t → t ≡ false) [
      | true ↦ λ is. sym (is_before-cotrans last stamp other earlier (is_before-asym stamp other is)) ∙ up_to
      | false ↦ λ isnt. refl
    ] refl

pub later_of-old : (last : Option Stamp) (stamp other : Stamp) → IsUpTo last other → is_before (later_of last stamp) other ≡ false
later_of-old None stamp other up_to = absurd up_to
later_of-old (Some last) stamp other up_to =
    elim (is_before last stamp) as (λ t. is_before last stamp ≡ t → is_before (cond t stamp last) other ≡ false) [
      | true ↦ λ is. later_keeps last stamp other is up_to
      | false ↦ λ isnt. up_to
    ] refl

pub later_of-new : (last : Option Stamp) (stamp other : Stamp) → is_before stamp other ≡ false → is_before (later_of last stamp) other ≡ false
later_of-new None stamp other up_to = up_to
later_of-new (Some last) stamp other up_to =
    elim (is_before last stamp) as (λ t. is_before last stamp ≡ t → is_before (cond t stamp last) other ≡ false) [
      | true ↦ λ is. up_to
      | false ↦ λ isnt.
          elim (is_before last other) as (λ t. is_before last other ≡ t → t ≡ false) [
            | true ↦ λ is. sym (is_before-cotrans last other stamp is up_to) ∙ isnt
            | false ↦ λ not_before. refl
          ] refl
    ] refl

-- what isn't after the last stamp is before what that one is before
pub before_past : (last next stamp : Stamp) → is_before last next ≡ true → is_before last stamp ≡ false → is_before stamp next ≡ true
before_past last next stamp past up_to =
    elim (is_before stamp next) as (λ t. is_before stamp next ≡ t → t ≡ true) [
      | true ↦ λ is. refl
      | false ↦ λ isnt. sym up_to ∙ is_before-cotrans last next stamp past isnt
    ] refl

pub last_of-either : (last other : Option Stamp) (stamp : Stamp) → (IsUpTo last stamp ⊎ IsUpTo other stamp) → (made : Stamp) → other ≡ Some made → is_before (later_of last made) stamp ≡ false
last_of-either last other stamp (inl up_to) made is = later_of-old last made stamp up_to
last_of-either last other stamp (inr up_to) made is = later_of-new last made stamp (subst (λ o. IsUpTo o stamp) is up_to)
