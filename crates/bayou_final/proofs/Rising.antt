-- Writes that rise are in stamp order.
use Rattle.std.proofs.Common.{◌≡◌, ◌+◌, ◌∙◌, ℕ, suc, List, [], ◌∷◌, Some, ap, arith, cond, refl, slice_get, subst}
use Rattle.bayou_lang.specs.declared.write.Write.{Write}
use Rattle.bayou_lang.specs.Writes.{in_stamp_order, place_by_stamp}
use Rattle.bayou_final.specs.Known.{AreRising}

-- the first goes before the others
placed_first : (write : Write) (writes : List Write) → AreRising (write ∷ writes) → place_by_stamp write writes ≡ write ∷ writes
placed_first write [] rising = refl
placed_first write (next ∷ writes) rising =
    ap (λ t. cond t (write ∷ next ∷ writes) (next ∷ place_by_stamp write writes)) (rising 0 write next refl refl)

-- a place behind the first
behind : (place : ℕ) → suc (place + 1) ≡ suc place + 1
behind place = omega arith

pub in_order : (writes : List Write) → AreRising writes → in_stamp_order writes ≡ writes
in_order [] rising = refl
in_order (write ∷ writes) rising =
    ap (place_by_stamp write) (in_order writes (λ place one next here there. rising (suc place) one next here (subst (λ i. slice_get (write ∷ writes) i ≡ Some next) (behind place) there))) ∙ placed_first write writes rising
