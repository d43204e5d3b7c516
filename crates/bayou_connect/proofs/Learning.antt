-- How what is known of what is final goes on.
use Rattle.std.proofs.Common.{◌≡◌, ◌∙◌, ℕ, List, Bool, false, Option, None, Some, IfSome, ap, subst, sym, take}
use Rattle.std.specs.Global.{Vec}
use Rattle.bayou_connect.specs.Finals.{HasGoneOn, HasSettled, IsNear, finals_in, own_in}
use Rattle.bayou_final.specs.declared.finality.Finality.{Finality}
use Rattle.bayou_lang.specs.Writes.{raised_by}
use Rattle.bayou_lang.specs.declared.write.Write.{Write}
use Rattle.bayou_outlook.specs.declared.outlook.Outlook.{Outlook}
use Rattle.bayou_outlook.specs.declared.outlook.OwnWrite.{OwnWrite}

-- the own Writes stay
pub settled_own : (old new : Option Outlook) (view : List ℕ) (settled : Bool) → HasSettled old view settled new → own_in new ≡ own_in old
settled_own None new view settled (nothing, same) = ap own_in same
settled_own (Some old) None view settled is = absurd is
settled_own (Some old) (Some new) view settled (own, is) = ap (λ (v : Vec OwnWrite). v.items) own

pub gone_on_own : (old new : Option Outlook) (writes : List Write) (number : Option ℕ) → HasGoneOn old writes number new → own_in new ≡ own_in old
gone_on_own None new writes number (nothing, same) = ap own_in same
gone_on_own (Some old) new writes None is = absurd is
gone_on_own (Some old) None writes (Some number) (within, order, is) = absurd is
gone_on_own (Some old) (Some new) writes (Some number) (within, order, (own, finals)) = ap (λ (v : Vec OwnWrite). v.items) own

-- what isn't settled stays
pub unsettled_finals : (old new : Option Outlook) (view : List ℕ) → HasSettled old view false new → finals_in new ≡ finals_in old
unsettled_finals None new view (nothing, same) = ap finals_in same
unsettled_finals (Some old) None view is = absurd is
unsettled_finals (Some old) (Some new) view (own, is) = ap (λ (f : Finality). Some f.finals) is

-- and is gone on from
pub gone_on_from : (old middle new : Option Outlook) (view : List ℕ) (writes : List Write) (number : ℕ) → HasSettled old view false middle → HasGoneOn middle writes (Some number) new
    → HasGoneOn old writes (Some number) new
gone_on_from None middle new view writes number (nothing, same) goes = subst (λ (m : Option Outlook). HasGoneOn m writes (Some number) new) same goes
gone_on_from (Some old) None new view writes number is goes = absurd is
gone_on_from (Some old) (Some middle) None view writes number is (within, order, goes) = absurd goes
gone_on_from (Some old) (Some middle) (Some new) view writes number (own, same) (within, order, (goes, finals)) =
    (within, order, (goes ∙ own, finals ∙ ap (λ (f : Finality). raised_by f.finals (take number writes)) same))

-- where more isn't learned nothing changes
pub not_gone_on : (old new : Option Outlook) (writes : List Write) → HasGoneOn old writes None new → finals_in new ≡ finals_in old
not_gone_on None new writes (nothing, same) = ap finals_in same
not_gone_on (Some old) new writes is = absurd is

pub is_near : (old middle : Option (List ℕ)) (counts view : List ℕ) → middle ≡ old → middle ≡ Some counts → IsNear counts view → IfSome old (λ finals. IsNear finals view)
is_near old middle counts view same is near = subst (λ (o : Option (List ℕ)). IfSome o (λ finals. IsNear finals view)) (sym is ∙ same) near
