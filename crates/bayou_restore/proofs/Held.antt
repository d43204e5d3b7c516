-- What `==` tells of a gathered Write of the given one's name, and of what a Write was given.
use Rattle.std.proofs.Common.{◌≡◌, List, Bool, true, false, Contains, sym, ◌∙◌, subst}
use Rattle.bayou_lang.specs.declared.write.Write.{Write}
use Rattle.bayou_lang.specs.Equality.{same_write}
use Rattle.bayou_lang.specs.Laws.Equality.{same_write-decides}
use Rattle.bayou_server.specs.Takes.{HasAnother}

-- the two are one, and so the given one is there
pub is_there : (writes : List Write) (found given : Write) (told : Bool) → Contains writes found → told ≡ same_write found given → told ≡ true → Contains writes given
is_there writes found given told among is equal =
    subst (λ (w : Write). Contains writes w) ((same_write-decides found given).0 (sym is ∙ equal)) among

-- the two are not one, and so another one is there
pub is_another : (writes : List Write) (found given : Write) (told : Bool) → Contains writes found → found.wid ≡ given.wid → told ≡ same_write found given → told ≡ false → HasAnother writes given
is_another writes found given told among name is unequal = record {
  other = found;
  among = among;
  name = name;
  differs = λ same. absurd (let yes = (same_write-decides found given).1 same in cc);
}
