-- Writes, counted one after another.
use Rattle.std.proofs.Common.{◌≡◌, ◌∙◌, ◌+◌, ◌<◌, ◌≤◌, ◌++◌, ◌∷◌, ℕ, Bool, true, false, List, [], Some, Option, None, MatchOption, ap, append-nil, arith, cond, get_or, le-leb, length, max, refl, subst, sym, take}
use Rattle.std.specs.Prelude.{nat_le}
use Rattle.std.specs.List.{filter, slice_get}
use Rattle.std.proofs.lemmas.Bool.{leb-true}
use Rattle.std.proofs.lemmas.List.{take_more}
use Rattle.std.proofs.lemmas.List.Elements.{filter-append}
use Rattle.std.specs.List.{slice_index}
use Rattle.bayou_base.specs.Vector.{Covers}
use Rattle.bayou_lang.specs.Laws.Fitting.{greatest_clock-push}
use Rattle.bayou_lang.specs.Writes.{covered_by, greatest_clock}
use Rattle.bayou_lang.specs.declared.write.Write.{Write}

pub one_more : {X : Type 0} (xs : List X) (at : ℕ) (x : X) → at < length xs → x ≡ get_or xs at x → take (at + 1) xs ≡ take at xs ++ x ∷ []
one_more xs at x within is = take_more xs at x within ∙ ap (λ y. take at xs ++ y ∷ []) (sym is)

abbrev is_counted : List ℕ → Write → Bool
is_counted counts write = nat_le write.wid.seq (slice_index counts write.wid.origin.index)

with_one : (counts : List ℕ) (writes : List Write) (write : Write) (test : Bool) → is_counted counts write ≡ test
    → greatest_clock (covered_by counts (writes ++ write ∷ [])) ≡ cond test (max (greatest_clock (covered_by counts writes)) write.stamp.clock) (greatest_clock (covered_by counts writes))
with_one counts writes write true is =
    ap greatest_clock (filter-append (is_counted counts) writes (write ∷ []) ∙ ap (λ t. covered_by counts writes ++ cond t (write ∷ []) []) is)
    ∙ greatest_clock-push (covered_by counts writes) write
with_one counts writes write false is =
    ap greatest_clock (filter-append (is_counted counts) writes (write ∷ []) ∙ ap (λ t. covered_by counts writes ++ cond t (write ∷ []) []) is ∙ append-nil (covered_by counts writes))

-- the greatest clock with one more Write that is counted, and with one that isn't
pub clock_in : (counts : List ℕ) (writes : List Write) (write : Write) → Covers counts write.wid.origin.index write.wid.seq
    → greatest_clock (covered_by counts (writes ++ write ∷ [])) ≡ max (greatest_clock (covered_by counts writes)) write.stamp.clock
clock_in counts writes write covers = with_one counts writes write true (le-leb write.wid.seq (slice_index counts write.wid.origin.index) covers)

not_counted : (test : Bool) (a b : ℕ) → nat_le a b ≡ test → ¬ (a ≤ b) → test ≡ false
not_counted true a b is not = absurd (not (leb-true a b is))
not_counted false a b is not = refl

pub clock_out : (counts : List ℕ) (writes : List Write) (write : Write) → ¬ Covers counts write.wid.origin.index write.wid.seq
    → greatest_clock (covered_by counts (writes ++ write ∷ [])) ≡ greatest_clock (covered_by counts writes)
clock_out counts writes write not =
    let is = not_counted (is_counted counts write) write.wid.seq (slice_index counts write.wid.origin.index) refl not in
    with_one counts writes write false is
