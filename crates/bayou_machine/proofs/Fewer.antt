-- A server lacks no more than there is.
use Rattle.std.proofs.Common.{◌≡◌, ◌∙◌, ℕ, suc, ◌≤◌, Bool, true, false, cond, nat_lt, All, List, [], ◌∷◌, ◌++◌, length, slice_index, refl, ap, subst, arith}
use Rattle.std.proofs.lemmas.List.Elements.{All-from_recursion}
use Rattle.std.proofs.lemmas.List.Sums.{count_by-le-length, length-filter}
use Rattle.std.specs.List.{AllByRecursion}
use Rattle.bayou_base.specs.declared.limits.TheConstants.{MAX_WRITES}
use Rattle.bayou_base.specs.Order.{is_before}
use Rattle.bayou_frames.specs.Spelled.{answer_bytes}
use Rattle.bayou_lang.specs.declared.write.Write.{Write}
use Rattle.bayou_lang.specs.Ranges.{IsWrite}
use Rattle.bayou_lang.specs.Writes.{in_stamp_order, lacking_of, place_by_stamp}
use Rattle.bayou_machine.specs.Inner.Sent.{Sends}

placed : (write next : Write) (writes : List Write) (first : Bool) → length (place_by_stamp write writes) ≡ suc (length writes)
    → length (cond first (write ∷ next ∷ writes) (next ∷ place_by_stamp write writes)) ≡ suc (suc (length writes))
placed write next writes true others = refl
placed write next writes false others = ap suc others

one_more : (write : Write) (writes : List Write) → length (place_by_stamp write writes) ≡ suc (length writes)
one_more write [] = refl
one_more write (next ∷ writes) = placed write next writes (is_before write.stamp next.stamp) (one_more write writes)

as_many : (writes : List Write) → length (in_stamp_order writes) ≡ length writes
as_many [] = refl
as_many (write ∷ writes) = one_more write (in_stamp_order writes) ∙ ap suc (as_many writes)

pub no_more : (counts : List ℕ) (writes : List Write) → length (lacking_of counts writes) ≤ length writes
no_more counts writes =
    let is_missed : Write → Bool = λ write. nat_lt (slice_index counts write.wid.origin.index) write.wid.seq in
    omega (arith, length-filter is_missed (in_stamp_order writes), count_by-le-length is_missed (in_stamp_order writes), as_many writes)

pub appended : (before after text : List ℕ) → before ≡ [] → after ≡ before ++ text → after ≡ text
appended before after text none is = is ∙ ap (λ l. l ++ text) none

-- what was sent of what a server lacks
pub sends_lacking : (counts : List ℕ) (held : List Write) (limit : ℕ) (writes : List Write) (bytes : List ℕ) → writes ≡ lacking_of counts held → AllByRecursion IsWrite writes
    → bytes ≡ answer_bytes writes → length held ≤ limit → limit ≤ MAX_WRITES → Sends (lacking_of counts held) bytes
sends_lacking counts held limit writes bytes is each spelled within range = record {
  valid = subst (All IsWrite) is (All-from_recursion IsWrite writes each);
  few = omega (arith, no_more counts held, within, range);
  spelled = spelled ∙ ap answer_bytes is;
}
