-- How long an answer is.
use Rattle.std.proofs.Common.{◌≡◌, ◌∙◌, ℕ, zero, suc, ◌+◌, ◌*◌, ◌<◌, ◌≤◌, ◌==◌, List, [], ◌∷◌, ◌++◌, Option, None, Some, Bool, true, false, nat_le, cond, length, take, drop, refl, ap, sym, arith, append_assoc, length-append, take-append-drop}
use Rattle.std.proofs.lemmas.Bool.Decides.{Decides-eqb}
use Rattle.std.proofs.lemmas.List.{length-take}
use Rattle.std.specs.List.{AllByRecursion}
use Rattle.bayou_base.specs.declared.limits.TheConstants.{MAX_BODY_BYTES, MAX_TURNS, MAX_WRITES, READ_BYTES}
use Rattle.bayou_frames.specs.Spelled.{answer_bytes, items_of}
use Rattle.bayou_lang.specs.declared.write.Write.{Write}
use Rattle.bayou_lang.specs.Ranges.{IsWrite}
use Rattle.bayou_peer.specs.Meeting.{cut_answer}
use Rattle.bayou_wire.specs.declared.frame.Frame.TheVariants.{Item, End}
use Rattle.bayou_wire.specs.Spelling.{write_bytes}
use Rattle.bayou_wire.specs.Stream.{spelling, spellings}

module _ (fits : (write : Write) → IsWrite write → (0 < length (write_bytes write)) × (length (write_bytes write) ≤ MAX_BODY_BYTES)) where
  item_size : (write : Write) → IsWrite write → length (spelling (Item write)) ≤ MAX_BODY_BYTES + 3
  unfolding spelling
  item_size write is = let few = fits write is in omega (arith, few.1)

  end_size : (number : ℕ) → length (spelling (End number)) ≤ 7
  unfolding spelling
  end_size number = omega arith

  items_size : (sent : List Write) → AllByRecursion IsWrite sent → length (spellings (items_of sent)) ≤ (MAX_BODY_BYTES + 3) * length sent
  items_size [] each = omega arith
  items_size (write ∷ sent) each =
      let one = item_size write each.0 in
      let others = items_size sent each.1 in
      omega (arith, one, others, length-append (spelling (Item write)) (spellings (items_of sent)))

  whole_size : (sent : List Write) → AllByRecursion IsWrite sent → length sent ≤ MAX_WRITES → length (answer_bytes sent) ≤ READ_BYTES * MAX_TURNS
  whole_size sent each few =
      let items = items_size sent each in
      let end = end_size (length sent) in
      omega (arith, items, end, few, length-append (spellings (items_of sent)) (spelling (End (length sent))))

  all_first : (count : ℕ) (sent : List Write) → AllByRecursion IsWrite sent → AllByRecursion IsWrite (take count sent)
  all_first zero sent each = tt
  all_first (suc count) [] each = tt
  all_first (suc count) (write ∷ sent) each = (each.0, all_first count sent each.1)

  front_size : (count : ℕ) (sent : List Write) → AllByRecursion IsWrite sent → length sent ≤ MAX_WRITES → length (spellings (items_of (take count sent))) ≤ READ_BYTES * MAX_TURNS
  front_size count sent each few =
      let items = items_size (take count sent) (all_first count sent each) in
      omega (arith, items, few, length-take count sent)

  either : (is_cut : Bool) (count : ℕ) (sent : List Write) → AllByRecursion IsWrite sent → length sent ≤ MAX_WRITES
      → length (cond is_cut (spellings (items_of (take count sent))) (answer_bytes sent)) ≤ READ_BYTES * MAX_TURNS
  either true count sent each few = front_size count sent each few
  either false count sent each few = whole_size sent each few

  pub short : (sent : List Write) (cut : Option ℕ) → AllByRecursion IsWrite sent → length sent ≤ MAX_WRITES → length (cut_answer cut sent) ≤ READ_BYTES * MAX_TURNS
  short sent None each few = whole_size sent each few
  short sent (Some items) each few = either (nat_le items (length sent)) items sent each few

-- ---- an answer, piece by piece

pub goes_on : (answer read rest : List ℕ) (count : ℕ) (piece behind : List ℕ) → answer ≡ read ++ rest → piece ≡ take count rest → behind ≡ drop count rest
    → answer ≡ (read ++ piece) ++ behind
goes_on answer read rest count piece behind whole front back =
    whole ∙ ap (λ l. read ++ l) (sym (take-append-drop count rest)) ∙ sym (append_assoc read (take count rest) (drop count rest))
    ∙ ap (λ l. (read ++ l) ++ drop count rest) (sym front) ∙ ap (λ l. (read ++ piece) ++ l) (sym back)

pub some_left : (rest : List ℕ) {is_empty : Bool} → is_empty ≡ (length rest == 0) → is_empty ≡ false → 0 < length rest
some_left [] is empty = let bad : true ≡ false = sym is ∙ empty in cc
some_left (byte ∷ rest) is empty = omega arith

pub none_left : (rest : List ℕ) {is_empty : Bool} → is_empty ≡ (length rest == 0) → is_empty ≡ true → rest ≡ []
none_left [] is empty = refl
none_left (byte ∷ rest) is empty = let bad : length (byte ∷ rest) ≡ 0 = (Decides-eqb (length (byte ∷ rest)) 0).0 (sym is ∙ empty) in absurd (omega (arith, bad))
