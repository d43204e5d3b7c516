-- What of a line is in a piece that was read.
use Rattle.std.proofs.Common.{arith, ◌≡◌, ◌∙◌, ◌+◌, ◌-◌, ◌<◌, ◌≤◌, ◌++◌, ◌∷◌, [], ℕ, List, Bool, true, false, Option, None, Some, ap, append_assoc, drop, eqb-true, get_or, if◌then◌else◌, length, length-drop, min, not, subst, sym, take, ⊎_elim}
use Rattle.std.specs.List.{position_or_len, slice_range}
use Rattle.std.specs.Option.{option_map}
use Rattle.std.specs.Prelude.{position}
use Rattle.std.proofs.lemmas.Bool.{cases_lt}
use Rattle.std.proofs.lemmas.Grind.{common_steps}
use Rattle.std.proofs.lemmas.List.{drop-drop, drop-take, get_or-take, length-take, take-take, take_all}
use Rattle.std.proofs.lemmas.List.Sums.{fails_before_first, passes_at_first, position_or_len_is, prefix_len-le-length, split_at_first}
use Rattle.bayou_connect.specs.Reader.{GivesPart, is_line_feed}

-- what was found of the first line feed
abbrev pub Found : Option ℕ → List ℕ → Type 0
Found found bytes = found ≡ position is_line_feed bytes

found_at : (at : ℕ) (bytes : List ℕ) → Found (Some at) bytes → (position_or_len is_line_feed bytes ≡ at) × (at < length bytes)
found_at at bytes is = grind (arith, common_steps)

found_none : (bytes : List ℕ) → Found None bytes → length bytes ≤ position_or_len is_line_feed bytes
found_none bytes is = grind (arith, common_steps)

none_before : (bytes : List ℕ) (at : ℕ) → position_or_len is_line_feed bytes ≡ at → at < length bytes → position_or_len is_line_feed (take at bytes) ≡ length (take at bytes)
none_before bytes at is within =
    let few : length (take at bytes) ≡ at = omega (arith, length-take at bytes) in
    position_or_len_is is_line_feed (take at bytes) (length (take at bytes)) 0 (omega arith)
    (λ k below. ap is_line_feed (get_or-take at bytes k 0 (omega arith)) ∙ fails_before_first is_line_feed bytes k 0 (omega (arith, is))) (λ beyond. absurd (omega (arith, beyond)))

-- as many of the first bytes as there is room for
pub put_part : (at room : ℕ) (bytes : List ℕ) → take (min at room) bytes ≡ take room (take at bytes)
put_part at room bytes = ⊎_elim
    (λ (less : at < room). ap (λ n. take n bytes) (omega arith) ∙ sym (take_all room (take at bytes) (omega (arith, length-take at bytes))))
    (λ (more : room ≤ at). ap (λ n. take n bytes) (omega arith) ∙ sym (take-take room at bytes more)) (cases_lt at room)

-- the line ended in the piece
pub gives_end : (piece : List ℕ) (from to at : ℕ) (known : Option (List ℕ)) (has_ended : Bool) → Found (Some at) (slice_range piece from to)
    → GivesPart (option_map (λ (xs : List ℕ). slice_range piece from to ++ (if has_ended then [] else xs)) known)
    (option_map (λ (xs : List ℕ). slice_range piece (from + (at + 1)) to ++ (if has_ended then [] else xs)) known) (take at (slice_range piece from to)) true
gives_end piece from to at None has_ended found =
    let (is, within) = found_at at (slice_range piece from to) found in
    none_before (slice_range piece from to) at is within
gives_end piece from to at (Some xs) has_ended found =
    let bytes = slice_range piece from to in
    let tail = if has_ended then [] else xs in
    let (is, within) = found_at at bytes found in
    let feed : get_or bytes at 0 ≡ 10 = eqb-true (get_or bytes at 0) 10 (subst (λ n. is_line_feed (get_or bytes n 0) ≡ true) is (passes_at_first is_line_feed bytes 0 (omega (arith, is, within)))) in
    let split : bytes ≡ take at bytes ++ (get_or bytes at 0 ∷ drop (at + 1) bytes) =
    subst (λ n. bytes ≡ take n bytes ++ (get_or bytes n 0 ∷ drop (n + 1) bytes)) is (split_at_first is_line_feed bytes 0 (omega (arith, is, within))) in
    let whole : bytes ≡ take at bytes ++ 10 ∷ drop (at + 1) bytes = split ∙ ap (λ (n : ℕ). take at bytes ++ (n ∷ drop (at + 1) bytes)) feed in
    let long : to - from ≡ (at + 1) + (to - (from + (at + 1))) = omega (arith, within, length-take (to - from) (drop from piece)) in
    let behind : drop (at + 1) bytes ≡ slice_range piece (from + (at + 1)) to =
    ap (λ n. drop (at + 1) (take n (drop from piece))) long ∙ drop-take (at + 1) (to - (from + (at + 1))) (drop from piece) ∙ ap (λ (l : List ℕ). take (to - (from + (at + 1))) l) (drop-drop (at + 1) from piece) in (
      none_before bytes at is within,
      ap (λ (l : List ℕ). l ++ tail) whole ∙ append_assoc (take at bytes) (10 ∷ drop (at + 1) bytes) tail ∙ ap (λ (l : List ℕ). take at bytes ++ 10 ∷ (l ++ tail)) behind,
    )

-- it goes on behind the piece
pub gives_more : (piece : List ℕ) (from to : ℕ) (known : Option (List ℕ)) (has_ended : Bool) → from < to → to ≤ length piece → Found None (slice_range piece from to)
    → GivesPart (option_map (λ (xs : List ℕ). slice_range piece from to ++ (if has_ended then [] else xs)) known)
    (option_map (λ (xs : List ℕ). slice_range piece to to ++ (if has_ended then [] else xs)) known) (slice_range piece from to) false
gives_more piece from to known has_ended some within found = of known
  where
    bytes : List ℕ
    bytes = slice_range piece from to

    none : position_or_len is_line_feed bytes ≡ length bytes
    none = omega (arith, found_none bytes found, prefix_len-le-length (λ b. not (is_line_feed b)) bytes)

    of : (known : Option (List ℕ)) → GivesPart (option_map (λ (xs : List ℕ). bytes ++ (if has_ended then [] else xs)) known)
        (option_map (λ (xs : List ℕ). slice_range piece to to ++ (if has_ended then [] else xs)) known) bytes false
    of None = none
    of (Some xs) =
        let none_left : to - to ≡ 0 = omega arith in
        let gone : slice_range piece to to ≡ [] = ap (λ n. take n (drop to piece)) none_left ∙ grind (arith, common_steps) in
        (none, (ap (λ (l : List ℕ). bytes ++ (l ++ (if has_ended then [] else xs))) (sym gone), omega (arith, length-take (to - from) (drop from piece), length-drop from piece)))
