-- A line that is taken piece by piece.
use Rattle.std.proofs.Common.{arith, ◌≡◌, ◌∙◌, ◌+◌, ◌-◌, ◌<◌, ◌≤◌, ◌++◌, ◌∷◌, [], ℕ, List, Bool, true, false, MatchBool, Option, None, Some, zero, suc, ap, append_assoc, cond, drop, eq-eqb, length, length-append, not, refl, subst, sym, take}
use Rattle.std.specs.Io.KnownBytes.{IsAtEnd, Keeps}
use Rattle.std.specs.List.{after_first, before_first, position_or_len}
use Rattle.std.proofs.Math.Seq.{drop-append-add, take-append_seam}
use Rattle.std.proofs.lemmas.Grind.{common_steps}
use Rattle.std.proofs.lemmas.List.{append-nil, length-take, take_all}
use Rattle.std.specs.Global.{Vec}
use Rattle.std.proofs.lemmas.List.Folds.{prefix_len-append}
use Rattle.bayou_base.specs.declared.limits.TheConstants.{MAX_LINE_BYTES}
use Rattle.bayou_connect.specs.Reader.{GivesPart, PutsLine, TakesLine, is_line_feed}
use Rattle.bayou_connect.specs.declared.lines.NextLine.TheVariants.{Line, TooLong, End}

-- none of the bytes is a line feed
abbrev pub HasNone : List ℕ → Type 0
HasNone bytes = position_or_len is_line_feed bytes ≡ length bytes

-- these bytes were taken, of which none is a line feed, and at least one, if any was
abbrev pub HasTaken : (old new : Option (List ℕ)) → (passed : List ℕ) → (has_any : Bool) → Type 0
HasTaken None new passed has_any = Unit {0}
HasTaken (Some bytes) None passed has_any = ⊥
HasTaken (Some bytes) (Some rest) passed has_any = HasNone passed × (bytes ≡ passed ++ rest) × MatchBool has_any (0 < length passed) (passed ≡ [])

past : (xs ys : List ℕ) → HasNone xs → position_or_len is_line_feed (xs ++ ys) ≡ length xs + position_or_len is_line_feed ys
past xs ys none =
    prefix_len-append (λ b. not (is_line_feed b)) xs ys
    ∙ ap (λ t. cond t (length xs + position_or_len is_line_feed ys) (position_or_len is_line_feed xs)) (eq-eqb (position_or_len is_line_feed xs) (length xs) none)

none_in_both : (xs ys : List ℕ) → HasNone xs → HasNone ys → HasNone (xs ++ ys)
none_in_both xs ys first second = past xs ys first ∙ ap (λ n. length xs + n) second ∙ sym (length-append xs ys)

none_of_none : HasNone []
none_of_none = refl

-- the line is what stands before the first line feed
line_before : (xs rest : List ℕ) → HasNone xs → before_first is_line_feed (xs ++ 10 ∷ rest) ≡ xs
line_before xs rest none =
    let at : position_or_len is_line_feed (xs ++ 10 ∷ rest) ≡ length xs = past xs (10 ∷ rest) none ∙ (omega arith) in
    ap (λ n. take n (xs ++ 10 ∷ rest)) at ∙ take-append_seam xs (10 ∷ rest)

rest_behind : (xs rest : List ℕ) → HasNone xs → after_first is_line_feed (xs ++ 10 ∷ rest) ≡ rest
rest_behind xs rest none =
    let at : position_or_len is_line_feed (xs ++ 10 ∷ rest) + 1 ≡ length xs + 1 = ap (λ n. n + 1) (past xs (10 ∷ rest) none) ∙ (omega arith) in
    ap (λ n. drop n (xs ++ 10 ∷ rest)) at ∙ drop-append-add xs (10 ∷ rest) 1

whole_before : (xs : List ℕ) → HasNone xs → before_first is_line_feed xs ≡ xs
whole_before xs none = ap (λ n. take n xs) none ∙ grind (arith, common_steps)

none_behind : (xs : List ℕ) → HasNone xs → [] ≡ after_first is_line_feed xs
none_behind xs none = sym (ap (λ n. drop (n + 1) xs) none ∙ grind (arith, common_steps))

-- no byte is left: what was taken is the line, if any was
pub takes_none : (old now end : Option (List ℕ)) (passed line : List ℕ) (has_any : Bool) → HasTaken old now passed has_any → line ≡ take (MAX_LINE_BYTES + 1) passed
    → Keeps now end → IsAtEnd end → PutsLine old end line has_any
takes_none None now end passed line has_any taken is kept ended = tt
takes_none (Some bytes) None end passed line has_any taken is kept ended = absurd taken
takes_none (Some bytes) (Some rest) None passed line has_any taken is kept ended = absurd kept
takes_none (Some bytes) (Some rest) (Some last) passed line true (none, split, some) is kept ended =
    let same : bytes ≡ passed = split ∙ ap (λ (l : List ℕ). passed ++ l) (sym kept ∙ ended) ∙ append-nil passed in
    subst (λ (b : List ℕ). PutsLine (Some b) (Some last) line true) (sym same)
    (some, is ∙ ap (λ (l : List ℕ). take (MAX_LINE_BYTES + 1) l) (sym (whole_before passed none)), ended ∙ none_behind passed none)
takes_none (Some bytes) (Some rest) (Some last) passed line false (none, split, nothing) is kept ended =
    (split ∙ ap (λ (l : List ℕ). l ++ rest) nothing ∙ (sym kept ∙ ended), ended)

-- what is put of two pieces, one after the other
pub take_both : (xs ys : List ℕ) (n : ℕ) → take n xs ++ take (n - length (take n xs)) ys ≡ take n (xs ++ ys)
take_both [] ys n = grind (arith, common_steps)
take_both (x ∷ xs) ys zero = grind (arith, common_steps)
take_both (x ∷ xs) ys (suc n) =
    let left : suc n - length (take (suc n) (x ∷ xs)) ≡ n - length (take n xs) = omega arith in
    ap (λ (k : ℕ). x ∷ take n xs ++ take k ys) left ∙ ap (λ (l : List ℕ). x ∷ l) (take_both xs ys n)

pub put_both : (passed part before line : List ℕ) → before ≡ take (MAX_LINE_BYTES + 1) passed → line ≡ before ++ take (MAX_LINE_BYTES + 1 - length before) part
    → line ≡ take (MAX_LINE_BYTES + 1) (passed ++ part)
put_both passed part before line is more =
    more ∙ ap (λ (l : List ℕ). l ++ take (MAX_LINE_BYTES + 1 - length l) part) is ∙ take_both passed part (MAX_LINE_BYTES + 1)

-- the line ended
pub takes_end : (old now held new : Option (List ℕ)) (passed part before line : List ℕ) (has_any : Bool) → HasTaken old now passed has_any → Keeps now held → GivesPart held new part true
    → before ≡ take (MAX_LINE_BYTES + 1) passed → line ≡ before ++ take (MAX_LINE_BYTES + 1 - length before) part → PutsLine old new line true
takes_end None now held new passed part before line has_any taken kept given is more = tt
takes_end (Some bytes) None held new passed part before line has_any taken kept given is more = absurd taken
takes_end (Some bytes) (Some rest) None new passed part before line has_any taken kept given is more = absurd kept
takes_end (Some bytes) (Some rest) (Some held) None passed part before line has_any taken kept given is more = absurd given
takes_end (Some bytes) (Some rest) (Some held) (Some last) passed part before line has_any (none, split, some) kept (part_none, parted) is more =
    let all = passed ++ part in
    let whole : bytes ≡ all ++ 10 ∷ last = split ∙ ap (λ (l : List ℕ). passed ++ l) (sym kept ∙ parted) ∙ sym (append_assoc passed part (10 ∷ last)) in
    let has_none : HasNone all = none_in_both passed part none part_none in
    subst (λ (b : List ℕ). PutsLine (Some b) (Some last) line true) (sym whole) (
      omega (arith, length-append all (10 ∷ last)),
      put_both passed part before line is more ∙ ap (λ (l : List ℕ). take (MAX_LINE_BYTES + 1) l) (sym (line_before all last has_none)),
      sym (rest_behind all last has_none),
    )

-- it goes on
pub takes_more : (old now held new : Option (List ℕ)) (passed part : List ℕ) (has_any : Bool) → HasTaken old now passed has_any → Keeps now held → GivesPart held new part false
    → HasTaken old new (passed ++ part) true
takes_more None now held new passed part has_any taken kept given = tt
takes_more (Some bytes) None held new passed part has_any taken kept given = absurd taken
takes_more (Some bytes) (Some rest) None new passed part has_any taken kept given = absurd kept
takes_more (Some bytes) (Some rest) (Some held) None passed part has_any taken kept given = absurd given
takes_more (Some bytes) (Some rest) (Some held) (Some last) passed part has_any (none, split, some) kept (part_none, (parted, more)) =
    (none_in_both passed part none part_none, split ∙ ap (λ (l : List ℕ). passed ++ l) (sym kept ∙ parted) ∙ sym (append_assoc passed part last), omega (arith, length-append passed part, more))

-- ---- what is given of the line that was put

pub is_next : (old new : Option (List ℕ)) (line : Vec ℕ) → PutsLine old new line.items true → length line.items ≤ MAX_LINE_BYTES → TakesLine old new (Line line)
is_next None new line put short = tt
is_next (Some bytes) None line put short = absurd put
is_next (Some bytes) (Some rest) line (some, is, behind) short =
    let all = before_first is_line_feed bytes in
    let few : length all ≤ MAX_LINE_BYTES + 1 = omega (arith, ap length is, length-take (MAX_LINE_BYTES + 1) all, short) in
    (some, is ∙ take_all (MAX_LINE_BYTES + 1) all few, short, behind)

pub is_too_long : (old new : Option (List ℕ)) (line : List ℕ) → PutsLine old new line true → MAX_LINE_BYTES < length line → TakesLine old new TooLong
is_too_long None new line put long = tt
is_too_long (Some bytes) None line put long = absurd put
is_too_long (Some bytes) (Some rest) line (some, is, behind) long =
    (omega (arith, ap length is, length-take (MAX_LINE_BYTES + 1) (before_first is_line_feed bytes), long), behind)

pub is_over : (old new : Option (List ℕ)) (line : List ℕ) → PutsLine old new line false → TakesLine old new End
is_over None new line put = tt
is_over (Some bytes) None line put = absurd put
is_over (Some bytes) (Some rest) line put = put
