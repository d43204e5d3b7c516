-- How an entry is looked for in bytes, place by place.
use Rattle.std.proofs.Common.{◌≡◌, inl, inr, ℕ, ◌<◌, ◌≤◌, List, [], ◌∷◌, ◌++◌, length, take, drop, refl, sym, ◌∙◌, ap, arith, append_assoc, length-append, take-append-drop}
use Rattle.std.proofs.lemmas.Bool.{cases_lt}
use Rattle.std.proofs.lemmas.List.{length-take, take_at, drop_at}
use Rattle.bayou_journal.specs.Chain.{NoEntry}
use Rattle.bayou_journal.specs.Torn.{HoldsNoEntry}

-- the rest of the bytes, before which no place begins behind which an entry stands
pub record NoneBefore (bytes rest : List ℕ) : Type 0 where
  pub passed : List ℕ
  pub split : bytes ≡ passed ++ rest
  pub none : (front before behind : List ℕ) → bytes ≡ front ++ (before ++ behind) → length before ≡ 32 → length front < length passed → NoEntry before behind

pub none_yet : (bytes : List ℕ) → NoneBefore bytes bytes
none_yet bytes = record {
  passed = [];
  split = refl;
  none = λ front before behind split long few. absurd (omega (arith, few));
}

-- at the end of what was passed, the bytes are those of the rest
at_rest : (passed front before behind rest : List ℕ) → passed ++ rest ≡ front ++ (before ++ behind) → length front ≡ length passed → rest ≡ before ++ behind
at_rest passed front before behind rest same size =
    sym (drop_at passed rest (length passed) refl) ∙ ap (drop (length passed)) same ∙ drop_at front (before ++ behind) (length passed) size

pub one_more : (bytes rest : List ℕ) → NoneBefore bytes rest → 32 ≤ length rest → NoEntry (take 32 rest) (drop 32 rest) → NoneBefore bytes (drop 1 rest)
one_more bytes [] so long is = absurd (omega (arith, long))
one_more bytes (first ∷ rest) so long is = record {
  passed = so.passed ++ first ∷ [];
  split = so.split ∙ sym (append_assoc so.passed (first ∷ []) rest);
  none = λ front before behind split size few.
      elim (cases_lt (length front) (length so.passed)) [
        | inl less ↦ so.none front before behind split size less
        | inr more ↦
            let here : length front ≡ length so.passed = omega (arith, more, few, length-append so.passed (first ∷ [])) in
            let same : first ∷ rest ≡ before ++ behind = at_rest so.passed front before behind (first ∷ rest) (sym so.split ∙ split) here in
            let head : take 32 (first ∷ rest) ≡ before = ap (take 32) same ∙ take_at before behind 32 size in
            let tail : drop 32 (first ∷ rest) ≡ behind = ap (drop 32) same ∙ drop_at before behind 32 size in
            rw (sym head, sym tail) is
      ];
}

pub none_at_all : (bytes rest : List ℕ) → NoneBefore bytes rest → length rest < 32 → HoldsNoEntry bytes
none_at_all bytes rest so short front before behind split size =
    elim (cases_lt (length front) (length so.passed)) [
      | inl less ↦ so.none front before behind split size less
      | inr more ↦ absurd (omega (arith, more, short, size, ap length so.split, ap length split, length-append so.passed rest, length-append front (before ++ behind), length-append before behind))
    ]

-- where no entry stands anywhere, none stands at the rest
pub none_here : (bytes rest before behind : List ℕ) → NoneBefore bytes rest → before ≡ take 32 rest → behind ≡ drop 32 rest → 32 ≤ length rest → HoldsNoEntry bytes → NoEntry before behind
none_here bytes rest before behind so head tail long none =
    let parts : rest ≡ before ++ behind = sym (take-append-drop 32 rest) ∙ ap (λ (l : List ℕ). l ++ drop 32 rest) (sym head) ∙ ap (λ (l : List ℕ). before ++ l) (sym tail) in
    none so.passed before behind (so.split ∙ ap (λ (l : List ℕ). so.passed ++ l) parts) (ap length head ∙ omega (arith, long, length-take 32 rest))
