-- The first so many places and one more, and the front of a list up to an element that isn't one of it.
use Rattle.std.proofs.Common.{◌≡◌, ◌⊎◌, inl, inr, ◌<◌, ◌+◌, ℕ, List, [], ◌∷◌, ◌++◌, All, drop, get_or, length, take, sym, ◌∙◌, ap, subst, arith, Some, slice_get, slice_set}
use native.Mathlib.Numerals.{unary_clauses}
use Rattle.std.proofs.lemmas.Bool.{cases_order}
use Rattle.std.proofs.lemmas.List.{append_assoc, get_or-drop, get_or-set_other, get_or-set_same, length-set, take-append-drop}
use Rattle.std.proofs.lemmas.Option.{slice_get-get_or}
use Rattle.std.proofs.lemmas.List.Elements.{All-append, All-cons, All-nil}
use Rattle.std.proofs.Math.Seq.{take-suc}
use Rattle.bayou_lang.specs.declared.write.Write.{Write}
use Rattle.bayou_lang.specs.Writes.{in_stamp_order}
use Rattle.bayou_final.specs.Known.{IsKnown, IsKnownFront}

-- what holds of the first places and of the next holds of the first places and the next
pub one_further : (P : ℕ → Type 0) (n : ℕ) → ((k : ℕ) → k < n → P k) → P n → (k : ℕ) → k < n + 1 → P k
one_further P n before here k within = by (cases_order k n)
  where
    by : (k ≡ n) ⊎ ((k < n) ⊎ (n < k)) → P k
    by (inl same) = subst P (sym same) here
    by (inr (inl less)) = before k less
    by (inr (inr more)) = absurd (omega (arith, within, more))

-- one element more in a front
pub All-take_one : {X : Type 0} (P : X → Type 0) (n : ℕ) (xs : List X) (d : X) → n < length xs → All P (take n xs) → P (get_or xs n d) → All P (take (n + 1) xs)
All-take_one P n xs d within all here = simp unary_clauses (subst (All P) (sym (take-suc xs n d within)) (All-append P (take n xs) (get_or xs n d ∷ []) all (All-cons P (get_or xs n d) [] here (All-nil P))))

-- the element at which the rest of a list begins
at_rest : {X : Type 0} (n : ℕ) (xs ys : List X) (x d : X) → drop n xs ≡ x ∷ ys → get_or xs n d ≡ x
at_rest n xs ys x d rest = ap (λ i. get_or xs i d) (omega arith) ∙ sym (get_or-drop n xs 0 d) ∙ ap (λ l. get_or l 0 d) rest

-- the Writes before one that isn't known are the longest known front
pub front_up_to : (count : ℕ) (views : ℕ → List ℕ) (writes : List Write) (n : ℕ) (write : Write) → All (λ known. IsKnown count views known.wid) (take n writes) → get_or writes n write ≡ write
    → ¬ IsKnown count views write.wid → IsKnownFront count views writes (take n writes)
front_up_to count views writes n write all is unknown = record {
  later = drop n writes;
  order = sym (take-append-drop n writes);
  known = all;
  longest = λ next others rest known. unknown (subst (λ one. IsKnown count views one.wid) (sym (at_rest n writes others next write rest) ∙ is) known);
}

-- where each of the Writes is known they are that front
pub whole_front : (count : ℕ) (views : ℕ → List ℕ) (writes : List Write) → All (λ known. IsKnown count views known.wid) (take (length writes) writes) → IsKnownFront count views writes (take (length writes) writes)
whole_front count views writes all = record {
  later = drop (length writes) writes;
  order = sym (take-append-drop (length writes) writes);
  known = all;
  longest = λ next others rest known. absurd (nothing_behind writes others next rest);
}
  where
    nothing_behind : (xs others : List Write) (next : Write) → drop (length xs) xs ≡ next ∷ others → ⊥
    nothing_behind [] others next rest = absurd (cc)
    nothing_behind (x ∷ xs) others next rest = nothing_behind xs others next rest

-- a known front, and the longest one of what comes later
pub goes_on : (count : ℕ) (views : ℕ → List ℕ) (database first later front : List Write) → in_stamp_order database ≡ first ++ later → All (λ write. IsKnown count views write.wid) first
    → IsKnownFront count views later front → IsKnownFront count views (in_stamp_order database) (first ++ front)
goes_on count views database first later front order known next = record {
  later = next.later;
  order = order ∙ ap (λ l. first ++ l) next.order ∙ sym (append_assoc first front next.later);
  known = All-append (λ write. IsKnown count views write.wid) first front known next.known;
  longest = next.longest;
}

-- an element put in its place, after which the first places and that one have what they are to have
pub put_further : {X : Type 0} (xs ys : List X) (n : ℕ) (x : X) (right : ℕ → X) → ys ≡ slice_set xs n x → n < length xs → ((k : ℕ) → k < n → slice_get xs k ≡ Some (right k)) → x ≡ right n
    → (k : ℕ) → k < n + 1 → slice_get ys k ≡ Some (right k)
put_further {X = X} xs ys n x right is among before here k within = by (cases_order k n)
  where
    long : length ys ≡ length xs
    long = ap length is ∙ length-set xs n x

    by : (k ≡ n) ⊎ ((k < n) ⊎ (n < k)) → slice_get ys k ≡ Some (right k)
    by (inl same) =
        slice_get-get_or ys k x (omega (arith, same, among, long))
        ∙ ap (λ (l : List X). Some (get_or l k x)) is ∙ ap (λ i. Some (get_or (slice_set xs n x) i x)) same
        ∙ ap Some (get_or-set_same xs n x x among ∙ here) ∙ ap (λ i. Some (right i)) (sym same)
    by (inr (inl less)) =
        slice_get-get_or ys k x (omega (arith, less, among, long))
        ∙ ap (λ (l : List X). Some (get_or l k x)) is
        ∙ ap Some (get_or-set_other xs n k x x (λ same. omega (arith, same, less)))
        ∙ sym (slice_get-get_or xs k x (omega (arith, less, among))) ∙ before k less
    by (inr (inr more)) = absurd (omega (arith, within, more))
