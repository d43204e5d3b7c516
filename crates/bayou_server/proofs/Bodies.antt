-- Bodies of a journal against the Writes that they stand for, one for one.
use Rattle.std.proofs.Common.{◌≡◌, ℕ, zero, suc, ◌+◌, ◌<◌, Bool, true, false, List, [], ◌∷◌, ◌++◌, Some, get_or, length, take, drop, refl, sym, ◌∙◌, ap, subst, arith, length-append}
use Rattle.std.specs.List.{AllZip, slice_get}
use Rattle.std.specs.Prelude.{IfSome, MatchOption, Option}
use Rattle.std.proofs.lemmas.List.{drop_more, take-append-drop, take_more}
use Rattle.std.proofs.lemmas.Option.{get_or_from_slice_get, slice_get-get_or, slice_get_within}
use Rattle.bayou_journal.specs.Versions.{Body, body_in}

-- one more of the list
pub take_next : {A : Type 0} (xs : List A) (k : ℕ) (x : A) → slice_get xs k ≡ Some x → take (k + 1) xs ≡ take k xs ++ x ∷ []
take_next xs k x is = take_more xs k x (slice_get_within xs k x is) ∙ ap (λ y. take k xs ++ y ∷ []) (get_or_from_slice_get xs k x x is)

-- what stands before it, and what behind it
pub split_at : {A : Type 0} (xs : List A) (k : ℕ) (x : A) → slice_get xs k ≡ Some x → xs ≡ take k xs ++ x ∷ drop (k + 1) xs
split_at xs k x is =
    sym (take-append-drop k xs)
    ∙ ap (λ l. take k xs ++ l) (drop_more xs k x (slice_get_within xs k x is) ∙ ap (λ y. y ∷ drop (k + 1) xs) (get_or_from_slice_get xs k x x is))

-- the element that is read at a place
pub read_at : {A : Type 0} (xs : List A) (k : ℕ) (x : A) → k < length xs → x ≡ get_or xs k x → slice_get xs k ≡ Some x
read_at xs k x within is = slice_get-get_or xs k x within ∙ ap (λ y. Some y) (sym is)

-- nothing is true and false
pub not_both : {b : Bool} → b ≡ true → b ≡ false → ⊥
not_both is is_not = absurd cc

-- what is told of one that is there
pub told_some : {X : Type 0} (N : Type 0) (P : X → Type 0) (o : Option X) (x : X) → MatchOption o N P → o ≡ Some x → P x
told_some {X} N P o x told is = subst (λ (p : Option X). MatchOption p N P) is told

-- the body at a place is what is told of it
pub told_body : (bodies : List Body) (k version : ℕ) (bytes : List ℕ) → k < length bodies → IfSome (slice_get bodies k) (λ body. version ≡ body.version)
    → IfSome (slice_get bodies k) (λ body. bytes ≡ body.bytes) → slice_get bodies k ≡ Some (body_in version bytes)
told_body [] k version bytes within of_version of_bytes = absurd (omega arith)
told_body (body ∷ bodies) zero version bytes within of_version of_bytes =
    ap (λ (v : ℕ). Some (body_in v body.bytes)) (sym of_version) ∙ ap (λ (b : List ℕ). Some (body_in version b)) (sym of_bytes)
told_body (body ∷ bodies) (suc k) version bytes within of_version of_bytes = told_body bodies k version bytes (omega arith) of_version of_bytes

-- how many they are
pub as_many : {A B : Type 0} (R : A → B → Type 0) (xs : List A) (ys : List B) → AllZip R xs ys → length xs ≡ length ys
as_many R [] [] all = refl
as_many R [] (y ∷ ys) all = absurd all
as_many R (x ∷ xs) [] all = absurd all
as_many R (x ∷ xs) (y ∷ ys) all = ap suc (as_many R xs ys all.1)

-- one more of both
pub both_more : {A B : Type 0} (R : A → B → Type 0) (xs : List A) (ys : List B) (x : A) (y : B) → AllZip R xs ys → R x y → AllZip R (xs ++ x ∷ []) (ys ++ y ∷ [])
both_more R [] [] x y all is = (is, tt)
both_more R [] (b ∷ ys) x y all is = absurd all
both_more R (a ∷ xs) [] x y all is = absurd all
both_more R (a ∷ xs) (b ∷ ys) x y all is = (all.0, both_more R xs ys x y all.1 is)

-- what stands at one place
pub at_place : {A B : Type 0} (R : A → B → Type 0) (xs : List A) (ys : List B) (k : ℕ) (x : A) (y : B) → AllZip R xs ys → slice_get xs k ≡ Some x → slice_get ys k ≡ Some y → R x y
at_place R [] ys k x y all is there = absurd (omega (arith, slice_get_within [] k x is))
at_place R (a ∷ xs) [] k x y all is there = absurd all
at_place R (a ∷ xs) (b ∷ ys) zero x y all is there =
    let one : a ≡ x = cc in
    let other : b ≡ y = cc in
    subst (λ v. R v y) one (subst (λ v. R a v) other all.0)
at_place R (a ∷ xs) (b ∷ ys) (suc k) x y all is there = at_place R xs ys k x y all.1 is there

-- what stands in the front of a longer list
pub in_front : {A : Type 0} (xs more : List A) (k : ℕ) → k < length xs → slice_get (xs ++ more) k ≡ slice_get xs k
in_front [] more k within = absurd (omega arith)
in_front (x ∷ xs) more zero within = refl
in_front (x ∷ xs) more (suc k) within = in_front xs more k (omega arith)

-- and behind it
pub at_end : {A : Type 0} (xs : List A) (y : A) → slice_get (xs ++ y ∷ []) (length xs) ≡ Some y
at_end [] y = refl
at_end (x ∷ xs) y = at_end xs y

at_seam : {A : Type 0} (xs more : List A) (y : A) → slice_get (xs ++ more) (length xs) ≡ Some y → slice_get more 0 ≡ Some y
at_seam [] more y is = is
at_seam (x ∷ xs) more y is = at_seam xs more y is

-- nothing follows
pub no_more : {A : Type 0} (xs front more : List A) → xs ≡ front ++ more → length xs ≡ length front → more ≡ []
no_more xs front [] split same = refl
no_more xs front (z ∷ more) split same = absurd (omega (arith, ap length split, length-append front (z ∷ more)))

-- one follows
pub one_more : {A : Type 0} (xs front more : List A) (y : A) → xs ≡ front ++ more → length xs ≡ length front + 1 → slice_get xs (length front) ≡ Some y → more ≡ y ∷ []
one_more xs front [] y split longer there = absurd (omega (arith, ap length split, length-append front []))
one_more xs front (z ∷ []) y split longer there =
    let same : Some z ≡ Some y = at_seam front (z ∷ []) y (ap (λ l. slice_get l (length front)) (sym split) ∙ there) in
    cc
one_more xs front (z ∷ w ∷ more) y split longer there = absurd (omega (arith, ap length split, length-append front (z ∷ w ∷ more)))
