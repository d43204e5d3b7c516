-- What is said of words that are lent is said of their texts.
use Rattle.std.proofs.Common.{◌≡◌, ◌∙◌, ℕ, zero, suc, ◌+◌, ◌<◌, List, [], ◌∷◌, ◌++◌, Contains, ap, arith, get_or, length, map, refl, subst, sym, take}
use Rattle.std.specs.List.{AllZip}
use Rattle.std.proofs.lemmas.List.{take_more}
use denote.Ref.{Bor}
use Rattle.bayou_renew.specs.Words.{Refuses, RefusesPrefixes, SaysNoPrefix}
use Rattle.bayou_renew.specs.declared.plan.RenewalPlanFault.{RenewalPlanFault}
use Rattle.bayou_renew.specs.declared.plan.RenewalPlanFault.TheVariants.{NoServer, LeftOut, NoCounts, NoPrefix, SameFolder, OutOfMemory}

zip_push : {A B : Type 0} (R : A → B → Type 0) (xs : List A) (ys : List B) (x : A) (y : B) → AllZip R xs ys → R x y → AllZip R (xs ++ x ∷ []) (ys ++ y ∷ [])
zip_push R [] [] x y all one = (one, tt)
zip_push R [] (b ∷ ys) x y all one = absurd all
zip_push R (a ∷ xs) [] x y all one = absurd all
zip_push R (a ∷ xs) (b ∷ ys) x y (first, all) one = (first, zip_push R xs ys x y all one)

-- up to one place more
pub zip_more : {A B : Type 0} (R : A → B → Type 0) (xs : List A) (at : ℕ) (d : A) (ys more : List B) (y : B) → AllZip R (take at xs) ys → at < length xs → more ≡ ys ++ y ∷ [] → R (get_or xs at d) y
    → AllZip R (take (at + 1) xs) more
zip_more R xs at d ys more y all within is one = rw (is, take_more xs at d within) (zip_push R (take at xs) ys (get_or xs at d) y all one)

abbrev texts : List (Bor (List ℕ)) → List (List ℕ)
texts words = map (λ word. word.now) words

length_texts : (words : List (Bor (List ℕ))) → length (texts words) ≡ length words
length_texts [] = refl
length_texts (word ∷ words) = ap suc (length_texts words)

text_at : (words : List (Bor (List ℕ))) (at : ℕ) (d : Bor (List ℕ)) (t : List ℕ) → at < length words → get_or (texts words) at t ≡ (get_or words at d).now
text_at [] at d t within = absurd (omega (arith, within))
text_at (word ∷ words) zero d t within = refl
text_at (word ∷ words) (suc at) d t within = text_at words at d t (omega (arith, within))

-- the word at a place is one of them
contains_text : (words : List (Bor (List ℕ))) (at : ℕ) (d : Bor (List ℕ)) → at < length words → Contains (texts words) (get_or words at d).now
contains_text words at d within = (at, subst (λ (n : ℕ). at < n) (sym (length_texts words)) within, text_at words at d (get_or words at d).now within)

-- one of them is no prefix
pub none_said : (words : List (Bor (List ℕ))) (at : ℕ) (d : Bor (List ℕ)) → at < length words → SaysNoPrefix (get_or words at d).now → RefusesPrefixes (map (λ word. word.now) words) NoPrefix
none_said words at d within none = ((get_or words at d).now, contains_text words at d within, none)

-- and so no plan is made of them
pub refused_for : (id servers servers_then : ℕ) (words : List (List ℕ)) (fault : RenewalPlanFault) → RefusesPrefixes words fault → Refuses id servers servers_then words fault
refused_for id servers servers_then words NoPrefix is = is
refused_for id servers servers_then words OutOfMemory is = tt
refused_for id servers servers_then words NoServer is = absurd is
refused_for id servers servers_then words LeftOut is = absurd is
refused_for id servers servers_then words NoCounts is = absurd is
refused_for id servers servers_then words SameFolder is = absurd is
