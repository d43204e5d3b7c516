-- What is wrong with the words that name servers.
use Rattle.std.proofs.Common.{arith, ◌≡◌, ◌∙◌, ◌<◌, ◌≤◌, ℕ, zero, suc, Any, IsSomeAnd, List, [], ◌∷◌, MatchOption, Option, None, Some, Bor, ap, get_or, length, map, refl, subst, take}
use Rattle.std.specs.List.{AllZip, slice_get}
use Rattle.std.proofs.lemmas.List.{get_or-map, get_or-take, length-map}
use Rattle.std.proofs.lemmas.Option.{slice_get-get_or}
use Rattle.bayou_connect.specs.Plans.{IsLeast, IsWrong, NameTwice, SaysPlace}
use Rattle.bayou_connect.specs.declared.plan.ServerPlace.{ServerPlace}
use Rattle.bayou_connect.specs.declared.plan.SessionPlanFault.{SessionPlanFault}
use Rattle.bayou_connect.specs.declared.plan.SessionPlanFault.TheVariants as fault

abbrev Word : Type 0
Word = Bor (List ℕ)

abbrev bytes : Word → List ℕ
bytes word = word.now

abbrev Says : Word → ServerPlace → Type 0
Says word place = SaysPlace word.now place

zip_at : {A B : Type 0} (R : A → B → Type 0) (xs : List A) (ys : List B) (at : ℕ) (d : A) (e : B) → AllZip R xs ys → at < length ys → R (get_or xs at d) (get_or ys at e)
zip_at R xs [] at d e all within = absurd (omega (arith, within))
zip_at R [] (y ∷ ys) at d e all within = absurd all
zip_at R (x ∷ xs) (y ∷ ys) zero d e (first, all) within = first
zip_at R (x ∷ xs) (y ∷ ys) (suc at) d e (first, all) within = zip_at R xs ys at d e all (omega (arith, within))

word_at : (words : List Word) (at : ℕ) (d : Word) → at < length words → slice_get (map bytes words) at ≡ Some (get_or words at d).now
word_at words at d within =
    slice_get-get_or (map bytes words) at (get_or words at d).now (omega (arith, length-map words bytes, within))
    ∙ ap (λ (w : List ℕ). Some w) (get_or-map bytes words at d (get_or words at d).now within)

-- a word says no server
pub no_place : (words : List Word) (at : ℕ) (d : Word) → at < length words → ((place : ServerPlace) → ¬ (SaysPlace (get_or words at d).now place))
    → Any (λ (word : List ℕ). (place : ServerPlace) → ¬ (SaysPlace word place)) (map bytes words)
no_place words at d within none =
    (at, (get_or words at d).now, omega (arith, length-map words bytes, within), get_or-map bytes words at d (get_or words at d).now within, none)

-- a word says a server that one before it says
pub named_twice : (words : List Word) (places : List ServerPlace) (at later : ℕ) (d : Word) (first second : ServerPlace) → later < length words → length places ≡ later
    → AllZip Says (take later words) places → at < length places → get_or places at first ≡ first → SaysPlace (get_or words later d).now second → first.id ≡ second.id
    → NameTwice (map bytes words)
named_twice words places at later d first second within number said there is says same =
    let before : at < later = omega (arith, there, number) in
    let read = zip_at Says (take later words) places at d first said there in (
      at,
      later,
      (get_or words at d).now,
      (get_or words later d).now,
      first,
      second,
      before,
      word_at words at d (omega (arith, before, within)),
      word_at words later d within,
      subst (λ (p : ServerPlace). SaysPlace (get_or words at d).now p) is (subst (λ (w : Word). SaysPlace w.now (get_or places at first)) (get_or-take later words at d before) read),
      says,
      same,
    )

-- of one of the servers it holds, and so of the word that says it
pub any_word : (words : List Word) (places : List ServerPlace) (P : ServerPlace → Type 0) → AllZip Says words places → Any P places
    → Any (λ (word : List ℕ). (place : ServerPlace) × SaysPlace word place × P place) (map bytes words)
any_word words places P said (at, place, within, is, holds) = of words places at said within is
  where
    of : (words : List Word) (places : List ServerPlace) (at : ℕ) → AllZip Says words places → at < length places → get_or places at place ≡ place
        → Any (λ (word : List ℕ). (place : ServerPlace) × SaysPlace word place × P place) (map bytes words)
    of words [] at said within is = absurd (omega (arith, within))
    of [] (p ∷ ps) at said within is = absurd said
    of (w ∷ ws) (p ∷ ps) zero (says, said) within is = (zero, w.now, omega arith, refl, (place, subst (SaysPlace w.now) is says, holds))
    of (w ∷ ws) (p ∷ ps) (suc at) (says, said) within is =
        let (k, word, there, same, has) = of ws ps at said (omega (arith, within)) is in
        (suc k, word, omega (arith, there), same, has)

-- what is wrong with the servers' words is wrong whatever else is said
pub wrong_whatever : (words : List (List ℕ)) (count : Option ℕ) (asks : Option (List ℕ)) (why : SessionPlanFault) → IsWrong words None None why → IsWrong words count asks why
wrong_whatever words count asks fault.NoServer is = is
wrong_whatever words count asks fault.SameServer is = is
wrong_whatever words count asks fault.TooFewServers is = absurd is
wrong_whatever words count asks fault.NoAsks is = absurd is
wrong_whatever words count asks fault.OutOfMemory is = tt

-- one of the servers is not below the number, which is one that was said
pub too_few : (count : Option ℕ) (servers : ℕ) (words : List Word) (places : List ServerPlace) → MatchOption count (IsLeast servers places) (λ number. servers ≡ number)
    → Any (λ (place : ServerPlace). servers ≤ place.id.index) places → AllZip Says words places
    → IsSomeAnd count (λ number. Any (λ (word : List ℕ). (place : ServerPlace) × SaysPlace word place × (number ≤ place.id.index)) (map bytes words))
too_few None servers words places least (at, place, within, is, beyond) said =
    let below : place.id.index < servers = subst (λ (p : ServerPlace). p.id.index < servers) is (least.enough at place within) in
    absurd (omega (arith, below, beyond))
too_few (Some number) servers words places same any said =
    any_word words places (λ (place : ServerPlace). number ≤ place.id.index) said (subst (λ (n : ℕ). Any (λ (place : ServerPlace). n ≤ place.id.index) places) same any)
