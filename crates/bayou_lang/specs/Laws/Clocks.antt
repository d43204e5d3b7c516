-- Laws of clocks: of the Writes of a fitting list that counts cover, the last of each server has the greatest clock of that server's.
use Rattle.std.proofs.Common.{◌≡◌, ℕ, ◌<◌, ◌≤◌, ◌⊎◌, inl, inr, true, false, cond, max, nat_le, nat_lt, List, [], ◌∷◌, get_or, length, slice_index, All, Contains, ap, sym, ◌∙◌, refl, subst, arith}
use Rattle.std.proofs.lemmas.Bool.{cases_order}
use Rattle.std.proofs.lemmas.Bool.Decides.{nat_tests}
use Rattle.std.proofs.lemmas.List.{get_or_default}
use Rattle.std.proofs.lemmas.List.Elements.{All-cons, All-head, All-tail, Contains-get_or}
use Rattle.bayou_lang.specs.declared.write.Write.{Write}
use Rattle.bayou_lang.specs.Laws.Equality.{server-ext, wid-ext}
use Rattle.bayou_lang.specs.Laws.Fitting.{fitting_clocks_rise, fitting_distinct_wids}
use Rattle.bayou_lang.specs.Writes.{covered_by, greatest_clock, AreFitting}

-- No clock of the server's Writes up to this sequence number is greater, and one of them has it; it is 0 where there is none.
pub record IsLastClock (server seq : ℕ) (writes : List Write) (clock : ℕ) : Type 0 where
  pub greatest : All (λ write. write.wid.origin.index ≡ server → write.wid.seq ≤ seq → write.stamp.clock ≤ clock) writes
  pub reached : (clock ≡ 0) ⊎ ((write : Write) × Contains writes write × (write.wid.origin.index ≡ server) × (write.wid.seq ≤ seq) × (write.stamp.clock ≡ clock))

-- two Writes of a fitting list that have one name are one
pub one_of_name : (count : ℕ) (writes : List Write) (a b : Write) → AreFitting count writes → Contains writes a → Contains writes b → a.wid ≡ b.wid → a ≡ b
one_of_name count writes a b fitting first second same =
    let distinct = fitting_distinct_wids count writes fitting in
    let named : (i : ℕ) (write : Write) (d : Write) → i < length writes → get_or writes i write ≡ write → (get_or writes i d).wid ≡ write.wid =
    λ i write d within is. ap (λ (w : Write). w.wid) (get_or_default writes i d write within ∙ is) in
    elim (cases_order first.0 second.0) as (λ _. a ≡ b) [
      | inr (inl before) ↦ absurd (distinct first.0 second.0 a before second.1 (named first.0 a a first.1 first.2 ∙ same ∙ sym (named second.0 b a second.1 second.2)))
      | inl here ↦ sym first.2 ∙ ap (λ k. get_or writes k a) here ∙ get_or_default writes second.0 a b second.1 ∙ second.2
      | inr (inr behind) ↦ absurd (distinct second.0 first.0 a behind first.1 (named second.0 b a second.1 second.2 ∙ sym same ∙ sym (named first.0 a a first.1 first.2)))
    ]

-- there is no Write of the number 0
pub no_clock : (server seq : ℕ) (writes : List Write) → seq ≡ 0 → IsLastClock server seq writes 0
no_clock server seq writes none = record {
  greatest = λ k d within at below. absurd (omega (arith, none, below, (get_or writes k d).wid.in_range.0));
  reached = inl refl;
}

-- the last of the Writes up to a number has the greatest clock of them
pub IsLastClock-held : (count : ℕ) (writes : List Write) (server seq : ℕ) (last : Write) → AreFitting count writes → Contains writes last
    → last.wid.origin.index ≡ server → last.wid.seq ≡ seq → IsLastClock server seq writes last.stamp.clock
IsLastClock-held count writes server seq last fitting there origin number = record {
  greatest = λ k d inside at below.
      let held = get_or writes k d in
      let same_server : held.wid.origin ≡ last.wid.origin = server-ext held.wid.origin last.wid.origin (at ∙ sym origin) in
      elim (nat_lt held.wid.seq seq) as (λ t. nat_lt held.wid.seq seq ≡ t → held.stamp.clock ≤ last.stamp.clock) [
        | true ↦ λ lower.
            let earlier : held.wid.seq < last.wid.seq = grind (arith, nat_tests, number) in
            let rises = subst (λ (w : Write). held.wid.origin ≡ w.wid.origin → held.wid.seq < w.wid.seq → held.stamp.clock < w.stamp.clock) there.2
            (fitting_clocks_rise count writes fitting k d inside there.0 last there.1) in
            omega (arith, rises same_server earlier)
        | false ↦ λ not_lower.
            let equal : held.wid.seq ≡ last.wid.seq = grind (arith, nat_tests, number, below) in
            let one = one_of_name count writes held last fitting (Contains-get_or writes k d inside) there (wid-ext held.wid last.wid same_server equal) in
            omega (arith, ap (λ (w : Write). w.stamp.clock) one)
      ] refl;
  reached = inr (last, there, origin, omega (arith, number), refl);
}

-- a bound of the counted clocks
abbrev pub IsBound : List ℕ → List Write → ℕ → Type 0
IsBound counts writes clock = All (λ write. write.wid.seq ≤ slice_index counts write.wid.origin.index → write.stamp.clock ≤ clock) writes

-- a Write that is counted has the clock, unless it is 0
abbrev pub IsReached : List ℕ → List Write → ℕ → Type 0
IsReached counts writes clock = (clock ≡ 0) ⊎ ((write : Write) × Contains writes write × (write.wid.seq ≤ slice_index counts write.wid.origin.index) × (write.stamp.clock ≡ clock))

covered_most : (counts : List ℕ) (writes : List Write) (clock : ℕ) → IsBound counts writes clock → greatest_clock (covered_by counts writes) ≤ clock
covered_most counts [] clock bound = omega arith
covered_most counts (write ∷ writes) clock bound =
    let Bounded : Write → Type 0 = λ write. write.wid.seq ≤ slice_index counts write.wid.origin.index → write.stamp.clock ≤ clock in
    let rest = covered_most counts writes clock (All-tail Bounded write writes bound) in
    let covered = covered_by counts writes in
    elim (nat_le write.wid.seq (slice_index counts write.wid.origin.index)) as (λ t. nat_le write.wid.seq (slice_index counts write.wid.origin.index) ≡ t → greatest_clock (cond t (write ∷ covered) covered) ≤ clock) [
      | true ↦ λ is.
          let within : write.wid.seq ≤ slice_index counts write.wid.origin.index = grind (arith, nat_tests) in
          omega (arith, All-head Bounded write writes bound within, rest)
      | false ↦ λ isnt. rest
    ] refl

covered_least : (counts : List ℕ) (writes : List Write) → IsBound counts writes (greatest_clock (covered_by counts writes))
covered_least counts [] = λ k d within. absurd (omega arith)
covered_least counts (write ∷ writes) =
    let covered = covered_by counts writes in
    elim (nat_le write.wid.seq (slice_index counts write.wid.origin.index)) as (λ t. nat_le write.wid.seq (slice_index counts write.wid.origin.index) ≡ t → IsBound counts (write ∷ writes) (greatest_clock (cond t (write ∷ covered) covered))) [
      | true ↦ λ is.
          let most = greatest_clock (write ∷ covered) in
          let Bounded : Write → Type 0 = λ write. write.wid.seq ≤ slice_index counts write.wid.origin.index → write.stamp.clock ≤ most in
          All-cons Bounded write writes (λ within. omega arith) (λ k d inside within. omega (arith, covered_least counts writes k d inside within))
      | false ↦ λ isnt.
          let most = greatest_clock covered in
          let Bounded : Write → Type 0 = λ write. write.wid.seq ≤ slice_index counts write.wid.origin.index → write.stamp.clock ≤ most in
          All-cons Bounded write writes (λ within. absurd (grind (arith, nat_tests))) (covered_least counts writes)
    ] refl

-- a bound that is reached is the greatest of the counted clocks
pub reached_bound : (counts : List ℕ) (writes : List Write) (clock : ℕ) → IsBound counts writes clock → IsReached counts writes clock → clock ≡ greatest_clock (covered_by counts writes)
reached_bound counts writes clock bound (inl none) = omega (arith, none, covered_most counts writes clock bound)
reached_bound counts writes clock bound (inr found) =
    let write = found.0 in
    let least = subst (λ (w : Write). w.wid.seq ≤ slice_index counts w.wid.origin.index → w.stamp.clock ≤ greatest_clock (covered_by counts writes)) found.1.2
    (covered_least counts writes found.1.0 write found.1.1) in
    omega (arith, least found.2, found.3, covered_most counts writes clock bound)

last_reached : (counts : List ℕ) (writes : List Write) (server last : ℕ)
    → (last ≡ 0) ⊎ ((write : Write) × Contains writes write × (write.wid.origin.index ≡ server) × (write.wid.seq ≤ slice_index counts server) × (write.stamp.clock ≡ last)) → IsReached counts writes last
last_reached counts writes server last (inl none) = inl none
last_reached counts writes server last (inr found) =
    inr (found.0, found.1, subst (λ s. found.0.wid.seq ≤ slice_index counts s) (sym found.2) found.3, found.4)

-- with the clocks of one more server
pub IsReached-more : (counts : List ℕ) (writes : List Write) (server clock last : ℕ) → IsReached counts writes clock → IsLastClock server (slice_index counts server) writes last → IsReached counts writes (max clock last)
IsReached-more counts writes server clock last reached one =
    elim (nat_lt clock last) as (λ t. nat_lt clock last ≡ t → IsReached counts writes (max clock last)) [
      | true ↦ λ is.
          let greater : max clock last ≡ last = grind (arith, nat_tests) in
          subst (IsReached counts writes) (sym greater) (last_reached counts writes server last one.reached)
      | false ↦ λ isnt.
          let kept : max clock last ≡ clock = grind (arith, nat_tests) in
          subst (IsReached counts writes) (sym kept) reached
    ] refl
