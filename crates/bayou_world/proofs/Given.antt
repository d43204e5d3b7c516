-- An item that a server is given: it fits what is held exactly where its past is held.
use Rattle.std.proofs.Common.{◌≡◌, inl, inr, ℕ, suc, ◌+◌, ◌<◌, ◌≤◌, true, nat_le, List, [], ◌∷◌, Contains, slice_index, ap, sym, ◌∙◌, refl, subst, arith}
use Rattle.std.proofs.lemmas.Bool.{cases_lt}
use Rattle.std.proofs.lemmas.Bool.Decides.{nat_tests}
use Rattle.std.proofs.lemmas.List.Elements.{All-contains}
use Rattle.bayou_base.specs.Vector.{Covers, Dominates}
use Rattle.bayou_lang.specs.declared.write.Write.{Write}
use Rattle.bayou_lang.specs.Laws.Fitting.{covered_by-fitting, greatest_clock-least}
use Rattle.bayou_lang.specs.Writes.{Fits, HasNoGap, covered_by, count_of, greatest_clock}
use Rattle.bayou_world.specs.Inner.Good.{AreGoodServers, IsHome}
use Rattle.bayou_world.specs.Machine.{IsWithin, Made, ServerSets, names, writes}
use Rattle.bayou_world.specs.Steps.{HoldsName}
use Rattle.bayou_world.proofs.Homes.{fitting_at, home_of_held, home_of_past, one_write, stands_behind}
use Rattle.bayou_world.proofs.Lists.{Contains-filter, Contains-from_filter, Contains-map, Contains-map_from}
use Rattle.bayou_world.proofs.Vectors.{named, within_dominates}

greatest_most : (list : List Write) (most : ℕ) → ((write : Write) → Contains list write → write.stamp.clock ≤ most) → greatest_clock list ≤ most
greatest_most [] most all = omega arith
greatest_most (write ∷ list) most all =
    let first = all write (0, omega arith, refl) in
    let rest = greatest_most list most (λ other has. all other (suc has.0, omega (arith, has.1), has.2)) in
    omega (arith, first, rest)

-- the greatest clock is of the set
greatest_of_set : (xs ys : List Write) → ((write : Write) → Contains xs write → Contains ys write) → greatest_clock xs ≤ greatest_clock ys
greatest_of_set xs ys within =
    greatest_most xs (greatest_clock ys) (λ write has. All-contains (λ (held : Write). held.stamp.clock ≤ greatest_clock ys) ys write (greatest_clock-least ys) (within write has))

-- what is held has a Write at home of its own
held_home : (count limit : ℕ) (servers : ℕ → ServerSets) → AreGoodServers count limit servers → (place : ℕ) (write : Write) → Contains (writes (servers place).held) write
    → (made : Made) × (made.write ≡ write) × IsHome servers made
held_home count limit servers good place write has =
    let at = Contains-map_from (λ (made : Made). made.write) (servers place).held write has in
    (at.0, at.2, home_of_held count limit servers good place at.0 at.1)

-- Where the past is held, those of the Writes held that the Write covers are its past.
covered_is_past : (count limit : ℕ) (servers : ℕ → ServerSets) → AreGoodServers count limit servers → (place : ℕ) (made : Made) → IsHome servers made
    → (write : Write) → Contains (covered_by made.write.deps (writes (servers place).held)) write → Contains made.past write
covered_is_past count limit servers good place made home write has =
    let held = writes (servers place).held in
    let stands = stands_behind count limit servers good made home in
    let is_covered = λ (w : Write). nat_le w.wid.seq (slice_index made.write.deps w.wid.origin.index) in
    let both = Contains-from_filter is_covered held write has in
    let covers : write.wid.seq ≤ slice_index made.write.deps write.wid.origin.index = let is = both.1 in grind (arith, nat_tests) in
    let named_past = (named count made.past write.wid stands.fitting).1 (subst (λ counts. Covers counts write.wid.origin.index write.wid.seq) stands.deps covers) in
    let at = Contains-map_from (λ (w : Write). w.wid) made.past write.wid named_past in
    let there = home_of_past count limit servers good made home at.0 at.1 in
    let here = held_home count limit servers good place write both.0 in
    subst (Contains made.past) (one_write count limit servers good there.0 here.0 at.0 write there.2 here.2 there.1 here.1 at.2) at.1

past_is_covered : (count limit : ℕ) (servers : ℕ → ServerSets) → AreGoodServers count limit servers → (place : ℕ) (made : Made) → IsHome servers made
    → IsWithin (names made.past) (names (writes (servers place).held))
    → (write : Write) → Contains made.past write → Contains (covered_by made.write.deps (writes (servers place).held)) write
past_is_covered count limit servers good place made home within write has =
    let held = writes (servers place).held in
    let stands = stands_behind count limit servers good made home in
    let is_covered = λ (w : Write). nat_le w.wid.seq (slice_index made.write.deps w.wid.origin.index) in
    let at = Contains-map_from (λ (w : Write). w.wid) held write.wid (within write.wid (Contains-map (λ (w : Write). w.wid) made.past write has)) in
    let there = home_of_past count limit servers good made home write has in
    let here = held_home count limit servers good place at.0 at.1 in
    let in_held : Contains held write = subst (Contains held) (one_write count limit servers good here.0 there.0 at.0 write here.2 there.2 here.1 there.1 at.2) at.1 in
    let below : Covers (count_of made.past) write.wid.origin.index write.wid.seq =
    (named count made.past write.wid stands.fitting).0 (Contains-map (λ (w : Write). w.wid) made.past write has) in
    let covers : write.wid.seq ≤ slice_index made.write.deps write.wid.origin.index = subst (λ counts. Covers counts write.wid.origin.index write.wid.seq) (sym stands.deps) below in
    let is : is_covered write ≡ true = grind (arith, nat_tests) in
    Contains-filter is_covered held write in_held is

-- a Write that isn't held, and whose past is held, fits
pub given_fits : (count limit : ℕ) (servers : ℕ → ServerSets) → AreGoodServers count limit servers → (place : ℕ) (made : Made) → IsHome servers made
    → (¬ HoldsName (servers place) made) → IsWithin (names made.past) (names (writes (servers place).held)) → Fits count (writes (servers place).held) made.write
given_fits count limit servers good place made home missing within =
    let held = writes (servers place).held in
    let origin = made.write.wid.origin.index in
    let stands = stands_behind count limit servers good made home in
    let fitting = fitting_at count limit servers good place in
    let dominates : Dominates (count_of held) (count_of made.past) = (within_dominates count made.past held stands.fitting fitting).0 within in
    let enough = dominates origin made.write.wid.origin.in_range in
    let not_more : slice_index (count_of held) origin < made.write.wid.seq = elim (cases_lt (slice_index (count_of held) origin) made.write.wid.seq) as (λ _. slice_index (count_of held) origin < made.write.wid.seq) [
      | inl less ↦ less
      | inr covered ↦ absurd (missing ((named count held made.write.wid fitting).1 (omega (arith, covered))))
    ] in
    let all : covered_by made.write.deps made.past ≡ made.past =
    ap (λ counts. covered_by counts made.past) stands.deps ∙ covered_by-fitting count made.past (count_of made.past) stands.fitting (λ server inside. omega arith) in
    let clock : made.write.stamp.clock ≡ greatest_clock made.past + 1 = stands.fits.1.clock ∙ ap (λ list. greatest_clock list + 1) all in
    let below = greatest_of_set (covered_by made.write.deps held) made.past (covered_is_past count limit servers good place made home) in
    let above = greatest_of_set made.past (covered_by made.write.deps held) (past_is_covered count limit servers good place made home within) in (
      record {
        origin = stands.fits.0.origin;
        next = omega (arith, enough, not_more, stands.fits.0.next);
        deps = subst (Dominates (count_of held)) (sym stands.deps) dominates;
      },
      record {
        own = stands.fits.1.own;
        clock = omega (arith, clock, below, above);
      },
    )

-- where there is no gap, the past is held
pub no_gap_within : (count limit : ℕ) (servers : ℕ → ServerSets) → AreGoodServers count limit servers → (place : ℕ) (made : Made) → IsHome servers made
    → HasNoGap count (writes (servers place).held) made.write → IsWithin (names made.past) (names (writes (servers place).held))
no_gap_within count limit servers good place made home none =
    let stands = stands_behind count limit servers good made home in
    (within_dominates count made.past (writes (servers place).held) stands.fitting (fitting_at count limit servers good place)).1
    (subst (Dominates (count_of (writes (servers place).held))) stands.deps none.deps)
