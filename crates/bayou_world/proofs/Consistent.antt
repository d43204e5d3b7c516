-- What is good is consistent.
use Rattle.std.proofs.Common.{◌≡◌, ◌↔◌, inl, inr, ◌⊎◌, ℕ, zero, suc, ◌+◌, ◌<◌, Bool, true, false, cond, ◌==◌, List, [], ◌∷◌, ◌++◌, None, Some, length, filter, Contains, slice_index, ap, sym, ◌∙◌, refl, subst, arith}
use Rattle.std.specs.List.{slice_get}
use Rattle.std.proofs.lemmas.Bool.Decides.{nat_tests}
use Rattle.std.proofs.lemmas.List.Elements.{All-contains}
use Rattle.std.proofs.lemmas.Option.{get_or_from_slice_get, slice_get-get_or, slice_get_within}
use Rattle.bayou_base.specs.declared.limits.TheConstants.{SERVERS}
use Rattle.bayou_base.specs.declared.wid.Wid.{Wid}
use Rattle.bayou_base.specs.Vector.{Covers}
use Rattle.bayou_lang.specs.declared.write.Write.{Write}
use Rattle.bayou_lang.specs.Laws.Fitting.{fitting_is_prefix_closed}
use Rattle.bayou_lang.specs.Writes.{AreFitting, count_of}
use Rattle.bayou_world.specs.Inner.Good.{IsGoodMachine, IsHome}
use Rattle.bayou_world.specs.Invariant.{IsConsistent, Stands, TestsAgree, made_by}
use Rattle.bayou_world.specs.Machine.{Machine, Made, names, writes}
use Rattle.bayou_world.proofs.Homes.{fitting_at, home_of_held, one_home, stands_behind}
use Rattle.bayou_world.proofs.Lists.{Contains-filter, Contains-from_filter, Contains-map, Contains-map_from, same_number}
use Rattle.bayou_world.proofs.Vectors.{named, tests_agree}

-- what a count is, as a law of the crate below says it
abbrev pub CountLaw : Type 0
CountLaw = (list : List Write) (server : ℕ) → server < SERVERS → slice_index (count_of list) server ≡ length (made_by server list)

-- ---- equal names are equal Writes

-- in doubt at its own server
pub record IsOwnDoubt (machine : Machine) (made : Made) : Type 0 where
  pub place : ℕ
  pub own : made.write.wid.origin.index ≡ place
  pub doubt : (machine.servers place).doubt ≡ Some made

pub home_or_doubt : (machine : Machine) → IsGoodMachine machine → (made : Made) → Stands machine made → IsHome machine.servers made ⊎ IsOwnDoubt machine made
home_or_doubt machine good made (inl held) = inl (home_of_held machine.count machine.limit machine.servers good.servers held.0 made held.1)
home_or_doubt machine good made (inr (inl doubt)) =
    elim (same_number made.write.wid.origin.index doubt.0) as (λ _. IsHome machine.servers made ⊎ IsOwnDoubt machine made) [
      | inl own ↦ inr (record { place = doubt.0; own = own; doubt = doubt.1 })
      | inr foreign ↦ inl (((good.servers doubt.0).doubt made doubt.1).home foreign)
    ]
home_or_doubt machine good made (inr (inr item)) = inl (All-contains (IsHome machine.servers) machine.items made good.items item)

-- a server's own Write in doubt has a name that no Write at home has
doubt_is_new : (machine : Machine) → IsGoodMachine machine → (doubt made : Made) → IsOwnDoubt machine doubt → IsHome machine.servers made → doubt.write.wid ≡ made.write.wid → ⊥
doubt_is_new machine good doubt made is home same =
    let place = doubt.write.wid.origin.index in
    let held = writes (machine.servers place).held in
    let at_place : (machine.servers place).doubt ≡ Some doubt = subst (λ n. (machine.servers n).doubt ≡ Some doubt) (sym is.own) is.doubt in
    let may = (good.servers place).doubt doubt at_place in
    let there : Contains (machine.servers place).held made = subst (λ (wid : Wid). Contains (machine.servers wid.origin.index).held made) (sym same) home in
    let has : Contains (names held) made.write.wid = Contains-map (λ (w : Write). w.wid) held made.write (Contains-map (λ (m : Made). m.write) (machine.servers place).held made there) in
    let covered = (named machine.count held doubt.write.wid (fitting_at machine.count machine.limit machine.servers good.servers place)).0 (subst (Contains (names held)) (sym same) has) in
    omega (arith, covered, may.fits.0.next)

one_doubt : (machine : Machine) (a b : Made) → IsOwnDoubt machine a → IsOwnDoubt machine b → a.write.wid ≡ b.write.wid → a ≡ b
one_doubt machine a b is_a is_b same =
    let place : is_a.place ≡ is_b.place = sym is_a.own ∙ ap (λ (wid : Wid). wid.origin.index) same ∙ is_b.own in
    let both : Some a ≡ Some b = sym is_a.doubt ∙ ap (λ n. (machine.servers n).doubt) place ∙ is_b.doubt in
    cc

one : (machine : Machine) → IsGoodMachine machine → (a b : Made) → Stands machine a → Stands machine b → a.write.wid ≡ b.write.wid → a ≡ b
one machine good a b stands_a stands_b same =
    elim (home_or_doubt machine good a stands_a) as (λ _. a ≡ b) [
      | inl home_a ↦ elim (home_or_doubt machine good b stands_b) as (λ _. a ≡ b) [
        | inl home_b ↦ one_home machine.count machine.limit machine.servers good.servers a b home_a home_b same
        | inr doubt_b ↦ absurd (doubt_is_new machine good b a doubt_b home_a (sym same))
      ]
      | inr doubt_a ↦ elim (home_or_doubt machine good b stands_b) as (λ _. a ≡ b) [
        | inl home_b ↦ absurd (doubt_is_new machine good a b doubt_a home_b same)
        | inr doubt_b ↦ one_doubt machine a b doubt_a doubt_b same
      ]
    ]

-- ---- what a Write says that its server held covers just its past

counts_past : (count : ℕ) (made : Made) (name : Wid) → AreFitting count made.past → made.write.deps ≡ count_of made.past
    → Covers made.write.deps name.origin.index name.seq ↔ Contains (names made.past) name
counts_past count made name fitting deps =
    let law = named count made.past name fitting in (
      λ covers. law.1 (subst (λ counts. Covers counts name.origin.index name.seq) deps covers),
      λ has. subst (λ counts. Covers counts name.origin.index name.seq) (sym deps) (law.0 has),
    )

deps_cover : (machine : Machine) → IsGoodMachine machine → (made : Made) → Stands machine made → (name : Wid) → Covers made.write.deps name.origin.index name.seq ↔ Contains (names made.past) name
deps_cover machine good made stands name =
    elim (home_or_doubt machine good made stands) as (λ _. Covers made.write.deps name.origin.index name.seq ↔ Contains (names made.past) name) [
      | inl home ↦
          let is = stands_behind machine.count machine.limit machine.servers good.servers made home in
          counts_past machine.count made name is.fitting is.deps
      | inr doubt ↦
          let may = (good.servers doubt.place).doubt made doubt.doubt in
          let past = may.past doubt.own in
          counts_past machine.count made name (subst (AreFitting machine.count) (sym past) (fitting_at machine.count machine.limit machine.servers good.servers doubt.place))
          (may.deps doubt.own ∙ ap count_of (sym past))
    ]

-- ---- of another's Writes a server holds the first ones

-- what stands at a place of a filter stands in the list behind as many that pass
record SplitsAt {X : Type 0} (p : X → Bool) (xs : List X) (at : ℕ) (x : X) : Type 0 where
  before : List X
  after : List X
  split : xs ≡ before ++ x ∷ after
  number : length (filter p before) ≡ at
  passes : p x ≡ true

splits_first : {X : Type 0} (p : X → Bool) (first : X) (xs : List X) (x : X) → p first ≡ true → first ≡ x → SplitsAt p (first ∷ xs) 0 x
splits_first p first xs x passed is = record { before = []; after = xs; split = ap (λ y. y ∷ xs) is; number = refl; passes = ap p (sym is) ∙ passed }

splits_later : {X : Type 0} (p : X → Bool) (first : X) (xs : List X) (at : ℕ) (x : X) → p first ≡ true → SplitsAt p xs at x → SplitsAt p (first ∷ xs) (suc at) x
splits_later {X} p first xs at x passed rest = record {
  before = first ∷ rest.before;
  after = rest.after;
  split = ap (λ ys. first ∷ ys) rest.split;
  number = ap (λ t. length (cond t (first ∷ filter p rest.before) (filter p rest.before))) passed ∙ ap suc rest.number;
  passes = rest.passes;
}

splits_over : {X : Type 0} (p : X → Bool) (first : X) (xs : List X) (at : ℕ) (x : X) → p first ≡ false → SplitsAt p xs at x → SplitsAt p (first ∷ xs) at x
splits_over {X} p first xs at x failed rest = record {
  before = first ∷ rest.before;
  after = rest.after;
  split = ap (λ ys. first ∷ ys) rest.split;
  number = ap (λ t. length (cond t (first ∷ filter p rest.before) (filter p rest.before))) failed ∙ rest.number;
  passes = rest.passes;
}

splits_passed : {X : Type 0} (p : X → Bool) (first : X) (xs : List X) (at : ℕ) (x : X) → p first ≡ true → ((n : ℕ) → slice_get (filter p xs) n ≡ Some x → SplitsAt p xs n x)
    → slice_get (first ∷ filter p xs) at ≡ Some x → SplitsAt p (first ∷ xs) at x
splits_passed p first xs zero x passed rest got = let is : first ≡ x = cc in splits_first p first xs x passed is
splits_passed p first xs (suc at) x passed rest got = splits_later p first xs at x passed (rest at got)

filter_split : {X : Type 0} (p : X → Bool) (xs : List X) (at : ℕ) (x : X) → slice_get (filter p xs) at ≡ Some x → SplitsAt p xs at x
filter_split p [] at x got = let none : None ≡ Some x = got in absurd (cc)
filter_split {X} p (first ∷ xs) at x got =
    elim (p first) as (λ t. p first ≡ t → slice_get (cond t (first ∷ filter p xs) (filter p xs)) at ≡ Some x → SplitsAt p (first ∷ xs) at x) [
      | true ↦ λ passed. λ got. splits_passed p first xs at x passed (λ n got_n. filter_split p xs n x got_n) got
      | false ↦ λ failed. λ got. splits_over p first xs at x failed (filter_split p xs at x got)
    ] refl got

-- of a fitting list a server's Writes stand by their numbers
seq_at : CountLaw → (count : ℕ) (list : List Write) → AreFitting count list → (server at : ℕ) (write : Write) → slice_get (made_by server list) at ≡ Some write
    → (write.wid.seq ≡ at + 1) × (write.wid.origin.index ≡ server)
seq_at law count list fitting server at write got =
    let split = filter_split (λ (w : Write). w.wid.origin.index == server) list at write got in
    let before = split.before in
    let passed : (write.wid.origin.index == server) ≡ true = split.passes in
    let own : write.wid.origin.index ≡ server = grind (arith, nat_tests) in
    let fits = fitting before write split.after split.split in
    let number : slice_index (count_of before) write.wid.origin.index ≡ length (made_by write.wid.origin.index before) = law before write.wid.origin.index write.wid.origin.in_range in
    let same : length (made_by write.wid.origin.index before) ≡ length (made_by server before) = ap (λ n. length (made_by n before)) own in
    let as_many : length (made_by server before) ≡ at = split.number in
    (omega (arith, fits.0.next, number, same, as_many), own)

-- one list is the front of another where it has what that has at each place
front_by_places : {X : Type 0} (xs ys : List X) → ((at : ℕ) (x : X) → slice_get xs at ≡ Some x → slice_get ys at ≡ Some x) → (later : List X) × (ys ≡ xs ++ later)
front_by_places [] ys each = (ys, refl)
front_by_places (x ∷ xs) [] each = let none : None ≡ Some x = each 0 x refl in absurd (cc)
front_by_places {X} (x ∷ xs) (y ∷ ys) each =
    let first : Some y ≡ Some x = each 0 x refl in
    let one : y ≡ x = cc in
    let rest = front_by_places xs ys (λ at z got. each (suc at) z got) in
    (rest.0, ap (λ z. z ∷ ys) one ∙ ap (λ zs. x ∷ zs) rest.1)

prefix_at : CountLaw → (machine : Machine) → IsGoodMachine machine → (server other : ℕ) (at : ℕ) (write : Write)
    → slice_get (made_by other (writes (machine.servers server).held)) at ≡ Some write → slice_get (made_by other (writes (machine.servers other).held)) at ≡ Some write
prefix_at law machine good server other at write got =
    let servers = machine.servers in
    let here = writes (servers server).held in
    let there = writes (servers other).held in
    let is = λ (w : Write). w.wid.origin.index == other in
    let fitting = fitting_at machine.count machine.limit servers good.servers server in
    let fitting_there = fitting_at machine.count machine.limit servers good.servers other in
    let number = seq_at law machine.count here fitting other at write got in
    let in_filter : Contains (made_by other here) write = (at, slice_get_within (made_by other here) at write got, get_or_from_slice_get (made_by other here) at write write got) in
    let both = Contains-from_filter is here write in_filter in
    let made = Contains-map_from (λ (m : Made). m.write) (servers server).held write both.0 in
    let home = home_of_held machine.count machine.limit servers good.servers server made.0 made.1 in
    let origin : made.0.write.wid.origin.index ≡ other = ap (λ (w : Write). w.wid.origin.index) made.2 ∙ number.1 in
    let held : Contains (servers other).held made.0 = subst (λ n. Contains (servers n).held made.0) origin home in
    let has : Contains there write = subst (Contains there) made.2 (Contains-map (λ (m : Made). m.write) (servers other).held made.0 held) in
    let found = Contains-filter is there write has both.1 in
    let found_at : slice_get (made_by other there) found.0 ≡ Some write = slice_get-get_or (made_by other there) found.0 write found.1 ∙ ap Some found.2 in
    let place = seq_at law machine.count there fitting_there other found.0 write found_at in
    let same : found.0 ≡ at = omega (arith, place.0, number.0) in
    subst (λ n. slice_get (made_by other there) n ≡ Some write) same found_at

pub consistent : CountLaw → (machine : Machine) → IsGoodMachine machine → IsConsistent machine
consistent law machine good = record {
  one = one machine good;
  sound = λ server. (good.servers server).sound;
  closed = λ server. fitting_is_prefix_closed machine.count (writes (machine.servers server).held) (fitting_at machine.count machine.limit machine.servers good.servers server);
  prefix = λ server other. front_by_places (made_by other (writes (machine.servers server).held)) (made_by other (writes (machine.servers other).held)) (prefix_at law machine good server other);
  deps = deps_cover machine good;
}

pub agree : (machine : Machine) → IsGoodMachine machine → TestsAgree machine
agree machine good server vector set is =
    tests_agree machine.count (writes (machine.servers server).held) vector set (fitting_at machine.count machine.limit machine.servers good.servers server) is
