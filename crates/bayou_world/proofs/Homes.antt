-- Writes at home: a name is of one Write, and a Write's past stands before it wherever it is held.
use Rattle.std.proofs.Common.{◌≡◌, ◌≢◌, ℕ, ◌+◌, ◌<◌, ◌≤◌, true, nat_lt, List, ◌∷◌, ◌++◌, Contains, ap, sym, ◌∙◌, refl, subst, arith}
use Rattle.std.proofs.lemmas.Bool.Decides.{nat_tests}
use Rattle.std.proofs.lemmas.List.{append_assoc, map-append}
use Rattle.std.proofs.lemmas.List.Elements.{All-contains, Contains-append_left}
use Rattle.bayou_base.specs.declared.stamp.Stamp.{Stamp}
use Rattle.bayou_base.specs.declared.wid.Wid.{Wid}
use Rattle.bayou_base.specs.Order.{is_before}
use Rattle.bayou_base.specs.Vector.{Dominates}
use Rattle.bayou_lang.specs.declared.write.Write.{Write}
use Rattle.bayou_lang.specs.Laws.Fitting.{covered_by-fitting, fitting-front, fitting_distinct_wids, greatest_clock-least}
use Rattle.bayou_lang.specs.Writes.{AreFitting, Fits, covered_by, count_of, greatest_clock}
use Rattle.bayou_judge.specs.History.{IsFrontOf}
use Rattle.bayou_world.specs.Inner.Good.{AreGoodServers, IsHome}
use Rattle.bayou_world.specs.Machine.{IsWithin, Made, ServerSets, names, writes}
use Rattle.bayou_world.proofs.Lists.{AllPairs-map, Contains-map, Contains-map_from, one_of_name, split_at}
use Rattle.bayou_world.proofs.Vectors.{within_dominates}

abbrev write_of : Made → Write
write_of made = made.write

abbrev pub wid_of : Write → Wid
wid_of write = write.wid

-- what is held is fitting
pub fitting_at : (count limit : ℕ) (servers : ℕ → ServerSets) → AreGoodServers count limit servers → (place : ℕ) → AreFitting count (writes (servers place).held)
fitting_at count limit servers good place = (good place).sound.fitting

-- a name is of one Write, and of one past
pub one_home : (count limit : ℕ) (servers : ℕ → ServerSets) → AreGoodServers count limit servers → (a b : Made) → IsHome servers a → IsHome servers b → a.write.wid ≡ b.write.wid → a ≡ b
one_home count limit servers good a b home_a home_b same =
    let place = b.write.wid.origin.index in
    let there : Contains (servers place).held a = subst (λ (wid : Wid). Contains (servers wid.origin.index).held a) same home_a in
    let distinct = fitting_distinct_wids count (writes (servers place).held) (fitting_at count limit servers good place) in
    one_of_name (λ (made : Made). made.write.wid) (servers place).held a b (AllPairs-map (λ x y. x.wid ≢ y.wid) (λ (made : Made). made.write) (servers place).held distinct) there home_b same

-- what is held anywhere is at home
pub home_of_held : (count limit : ℕ) (servers : ℕ → ServerSets) → AreGoodServers count limit servers → (place : ℕ) (made : Made) → Contains (servers place).held made → IsHome servers made
home_of_held count limit servers good place made has = All-contains (IsHome servers) (servers place).held made (good place).home has

-- each Write of a database that a server had is at home
pub home_of_had : (count limit : ℕ) (servers : ℕ → ServerSets) → AreGoodServers count limit servers → (place : ℕ) (database : List Write) → IsFrontOf (writes (servers place).held) database
    → (write : Write) → Contains database write → (made : Made) × (made.write ≡ write) × IsHome servers made
home_of_had count limit servers good place database (rest, split) write has =
    let held : Contains (writes (servers place).held) write = subst (λ list. Contains list write) (sym split) (Contains-append_left database rest write has) in
    let at = Contains-map_from (λ (made : Made). made.write) (servers place).held write held in
    (at.0, at.2, home_of_held count limit servers good place at.0 at.1)

-- and so two of them that have one name are one
pub one_write : (count limit : ℕ) (servers : ℕ → ServerSets) → AreGoodServers count limit servers → (a b : Made) (x y : Write) → IsHome servers a → IsHome servers b → a.write ≡ x → b.write ≡ y → x.wid ≡ y.wid → x ≡ y
one_write count limit servers good a b x y home_a home_b is_x is_y same =
    let one = one_home count limit servers good a b home_a home_b (ap wid_of is_x ∙ same ∙ sym (ap wid_of is_y)) in
    sym is_x ∙ ap write_of one ∙ is_y

-- ---- the past of a Write at home

-- What its own server held before it: it fits that, says so, and is behind all of it.
pub record StandsBehind (count : ℕ) (servers : ℕ → ServerSets) (made : Made) : Type 0 where
  pub before : List Made
  pub after : List Made
  pub split : (servers made.write.wid.origin.index).held ≡ before ++ made ∷ after
  pub past : made.past ≡ writes before
  pub fits : Fits count made.past made.write
  pub deps : made.write.deps ≡ count_of made.past
  pub fitting : AreFitting count made.past

pub stands_behind : (count limit : ℕ) (servers : ℕ → ServerSets) → AreGoodServers count limit servers → (made : Made) → IsHome servers made → StandsBehind count servers made
stands_behind count limit servers good made home =
    let place = made.write.wid.origin.index in
    let at = split_at (servers place).held made home in
    let before = at.0 in
    let after = at.1 in
    let past : made.past ≡ writes before = (good place).pasts before made after at.2 refl in
    let split : writes (servers place).held ≡ writes before ++ made.write ∷ writes after =
    ap writes at.2 ∙ map-append (λ (m : Made). m.write) before (made ∷ after) in
    record {
      before = before;
      after = after;
      split = at.2;
      past = past;
      fits = subst (λ list. Fits count list made.write) (sym past) ((good place).sound.fitting (writes before) made.write (writes after) split);
      deps = (good place).sound.own (writes before) made.write (writes after) split refl ∙ ap count_of (sym past);
      fitting = subst (AreFitting count) (sym past) (fitting-front count (writes before) (made.write ∷ writes after) (subst (AreFitting count) split (good place).sound.fitting));
    }

-- each Write of it is at home
pub home_of_past : (count limit : ℕ) (servers : ℕ → ServerSets) → AreGoodServers count limit servers → (made : Made) → IsHome servers made
    → (write : Write) → Contains made.past write → (earlier : Made) × (earlier.write ≡ write) × IsHome servers earlier
home_of_past count limit servers good made home write has =
    let stands = stands_behind count limit servers good made home in
    let place = made.write.wid.origin.index in
    let at = Contains-map_from (λ (m : Made). m.write) stands.before write (subst (λ list. Contains list write) stands.past has) in
    let held : Contains (servers place).held at.0 = subst (λ list. Contains list at.0) (sym stands.split) (Contains-append_left stands.before (made ∷ stands.after) at.0 at.1) in
    (at.0, at.2, home_of_held count limit servers good place at.0 held)

-- and is before it in stamp order
early_clock : (count : ℕ) (past : List Write) (made write : Write) → AreFitting count past → Fits count past made → made.deps ≡ count_of past → Contains past write → write.stamp.clock < made.stamp.clock
early_clock count past made write fitting fits deps has =
    let all : covered_by made.deps past ≡ past = ap (λ counts. covered_by counts past) deps ∙ covered_by-fitting count past (count_of past) fitting (λ server inside. omega arith) in
    let clock : made.stamp.clock ≡ greatest_clock past + 1 = fits.1.clock ∙ ap (λ list. greatest_clock list + 1) all in
    let least = All-contains (λ (held : Write). held.stamp.clock ≤ greatest_clock past) past write (greatest_clock-least past) has in
    omega (arith, least, clock)

before_by_clock : (a b : Stamp) → a.clock < b.clock → is_before a b ≡ true
before_by_clock a b less =
    let first : nat_lt a.clock b.clock ≡ true = grind (arith, nat_tests) in rw first refl

pub past_is_before : (count limit : ℕ) (servers : ℕ → ServerSets) → AreGoodServers count limit servers → (made : Made) → IsHome servers made
    → (write : Write) → Contains made.past write → is_before write.stamp made.write.stamp ≡ true
past_is_before count limit servers good made home write has =
    let stands = stands_behind count limit servers good made home in
    before_by_clock write.stamp made.write.stamp (early_clock count made.past made.write write stands.fitting stands.fits stands.deps has)

-- Wherever the Write fits behind a part of a list, its past is in that part.
past_within : (count limit : ℕ) (servers : ℕ → ServerSets) → AreGoodServers count limit servers → (made : Made) → IsHome servers made
    → (held : List Write) → AreFitting count held → Dominates (count_of held) made.write.deps → IsWithin (names made.past) (names held)
past_within count limit servers good made home held fitting dominates =
    let stands = stands_behind count limit servers good made home in
    (within_dominates count made.past held stands.fitting fitting).1 (subst (Dominates (count_of held)) stands.deps dominates)

-- Where a database that a server had has the Write, it has its past.
pub past_is_had : (count limit : ℕ) (servers : ℕ → ServerSets) → AreGoodServers count limit servers → (made : Made) → IsHome servers made
    → (place : ℕ) (database : List Write) → IsFrontOf (writes (servers place).held) database → Contains database made.write
    → (write : Write) → Contains made.past write → Contains database write
past_is_had count limit servers good made home place database front has write in_past =
    let at = split_at database made.write has in
    let before = at.0 in
    let after = at.1 in
    let rest = front.0 in
    let fitting_held = fitting_at count limit servers good place in
    let whole : writes (servers place).held ≡ before ++ made.write ∷ (after ++ rest) =
    front.1 ∙ ap (λ list. list ++ rest) at.2 ∙ append_assoc before (made.write ∷ after) rest in
    let fits : Fits count before made.write = fitting_held before made.write (after ++ rest) whole in
    let fitting_before : AreFitting count before = fitting-front count before (made.write ∷ (after ++ rest)) (subst (AreFitting count) whole fitting_held) in
    let within = past_within count limit servers good made home before fitting_before fits.0.deps in
    let named = Contains-map_from (λ (w : Write). w.wid) before write.wid (within write.wid (Contains-map (λ (w : Write). w.wid) made.past write in_past)) in
    let earlier = home_of_past count limit servers good made home write in_past in
    let in_database : Contains database named.0 = subst (λ list. Contains list named.0) (sym at.2) (Contains-append_left before (made.write ∷ after) named.0 named.1) in
    let there = home_of_had count limit servers good place database front named.0 in_database in
    let same : named.0 ≡ write = one_write count limit servers good there.0 earlier.0 named.0 write there.2 earlier.2 there.1 earlier.1 named.2 in
    subst (Contains database) same in_database
