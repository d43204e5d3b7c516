-- The least fault of two operations.
use Rattle.std.proofs.Common.{◌≡◌, inl, inr, ℕ, ◌+◌, ◌<◌, ◌≤◌, false, true, nat_lt, ◌==◌, ◌&&◌, ◌||◌, List, [], ◌∷◌, ◌++◌, length, get_or, Contains, Option, Some, None, sym, ◌∙◌, refl, subst, arith}
use Rattle.std.proofs.lemmas.Bool.{cases_lt}
use Rattle.std.proofs.lemmas.Bool.Decides.{nat_tests}
use Rattle.std.proofs.lemmas.List.Elements.{All-push, Contains-append_left, Contains-push}
use Rattle.bayou_base.specs.Vector.{Covers}
use Rattle.bayou_base.specs.declared.entry.Entry.{Entry}
use Rattle.bayou_base.specs.declared.entry.What.{What}
use Rattle.bayou_base.specs.declared.entry.What.TheVariants as whats
use Rattle.bayou_base.specs.declared.wid.Wid.{Wid}
use Rattle.bayou_lang.specs.declared.write.Write.{Write}
use Rattle.bayou_judge.specs.declared.demand.Demand.{Demand}
use Rattle.bayou_judge.specs.Breaches.{is_less}
use Rattle.bayou_judge.specs.Evidence.{AreGood}
use Rattle.bayou_judge.specs.History.{dump_of}
use Rattle.bayou_judge.specs.Inner.Needs.{wid_key, Fails, IsDemandOf, IsLeastAt, IsLeastUnmet, IsLesser, IsMet, IsServed, IsTold, Tells}
use Rattle.bayou_judge.proofs.Good.{front_counts, front_has, front_is_held}
use Rattle.bayou_judge.proofs.Demands.{beyond}

-- what an operation told of its server's dump has, and its own vector or name counts it
pub told_is : (count : ℕ) (dumps : List (List Write)) → AreGood count dumps → (home : ℕ) (what : What) (write : Write) → Tells (dump_of dumps home) what write → Contains (dump_of dumps home) write × IsTold what write
told_is count dumps good home (whats.Read key vector) write told =
    (front_is_held dumps home told.0 write told.1.0 told.2, subst (λ counts. Covers counts write.wid.origin.index write.wid.seq) told.1.1 (front_counts count dumps good home told.0 told.1.0 write told.2))
told_is count dumps good home (whats.Write wid stamp deps) write told = told
told_is count dumps good home whats.Refused write told = absurd told

pub is_told : (count : ℕ) (dumps : List (List Write)) → AreGood count dumps → (home : ℕ) (what : What) (write : Write) → IsServed (dump_of dumps home) what → Contains (dump_of dumps home) write → IsTold what write → Tells (dump_of dumps home) what write
is_told count dumps good home (whats.Read key vector) write served has counted =
    (served.0, served.1, front_has count dumps good home served.0 served.1.0 write (home, has) (subst (λ counts. Covers counts write.wid.origin.index write.wid.seq) (sym served.1.1) counted))
is_told count dumps good home (whats.Write wid stamp deps) write served has named = (has, named)
is_told count dumps good home whats.Refused write served has told = absurd told

-- keys of names
less-asym : (a b c d : ℕ) → is_less (a ∷ b ∷ []) (c ∷ d ∷ []) ≡ true → is_less (c ∷ d ∷ []) (a ∷ b ∷ []) ≡ false
less-asym a b c d less = grind (arith, nat_tests)

less-trans : (a b c d e f : ℕ) → is_less (a ∷ b ∷ []) (c ∷ d ∷ []) ≡ false → is_less (c ∷ d ∷ []) (e ∷ f ∷ []) ≡ false → is_less (a ∷ b ∷ []) (e ∷ f ∷ []) ≡ false
less-trans a b c d e f first second = grind (arith, nat_tests)

less-self : (a b : ℕ) → is_less (a ∷ b ∷ []) (a ∷ b ∷ []) ≡ false
less-self a b = grind (arith, nat_tests)

pub wid_less-asym : (a b : Wid) → is_less (wid_key a) (wid_key b) ≡ true → is_less (wid_key b) (wid_key a) ≡ false
wid_less-asym a b = less-asym a.origin.index a.seq b.origin.index b.seq

wid_less-trans : (a b c : Wid) → is_less (wid_key a) (wid_key b) ≡ false → is_less (wid_key b) (wid_key c) ≡ false → is_less (wid_key a) (wid_key c) ≡ false
wid_less-trans a b c = less-trans a.origin.index a.seq b.origin.index b.seq c.origin.index c.seq

wid_less-self : (a : Wid) → is_less (wid_key a) (wid_key a) ≡ false
wid_less-self a = less-self a.origin.index a.seq

-- the least name with one more Write that doesn't meet the demand
pub least-more : (writes : List Write) (what : What) (demand : Demand) (least : Option Wid) (write : Write) (result : Wid) → IsLeastUnmet writes what demand least → IsTold what write → (IsMet demand write → ⊥) → IsLesser least write.wid result
    → IsLeastUnmet (writes ++ write ∷ []) what demand (Some result)
least-more writes what demand None write result none told unmet is =
    let Least : Write → Type 0 = λ other. IsTold what other → (IsMet demand other → ⊥) → is_less (wid_key other.wid) (wid_key result) ≡ false in (
      (write, Contains-push writes write, told, sym is, unmet),
      All-push Least writes write (λ k d within told_other unmet_other. absurd (unmet_other (none k d within told_other))) (λ _ _. subst (λ w. is_less (wid_key write.wid) (wid_key w) ≡ false) (sym is) (wid_less-self write.wid)),
    )
least-more writes what demand (Some least) write result old told unmet (inl is) =
    let Least : Write → Type 0 = λ other. IsTold what other → (IsMet demand other → ⊥) → is_less (wid_key other.wid) (wid_key result) ≡ false in
    let found = old.0 in (
      (found.0, Contains-append_left writes (write ∷ []) found.0 found.1, found.2, found.3 ∙ sym is.0, found.4),
      All-push Least writes write (λ k d within told_other unmet_other. subst (λ w. is_less (wid_key (get_or writes k d).wid) (wid_key w) ≡ false) (sym is.0) (old.1 k d within told_other unmet_other))
          (λ _ _. subst (λ w. is_less (wid_key write.wid) (wid_key w) ≡ false) (sym is.0) is.1),
    )
least-more writes what demand (Some least) write result old told unmet (inr is) =
    let Least : Write → Type 0 = λ other. IsTold what other → (IsMet demand other → ⊥) → is_less (wid_key other.wid) (wid_key result) ≡ false in (
      (write, Contains-push writes write, told, sym is.0, unmet),
      All-push Least writes write (λ k d within told_other unmet_other. subst (λ w. is_less (wid_key (get_or writes k d).wid) (wid_key w) ≡ false) (sym is.0)
          (wid_less-trans (get_or writes k d).wid least write.wid (old.1 k d within told_other unmet_other) is.1))
          (λ _ _. subst (λ w. is_less (wid_key write.wid) (wid_key w) ≡ false) (sym is.0) (wid_less-self write.wid)),
    )

-- and with one more that isn't told of, or meets it
pub least-kept : (writes : List Write) (what : What) (demand : Demand) (least : Option Wid) (write : Write) → IsLeastUnmet writes what demand least → (IsTold what write → IsMet demand write)
    → IsLeastUnmet (writes ++ write ∷ []) what demand least
least-kept writes what demand None write none met = All-push (λ other. IsTold what other → IsMet demand other) writes write none met
least-kept writes what demand (Some least) write old met =
    let found = old.0 in (
      (found.0, Contains-append_left writes (write ∷ []) found.0 found.1, found.2, found.3, found.4),
      All-push (λ other. IsTold what other → (IsMet demand other → ⊥) → is_less (wid_key other.wid) (wid_key least) ≡ false) writes write old.1 (λ told unmet. absurd (unmet (met told))),
    )

-- where nothing is demanded there is no fault
pub no_demand : (count : ℕ) (dumps : List (List Write)) → AreGood count dumps → (first second : Entry) (server : ℕ) → IsDemandOf dumps second.server.index second.what server None → IsLeastAt dumps first second server None
no_demand count dumps good first second server none wid fails =
    let told = told_is count dumps good first.server.index first.what fails.0 fails.1 in
    none fails.0 (first.server.index, told.0) fails.3

-- nor where all that the earlier one told of meets it
pub all_met : (count : ℕ) (dumps : List (List Write)) → AreGood count dumps → (first second : Entry) (server : ℕ) (demand : Demand) → IsDemandOf dumps second.server.index second.what server (Some demand)
    → ((write : Write) → Tells (dump_of dumps first.server.index) first.what write → IsMet demand write) → IsLeastAt dumps first second server None
all_met count dumps good first second server demand is met wid fails =
    let told = told_is count dumps good first.server.index first.what fails.0 fails.1 in
    (is fails.0 (first.server.index, told.0)).0 fails.3 (met fails.0 fails.1)

-- the least name of what doesn't meet it is that of the least fault
pub least_is : (count : ℕ) (dumps : List (List Write)) → AreGood count dumps → (first second : Entry) (server : ℕ) (demand : Demand) → IsDemandOf dumps second.server.index second.what server (Some demand)
    → IsServed (dump_of dumps first.server.index) first.what → (result : Option Wid) → IsLeastUnmet (dump_of dumps first.server.index) first.what demand result → IsLeastAt dumps first second server result
least_is count dumps good first second server demand is served None none = λ wid fails.
    let told = told_is count dumps good first.server.index first.what fails.0 fails.1 in
    let dump = dump_of dumps first.server.index in
    let here : get_or dump told.0.0 fails.0 ≡ fails.0 = told.0.2 in
    let met = subst (λ write. IsTold first.what write → IsMet demand write) here (none told.0.0 fails.0 told.0.1) told.1 in
    (is fails.0 (first.server.index, told.0)).0 fails.3 met
least_is count dumps good first second server demand is served (Some wid) least =
    let found = least.0 in
    let dump = dump_of dumps first.server.index in
    let lacks = (is found.0 (first.server.index, found.1)).1 found.4 in (
      (found.0, is_told count dumps good first.server.index first.what found.0 served found.1 found.2, found.3, lacks),
      λ other fails.
          let told = told_is count dumps good first.server.index first.what fails.0 fails.1 in
          let here : get_or dump told.0.0 fails.0 ≡ fails.0 = told.0.2 in
          let unmet : IsMet demand fails.0 → ⊥ = (is fails.0 (first.server.index, told.0)).0 fails.3 in
          let above = subst (λ (write : Write). IsTold first.what write → (IsMet demand write → ⊥) → is_less (wid_key write.wid) (wid_key wid) ≡ false) here (least.1 told.0.0 fails.0 told.0.1) told.1 unmet in
          subst (λ w. is_less (wid_key w) (wid_key wid) ≡ false) fails.2 above,
    )

-- a key with a first number that isn't less
pub less-later : (s t : ℕ) (xs ys : List ℕ) → s ≤ t → (t ≡ s → is_less xs ys ≡ false) → is_less (t ∷ xs) (s ∷ ys) ≡ false
less-later s t xs ys above least =
    let not_less : nat_lt t s ≡ false = grind (arith, nat_tests) in
    elim (t == s) as (λ b. (t == s) ≡ b → (nat_lt t s || (b && is_less xs ys)) ≡ false) [
      | true ↦ λ is. let same : t ≡ s = grind (arith, nat_tests) in rw not_less (least same)
      | false ↦ λ isnt. rw not_less refl
    ] refl

-- the least name at the first server that has a fault is that of the least fault
pub least_server : (dumps : List (List Write)) (first second : Entry) (server : ℕ) (wid : Wid) → ((other : ℕ) (w : Wid) → other < server → Fails dumps first second other w → ⊥) → IsLeastAt dumps first second server (Some wid)
    → Fails dumps first second server wid × ((other : ℕ) (w : Wid) → Fails dumps first second other w → is_less (other ∷ wid_key w) (server ∷ wid_key wid) ≡ false)
least_server dumps first second server wid none_before least = (
  least.0,
  λ other w fails.
      elim (cases_lt other server) as (λ _. is_less (other ∷ wid_key w) (server ∷ wid_key wid) ≡ false) [
        | inl before ↦ absurd (none_before other w before fails)
        | inr above ↦ less-later server other (wid_key w) (wid_key wid) above (λ same. least.1 w (subst (λ s. Fails dumps first second s w) same fails))
      ],
)

-- what one more server without a fault comes to
pub none_to : (dumps : List (List Write)) (first second : Entry) (server : ℕ) → ((other : ℕ) (w : Wid) → other < server → Fails dumps first second other w → ⊥) → IsLeastAt dumps first second server None
    → (other : ℕ) (w : Wid) → other < server + 1 → Fails dumps first second other w → ⊥
none_to dumps first second server none_before none other w within fails =
    elim (cases_lt other server) as (λ _. ⊥) [
      | inl before ↦ none_before other w before fails
      | inr above ↦ let same : other ≡ server = omega arith in none w (subst (λ s. Fails dumps first second s w) same fails)
    ]

-- and all of them
pub none_at_all : (dumps : List (List Write)) (first second : Entry) → ((other : ℕ) (w : Wid) → other < length dumps → Fails dumps first second other w → ⊥) → second.server.index < length dumps
    → (other : ℕ) (w : Wid) → Fails dumps first second other w → ⊥
none_at_all dumps first second none known other w fails =
    elim (cases_lt other (length dumps)) as (λ _. ⊥) [
      | inl within ↦ none other w within fails
      | inr past ↦ beyond dumps second.server.index second.what other fails.0 past known fails.3
    ]
