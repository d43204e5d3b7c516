-- What digests say of the Writes that were read, where one more is.
use Rattle.std.proofs.Common.{rules, tests, Bool, true, false, not, IsSome, unwrap_or, ◌==◌, ◌≡◌, ◌≢◌, ◌≤◌, ◌+◌, ◌++◌, All, IfSome, map, take, ◌⊎◌, inl, inr, Err, Ok, Result, OnErr, ◌<◌, ◌∙◌, arith, ℕ, zero, suc, List, [], ◌∷◌, None, Option, Some, ap, get_or, length, refl, sym, slice_set, subst}
use Rattle.std.proofs.Math.Seq.{take-suc}
use Rattle.std.proofs.Math.Dec.{eqb}
use Rattle.std.proofs.lemmas.Bool.{cases_eq, cases_lt, eq-eqb, eqb-true}
use Rattle.std.proofs.lemmas.List.{append_assoc, append-nil, map-append}
use Rattle.std.proofs.lemmas.List.Elements.{All-append, filter-append}
use Rattle.std.proofs.lemmas.Option.{get_or_from_slice_get, slice_get-get_or, slice_get_cases, slice_get_past, slice_get_within}
use Rattle.std.specs.List.{slice_get}
use Rattle.std.specs.Option.{option_eq}
use Rattle.bayou_base.specs.declared.limits.TheConstants.{SERVERS}
use Rattle.bayou_base.specs.declared.server.ServerId.{ServerId}
use Rattle.bayou_greeting.specs.OriginDigests.{AreDigestsOf}
use Rattle.bayou_greeting.specs.declared.origin_digests.OriginDigests.{OriginDigests}
use Rattle.bayou_lang.specs.Laws.Equality.{server-ext}
use Rattle.bayou_lang.specs.declared.write.Write.{Write}
use Rattle.bayou_restore.specs.Restoring.{own_of}
use Rattle.bayou_wire.specs.Spelling.{write_bytes}
use Rattle.bayou_serve.specs.HeldDigests.{HasRead, TellsAt, TellsUpTo, digest_at}
use Rattle.bayou_serve.specs.declared.held_digests.HeldDigests.{HeldDigests}

set_same : {X : Type 0} (xs : List X) (at : ℕ) (x : X) → at < length xs → slice_get (slice_set xs at x) at ≡ Some x
set_same [] at x within = absurd (omega (arith, within))
set_same (y ∷ xs) zero x within = refl
set_same (y ∷ xs) (suc at) x within = set_same xs at x (omega (arith, within))

set_other : {X : Type 0} (xs : List X) (at other : ℕ) (x : X) → other ≢ at → slice_get (slice_set xs at x) other ≡ slice_get xs other
set_other [] at other x differ = refl
set_other (y ∷ xs) zero zero x differ = absurd (differ refl)
set_other (y ∷ xs) zero (suc other) x differ = refl
set_other (y ∷ xs) (suc at) zero x differ = refl
set_other (y ∷ xs) (suc at) (suc other) x differ = set_other xs at other x (λ same. differ (ap suc same))

-- what is found there is of the Writes that were read
pub read_at : (held : HeldDigests) (origin : ServerId) (at : ℕ) (none : OriginDigests) (writes : List (List ℕ)) → at ≡ origin.index → HasRead held origin writes
    → AreDigestsOf (get_or held.origins at none) writes
read_at held origin at none writes is_at has =
    subst (λ (digests : OriginDigests). AreDigestsOf digests writes) (sym (get_or_from_slice_get held.origins at has.digests none (ap (slice_get held.origins) is_at ∙ has.found))) has.are_of

-- of the one whose digests are others now
pub read_own : (old new : HeldDigests) (origin : ServerId) (at : ℕ) (digests : OriginDigests) (before writes : List (List ℕ)) → at ≡ origin.index → new.origins ≡ slice_set old.origins at digests
    → HasRead old origin before → AreDigestsOf digests writes → HasRead new origin writes
read_own old new origin at digests before writes is_at set has are_of =
    let within : at < length old.origins = subst (λ index. index < length old.origins) (sym is_at) (slice_get_within old.origins origin.index has.digests has.found) in
    record {
      digests = digests;
      found = ap (λ origins. slice_get origins origin.index) set ∙ ap (slice_get (slice_set old.origins at digests)) (sym is_at) ∙ set_same old.origins at digests within;
      are_of = are_of;
    }

-- and of each other
pub read_other : (old new : HeldDigests) (origin : ServerId) (at : ℕ) (digests : OriginDigests) (writes : List (List ℕ)) → origin.index ≢ at → new.origins ≡ slice_set old.origins at digests
    → HasRead old origin writes → HasRead new origin writes
read_other old new origin at digests writes differ set has = record {
  digests = has.digests;
  found = ap (λ origins. slice_get origins origin.index) set ∙ set_other old.origins at origin.index digests differ ∙ has.found;
  are_of = has.are_of;
}

-- where one that is refused more says of that one what it said before
pub read_still : (old new : HeldDigests) (origin : ServerId) (at : ℕ) (digests : OriginDigests) (writes : List (List ℕ)) → new.origins ≡ slice_set old.origins at digests
    → (at ≡ origin.index → AreDigestsOf digests writes) → HasRead old origin writes → HasRead new origin writes
read_still old new origin at digests writes set still has =
    elim (cases_eq origin.index at) as (λ _. HasRead new origin writes) [
      | inl same ↦ read_own old new origin at digests writes writes (sym same) set has (still (sym same))
      | inr differ ↦ read_other old new origin at digests writes differ set has
    ]

pub on_err : {T E P : Type 0} (r : Result T E) → P → OnErr r P
on_err (Ok value) p = tt
on_err (Err fault) p = p

none_some : {A : Type 0} (x : A) → None ≡ Some x → ⊥
none_some x is = coe 0 1 (i. IsNone (is i)) tt
  where
    IsNone : {A : Type 0} → Option A → Type 0
    IsNone None = Unit {0}
    IsNone (Some x) = ⊥

some_injective : {A : Type 0} (x y : A) → Some x ≡ Some y → x ≡ y
some_injective x y is = ap (value x) is
  where
    value : {A : Type 0} → A → Option A → A
    value x None = x
    value x (Some y) = y

all_one : (P : ℕ → Type 0) (x : ℕ) → P x → All P (x ∷ [])
all_one P x p zero none within = p
all_one P x p (suc at) none within = absurd (omega arith)

-- where a digest is told there are as many Writes, and it is theirs
pub told_at : (writes : List (List ℕ)) (count digest : ℕ) → TellsAt writes count (Some digest) → (count ≤ length writes) × (digest ≡ digest_at writes count)
told_at writes count digest tells =
    elim (cases_lt (length writes) count) as (λ _. (count ≤ length writes) × (digest ≡ digest_at writes count)) [
      | inl few ↦ absurd (none_some digest (sym (tells.beyond few)))
      | inr enough ↦ (enough, some_injective digest (digest_at writes count) (tells.held enough))
    ]

-- where none is told there are fewer
pub untold_at : (writes : List (List ℕ)) (count : ℕ) → TellsAt writes count None → length writes < count
untold_at writes count tells =
    elim (cases_lt (length writes) count) as (λ _. length writes < count) [
      | inl few ↦ few
      | inr enough ↦ absurd (none_some (digest_at writes count) (tells.held enough))
    ]

-- one more digest is told
pub one_more : (writes : List (List ℕ)) (counts : List ℕ) (at digest : ℕ) (told : List ℕ) → at < length counts → TellsAt writes (get_or counts at 0) (Some digest)
    → All (λ count. count ≤ length writes) (take at counts) → told ≡ map (digest_at writes) (take at counts)
    → All (λ count. count ≤ length writes) (take (at + 1) counts) × (told ++ digest ∷ [] ≡ map (digest_at writes) (take (at + 1) counts))
one_more writes counts at digest told within tells all is =
    let count = get_or counts at 0 in
    let (enough, digests) = told_at writes count digest tells in
    let suc_at : at + 1 ≡ suc at = omega arith in
    let more = ap (λ n. take n counts) suc_at ∙ take-suc counts at 0 within in (
      subst (All (λ count. count ≤ length writes)) (sym more) (All-append (λ count. count ≤ length writes) (take at counts) (count ∷ []) all (all_one (λ count. count ≤ length writes) count enough)),
      ap (λ before. before ++ digest ∷ []) is ∙ ap (λ one. map (digest_at writes) (take at counts) ++ one ∷ []) digests
          ∙ sym (map-append (digest_at writes) (take at counts) (count ∷ [])) ∙ ap (map (digest_at writes)) (sym more),
    )

-- of each origin nothing was read yet
pub nothing_read : (held : HeldDigests) (origin : ServerId) → length held.origins ≡ SERVERS → All (λ digests. AreDigestsOf digests []) held.origins → HasRead held origin []
nothing_read held origin long all =
    elim (slice_get_cases held.origins origin.index).1 as (λ _. HasRead held origin []) [
      | inl (digests, within, found, is) ↦ record { digests = digests; found = found; are_of = subst (λ (one : OriginDigests). AreDigestsOf one []) is (all origin.index digests within) }
      | inr (past, nothing) ↦ absurd (omega (arith, past, long, origin.in_range))
    ]

-- digests were told at each count
pub told_all : (writes : List (List ℕ)) (counts digests : List ℕ) (at : ℕ) → at ≡ length counts → All (λ count. count ≤ length writes) (take at counts)
    → digests ≡ map (digest_at writes) (take at counts) → TellsUpTo writes counts digests
told_all writes counts digests at is_at all is = record { number = at; within = omega (arith, is_at); held = all; told = is; stopped = nothing_there }
  where
    nothing_there : IfSome (slice_get counts at) (λ count. length writes < count)
    nothing_there = subst (λ (found : Option ℕ). IfSome found (λ count. length writes < count)) (sym (slice_get_past counts at (omega (arith, is_at)))) tt

-- or up to one that isn't held
pub told_some : (writes : List (List ℕ)) (counts digests : List ℕ) (at : ℕ) → at < length counts → TellsAt writes (get_or counts at 0) None
    → All (λ count. count ≤ length writes) (take at counts) → digests ≡ map (digest_at writes) (take at counts) → TellsUpTo writes counts digests
told_some writes counts digests at within tells all is = record { number = at; within = omega (arith, within); held = all; told = is; stopped = too_many }
  where
    too_many : IfSome (slice_get counts at) (λ count. length writes < count)
    too_many = subst (λ (found : Option ℕ). IfSome found (λ count. length writes < count)) (sym (slice_get-get_or counts at 0 within)) (untold_at writes (get_or counts at 0) tells)

-- one more Write is one more of its origin
own_more : (origin : ℕ) (writes : List Write) (write : Write) → write.wid.origin.index ≡ origin
    → map write_bytes (own_of origin (writes ++ write ∷ [])) ≡ map write_bytes (own_of origin writes) ++ write_bytes write ∷ []
own_more origin writes write own =
    let one : own_of origin (write ∷ []) ≡ write ∷ [] = search (rules, tests) in
    ap (map write_bytes) (filter-append (λ (w : Write). w.wid.origin.index == origin) writes (write ∷ []) ∙ ap (λ (last : List Write). own_of origin writes ++ last) one)
    ∙ map-append write_bytes (own_of origin writes) (write ∷ [])

-- and of no other
own_same : (origin : ℕ) (writes : List Write) (write : Write) → write.wid.origin.index ≢ origin → own_of origin (writes ++ write ∷ []) ≡ own_of origin writes
own_same origin writes write other =
    let none : own_of origin (write ∷ []) ≡ [] = search (rules, tests) in
    filter-append (λ (w : Write). w.wid.origin.index == origin) writes (write ∷ []) ∙ ap (λ (last : List Write). own_of origin writes ++ last) none ∙ append-nil (own_of origin writes)

-- of each origin its own Writes are read, where one more is
pub read_more : (old new : HeldDigests) (origin : ServerId) (before : List (List ℕ)) (writes : List Write) (write : Write)
    → HasRead old origin (before ++ map write_bytes (own_of origin.index writes))
    → ((texts : List (List ℕ)) → HasRead old write.wid.origin texts → HasRead new write.wid.origin (texts ++ write_bytes write ∷ []))
    → ((one : ServerId) (texts : List (List ℕ)) → (one.index ≡ write.wid.origin.index → ⊥) → HasRead old one texts → HasRead new one texts)
    → HasRead new origin (before ++ map write_bytes (own_of origin.index (writes ++ write ∷ [])))
read_more old new origin before writes write has own others =
    let read = before ++ map write_bytes (own_of origin.index writes) in
    elim (cases_eq origin.index write.wid.origin.index) as (λ _. HasRead new origin (before ++ map write_bytes (own_of origin.index (writes ++ write ∷ [])))) [
      | inl same ↦
          let is = server-ext origin write.wid.origin same in
          let whole : read ++ write_bytes write ∷ [] ≡ before ++ map write_bytes (own_of origin.index (writes ++ write ∷ [])) =
          append_assoc before (map write_bytes (own_of origin.index writes)) (write_bytes write ∷ []) ∙ ap (λ (texts : List (List ℕ)). before ++ texts) (sym (own_more origin.index writes write (sym same))) in
          subst (HasRead new origin) whole (subst (λ (one : ServerId). HasRead new one (read ++ write_bytes write ∷ [])) (sym is) (own read (subst (λ (one : ServerId). HasRead old one read) is has)))
      | inr differ ↦
          subst (λ (all : List Write). HasRead new origin (before ++ map write_bytes all)) (sym (own_same origin.index writes write (λ same. differ (sym same)))) (others origin read differ has)
    ]

-- one more digest is told that is the same
pub one_same : (writes : List (List ℕ)) (counts told : List ℕ) (at : ℕ) → at < length counts → at < length told → TellsAt writes (get_or counts at 0) (Some (get_or told at 0))
    → All (λ count. count ≤ length writes) (take at counts) → take at told ≡ map (digest_at writes) (take at counts)
    → All (λ count. count ≤ length writes) (take (at + 1) counts) × (take (at + 1) told ≡ map (digest_at writes) (take (at + 1) counts))
one_same writes counts told at within told_within tells all is =
    let (more, same) = one_more writes counts at (get_or told at 0) (take at told) within tells all is in
    let suc_at : at + 1 ≡ suc at = omega arith in
    (more, ap (λ n. take n told) suc_at ∙ take-suc told at 0 told_within ∙ same)

-- where so many are held, one that isn't told as it is differs
pub told_other : (writes : List (List ℕ)) (count digest : ℕ) (found : Option ℕ) → TellsAt writes count found → found ≢ Some digest → count ≤ length writes → digest ≢ digest_at writes count
told_other writes count digest found tells other enough same = other (tells.held enough ∙ ap (λ d. Some d) (sym same))

not_false : (told : Bool) → false ≡ not told → told ≡ true
not_false true is = refl
not_false false is = absurd cc

-- where `!=` denies it, what is found is that digest
pub found_same : (found : Option ℕ) (digest : ℕ) → false ≡ not (option_eq eqb found (Some digest)) → found ≡ Some digest
found_same None digest is = absurd cc
found_same (Some own) digest is = ap (λ d. Some d) (eqb-true own digest (not_false (eqb own digest) is))

-- and where it says so, it isn't
pub found_other : (found : Option ℕ) (digest : ℕ) → true ≡ not (option_eq eqb found (Some digest)) → found ≢ Some digest
found_other found digest other same =
    let is : true ≡ not true = other ∙ ap (λ (it : Option ℕ). not (option_eq eqb it (Some digest))) same ∙ ap not (eq-eqb digest digest refl) in
    absurd cc

-- what is there is taken, and no default
pub unwrap_told : (found : Option (List ℕ)) (none counts : List ℕ) → IsSome found → IfSome found (λ vector. vector ≡ counts) → unwrap_or found none ≡ counts
unwrap_told None none counts some value = absurd cc
unwrap_told (Some vector) none counts some value = value
