-- The order of a script's lines: a session is opened once, before it is used, and asks for what that line says.
use Rattle.std.proofs.Common.{◌≡◌, inl, inr, ◌⊎◌, ℕ, ◌+◌, ◌<◌, ◌≤◌, Bool, true, false, cond, ◌&&◌, ◌||◌, ◌==◌, List, [], ◌∷◌, ◌++◌, None, Some, IsTrue, length, nat_le, ap, ◌∙◌, refl, subst, arith}
use Rattle.std.proofs.lemmas.Bool.Decides.{nat_tests}
use Rattle.std.proofs.lemmas.List.{length_push}
use Rattle.std.proofs.lemmas.List.Folds.{list_any-append}
use Rattle.bayou_base.specs.declared.asks.Asks.{Asks}
use Rattle.bayou_base.specs.declared.limits.TheConstants.{MAX_LINES}
use Rattle.bayou_text.specs.Said.{Said, servers, session, write, read, again, drop, log, fuse, lose, reopen, restart, pull, resend, totals, judge, survey, book, phase, entry, held}
use Rattle.bayou_script.specs.Order.{InOrderBy}
use Rattle.bayou_script.specs.Script.{has_place, is_open, opens, script_order}
use Rattle.bayou_runs.specs.Runs.{asks_in, asks_said, first_of}
use Rattle.bayou_runs.proofs.Lists.{none_behind}

-- ---- the last of a list

head_of : {X : Type 0} (x y : X) (xs ys : List X) → x ∷ xs ≡ y ∷ ys → x ≡ y
head_of x y xs ys same = let one : x ≡ y = cc in one

tail_of : {X : Type 0} (x y : X) (xs ys : List X) → x ∷ xs ≡ y ∷ ys → xs ≡ ys
tail_of x y xs ys same = let one : xs ≡ ys = cc in one

-- a list with one more is split at its end, or before that
pub split_push : {X : Type 0} (all : List X) (last : X) (front : List X) (x : X) (after : List X) → all ++ last ∷ [] ≡ front ++ x ∷ after
    → ((all ≡ front) × (last ≡ x)) ⊎ ((rest : List X) × (all ≡ front ++ x ∷ rest))
split_push [] last [] x after same = inl (refl, head_of last x [] after same)
split_push [] last (first ∷ front) x after same = none_behind front after x (tail_of last first [] (front ++ x ∷ after) same)
split_push (one ∷ all) last [] x after same = inr (all, ap (λ y. y ∷ all) (head_of one x (all ++ last ∷ []) after same))
split_push {X} (one ∷ all) last (first ∷ front) x after same =
    let head = head_of one first (all ++ last ∷ []) (front ++ x ∷ after) same in
    elim (split_push all last front x after (tail_of one first (all ++ last ∷ []) (front ++ x ∷ after) same))
    as (λ _. ((one ∷ all ≡ first ∷ front) × (last ≡ x)) ⊎ ((rest : List X) × (one ∷ all ≡ first ∷ (front ++ x ∷ rest)))) [
      | inl (here, is) ↦ inl (ap (λ y. y ∷ all) head ∙ ap (λ ys. first ∷ ys) here, is)
      | inr (rest, here) ↦ inr (rest, ap (λ y. y ∷ all) head ∙ ap (λ ys. first ∷ ys) here)
    ]

-- ---- each line is in its place

pub record IsPlaced (front : List Said) (said : Said) : Type 0 where
  pub place : has_place front said ≡ true
  pub few : length front < MAX_LINES

both_true : (a b : Bool) → IsTrue (a && b) → (a ≡ true) × (b ≡ true)
both_true true true is = (refl, refl)
both_true true false is = absurd (cc)
both_true false b is = absurd (cc)

pub placed : (lines : List (List ℕ)) (all : List Said) → InOrderBy script_order lines all → (length all ≤ length lines)
    × ((front : List Said) (said : Said) (after : List Said) → all ≡ front ++ said ∷ after → IsPlaced front said)
placed lines all InOrderBy.nothing = (omega arith, λ front said after same. none_behind front after said same)
placed lines all (InOrderBy.skipped before front order) =
    let rest = placed before front order in
    (omega (arith, rest.0, length_push before []), rest.1)
placed lines all (InOrderBy.added before front line said order some spells is) =
    let rest = placed before front order in
    let parts = both_true (nat_le (length before + 1) MAX_LINES) (has_place front said) is in
    let few : length before + 1 ≤ MAX_LINES = grind (arith, nat_tests, parts.0) in (
      omega (arith, rest.0, length_push before line, length_push front said),
      λ first one after same. elim (split_push front said first one after same) as (λ _. IsPlaced first one) [
        | inl (here, it) ↦ subst (λ list. IsPlaced list one) here (subst (IsPlaced front) it (record { place = parts.1; few = omega (arith, few, rest.0) }))
        | inr (more, here) ↦ rest.1 first one more here
      ],
    )

-- ---- what a session asks for

-- no line before opened the session
pub asks_of_first : (front after : List Said) (who : ℕ) (asks : Asks) → is_open who front ≡ false → asks_in (front ++ session who asks ∷ after) who ≡ Some asks
asks_of_first [] after who asks none =
    let is : (who == who) ≡ true = grind (arith, nat_tests) in
    ap (λ t. first_of (cond t (Some asks) None) (asks_in after who)) is
asks_of_first (said ∷ front) after who asks none =
    let parts = neither (opens who said) (is_open who front) none in
    ap (λ o. first_of o (asks_in (front ++ session who asks ∷ after) who)) (asks_none said parts.0) ∙ asks_of_first front after who asks parts.1
  where
    neither : (a b : Bool) → (a || b) ≡ false → (a ≡ false) × (b ≡ false)
    neither true b is = absurd (cc)
    neither false b is = (refl, is)

    named : (a b : Bool) → (a || b) ≡ false → a ≡ false
    named true b is = absurd (cc)
    named false b is = refl

    asks_none : (said : Said) → opens who said ≡ false → asks_said who said ≡ None
    asks_none (servers count limit) none = refl
    asks_none (session name wants) none = ap (λ t. cond t (Some wants) None) (named (name == who) false none)
    asks_none (write other place program) none = refl
    asks_none (read other place key) none = refl
    asks_none (again other) none = refl
    asks_none (drop other) none = refl
    asks_none (log place) none = refl
    asks_none (fuse place calls kept) none = refl
    asks_none (lose place count) none = refl
    asks_none (reopen place) none = refl
    asks_none (restart place) none = refl
    asks_none (pull to source cut) none = refl
    asks_none (resend to source) none = refl
    asks_none totals none = refl
    asks_none judge none = refl
    asks_none survey none = refl
    asks_none book none = refl
    asks_none phase none = refl
    asks_none (entry told counts) none = refl
    asks_none (held place item counts) none = refl

-- a line behind these opens more, or what was opened_there
pub opened_behind : (who : ℕ) (front : List Said) (said : Said) → is_open who (front ++ said ∷ []) ≡ (is_open who front || (opens who said || false))
opened_behind who front said = list_any-append (opens who) front (said ∷ [])
