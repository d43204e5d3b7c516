-- One text behind another.
use Rattle.std.proofs.Common.{◌≡◌, ◌≤◌, ◌<◌, ◌⊎◌, ◌∙◌, ◌++◌, ℕ, zero, suc, List, [], Result, OnOk, inl, inr, length, get_or, ap, sym, subst, arith, append_assoc}
use Rattle.std.proofs.lemmas.Bool.{cases_lt}
use Rattle.std.specs.Borrow.{Bor}
use Rattle.std.proofs.lemmas.List.{append-nil, get_or-map}
use Rattle.std.proofs.lemmas.Result.{on_ok_weaker}
use Rattle.bayou_lang.specs.declared.write.Write.{Write}
use Rattle.bayou_judge.specs.History.{dump_of, lent_lists}
use Rattle.bayou_objects.specs.Objects.{dumps_json, held_json}
use Rattle.bayou_print.specs.declared.fault.RunFault.{RunFault}
use Rattle.bayou_print.specs.Waiting.{Gathers, Stage}
use Rattle.bayou_print.specs.Laws.Gathered.{Gathers-less, Gathers-trans}

-- the second text is whole, or a part of it is missing
pub both_whole : (a b c : Stage) (first second : List ℕ) (result : Result (Unit {0}) RunFault) → Gathers a b first [] → OnOk result (Gathers b c second [])
    → OnOk result (Gathers a c (first ++ second) [])
both_whole a b c first second result one two = on_ok_weaker result (Gathers-trans a b c first second [] one) two

pub second_part : (a b c : Stage) (first second : List ℕ) → Gathers a b first [] → (missing : List ℕ) × Gathers b c second missing
    → (missing : List ℕ) × Gathers a c (first ++ second) missing
second_part a b c first second one (missing, two) = (missing, Gathers-trans a b c first second missing one two)

-- the second text is missing, and a part of the first
pub first_part : (a b : Stage) (first second : List ℕ) → (missing : List ℕ) × Gathers a b first missing → (missing : List ℕ) × Gathers a b (first ++ second) missing
first_part a b first second (missing, one) = (missing ++ second, Gathers-less a b first second missing one)

-- what fewer servers hold is a front of what more hold
split_at : (count : ℕ) (dumps : List (List Write)) (n m : ℕ) → m ≤ suc n → (m < suc n) ⊎ (suc n ≤ m)
    → (m ≤ n → (rest : List ℕ) × (dumps_json count dumps n ≡ dumps_json count dumps m ++ rest))
    → (rest : List ℕ) × (dumps_json count dumps (suc n) ≡ dumps_json count dumps m ++ rest)
split_at count dumps n m most (inl fewer) before =
    let (rest, is) = before (omega (arith, fewer)) in (
      rest ++ held_json count n (dump_of dumps n),
      ap (λ text. text ++ held_json count n (dump_of dumps n)) is ∙ append_assoc (dumps_json count dumps m) rest (held_json count n (dump_of dumps n)),
    )
split_at count dumps n m most (inr all) before =
    let same : suc n ≡ m = omega (arith, most, all) in
    ([], ap (dumps_json count dumps) same ∙ sym (append-nil (dumps_json count dumps m)))

pub dumps_behind : (count : ℕ) (dumps : List (List Write)) (n m : ℕ) → m ≤ n → (rest : List ℕ) × (dumps_json count dumps n ≡ dumps_json count dumps m ++ rest)
dumps_behind count dumps zero m most =
    let same : 0 ≡ m = omega (arith, most) in ([], ap (dumps_json count dumps) same ∙ sym (append-nil (dumps_json count dumps m)))
dumps_behind count dumps (suc n) m most = split_at count dumps n m most (cases_lt m (suc n)) (λ fewer. dumps_behind count dumps n m fewer)

-- a part of what one server holds is missing, and what those behind it hold
pub dumps_part : (count : ℕ) (dumps : List (List Write)) (all at : ℕ) (a b c : Stage) (text missing : List ℕ) → at < all → Gathers a b (dumps_json count dumps at) []
    → text ≡ held_json count at (dump_of dumps at) → Gathers b c text missing → (missing : List ℕ) × Gathers a c (dumps_json count dumps all) missing
dumps_part count dumps all at a b c text missing within before is part =
    let (rest, split) = dumps_behind count dumps all (suc at) (omega (arith, within)) in (
      missing ++ rest,
      subst (λ whole. Gathers a c whole (missing ++ rest)) (sym split)
          (Gathers-less a c (dumps_json count dumps (suc at)) rest missing
          (Gathers-trans a b c (dumps_json count dumps at) (held_json count at (dump_of dumps at)) missing before (subst (λ held. Gathers b c held missing) is part))),
    )

-- what one server more holds was written
pub dumps_more : (count : ℕ) (dumps : List (List Write)) (at : ℕ) (a b c : Stage) (text : List ℕ) → Gathers a b (dumps_json count dumps at) []
    → text ≡ held_json count at (dump_of dumps at) → Gathers b c text [] → Gathers a c (dumps_json count dumps (suc at)) []
dumps_more count dumps at a b c text before is whole =
    Gathers-trans a b c (dumps_json count dumps at) (held_json count at (dump_of dumps at)) [] before (subst (λ held. Gathers b c held []) is whole)

-- the dump that is found at its place
pub dump_at : (dumps : List (Bor (List Write))) (at : ℕ) (dump : Bor (List Write)) → at < length dumps → dump ≡ get_or dumps at dump → dump.now ≡ dump_of (lent_lists dumps) at
dump_at dumps at dump within found =
    ap (λ (d : Bor (List Write)). d.now) found ∙ sym (get_or-map (λ (d : Bor (List Write)). d.now) dumps at dump [] within)
