-- Lists of changes: a new one in the place of an older one of its key.
use Rattle.std.proofs.Common.{◌≡◌, ℕ, zero, suc, ◌+◌, ◌<◌, ◌≤◌, Bool, true, false, cond, not, List, [], ◌∷◌, length, drop, map, Contains, Option, ap, sym, ◌∙◌, refl, arith, Decides, get_or}
use Rattle.std.specs.List.{filter, flat_map, IsDistinct, AllByRecursion}
use Rattle.std.specs.Cmp.Lexicographic.{bytes_decides}
use Rattle.std.proofs.lemmas.List.{at_drop_more}
use Rattle.std.proofs.lemmas.List.Elements.{All-cons, All-filter, All-nil, Contains-append_left, Contains-append_right}
use Rattle.std.proofs.lemmas.List.Concat.{flat_map-cons}
use Rattle.std.proofs.lemmas.Map.Keys.{IsDistinct-cons, IsDistinct-head, IsDistinct-tail}
use Rattle.bayou_lang.specs.declared.change.Change.{Change}
use Rattle.bayou_base.specs.declared.value.Value.{Value}
use Rattle.bayou_lang.specs.Database.{Database, changed, same_key, value_at}
use Rattle.bayou_lang.specs.Laws.Database.{same_key-turned, same_database, value_at-changed}
use Rattle.bayou_lang.specs.declared.program.Alt.{Alt}
use Rattle.bayou_lang.specs.declared.program.Program.{Program}
use Rattle.bayou_lang.specs.Changes.{after_changes, most_ops, op_key, program_writes, ChangeOnly}

-- those of the other keys
abbrev pub others : List ℕ → List Change → List Change
others key changes = filter (λ change. not (same_key change.key key)) changes

same_key-decides : (a b : List ℕ) → Decides (same_key a b) (a ≡ b)
same_key-decides = bytes_decides

same_key-sym : (a b : List ℕ) → same_key a b ≡ false → same_key b a ≡ false
same_key-sym a b h = sym (same_key-turned a b) ∙ h

-- what the key has after the changes, where it had this before
abbrev pub value_after : List Change → List ℕ → Option Value → Option Value
value_after [] key before = before
value_after (change ∷ changes) key before = cond (same_key change.key key) change.value (value_after changes key before)

pub value_at-after_changes : (changes : List Change) (database : Database) (key : List ℕ) → value_at (after_changes changes database) key ≡ value_after changes key (value_at database key)
value_at-after_changes [] database key = refl
value_at-after_changes (change ∷ changes) database key =
    value_at-changed change.key change.value (after_changes changes database) key
    ∙ ap (cond (same_key change.key key) change.value) (value_at-after_changes changes database key)

-- the first of the changes that is of the key counts
pub value_after-at : (changes : List Change) (index : ℕ) (change : Change) (key : List ℕ) (before : Option Value) → index < length changes → change ≡ get_or changes index change → same_key change.key key ≡ true → value_after (drop index changes) key before ≡ change.value
value_after-at changes index change key before within is same =
    at_drop_more (λ left. value_after left key before) changes index change within
    ∙ ap (λ (first : Change). cond (same_key first.key key) first.value (value_after (drop (index + 1) changes) key before)) (sym is)
    ∙ ap (λ t. cond t change.value (value_after (drop (index + 1) changes) key before)) same

-- at another key the changes of that key don't count
value_after-others : (key : List ℕ) (changes : List Change) (other : List ℕ) (before : Option Value) → same_key key other ≡ false → value_after (others key changes) other before ≡ value_after changes other before
value_after-others key [] other before differs = refl
value_after-others key (change ∷ changes) other before differs =
    let rest = value_after-others key changes other before differs in
    elim (same_key change.key key) as (λ t. same_key change.key key ≡ t → value_after (cond (not t) (change ∷ others key changes) (others key changes)) other before ≡ cond (same_key change.key other) change.value (value_after changes other before)) [
      | true ↦ λ e.
          let one : change.key ≡ key = (same_key-decides change.key key).0 e in
          let apart : same_key change.key other ≡ false = ap (λ k. same_key k other) one ∙ differs in
          rest ∙ sym (ap (λ t. cond t change.value (value_after changes other before)) apart)
      | false ↦ λ e. ap (cond (same_key change.key other) change.value) rest
    ] refl

-- a change put first, in the place of an older one of its key, is the change of the database
pub after_changes-set : (change : Change) (changes : List Change) (database : Database) → after_changes (change ∷ others change.key changes) database ≡ changed change.key change.value (after_changes changes database)
after_changes-set change changes database =
    let set = change ∷ others change.key changes in
    let after = changed change.key change.value (after_changes changes database) in
    let at : (other : List ℕ) → value_after set other (value_at database other) ≡ cond (same_key change.key other) change.value (value_after changes other (value_at database other)) = λ other.
    elim (same_key change.key other) as (λ t. same_key change.key other ≡ t → cond t change.value (value_after (others change.key changes) other (value_at database other)) ≡ cond t change.value (value_after changes other (value_at database other))) [
      | true ↦ λ e. refl
      | false ↦ λ e. value_after-others change.key changes other (value_at database other) e
    ] refl in
    same_database (after_changes set database) after (λ other.
    value_at-after_changes set database other ∙ at other ∙ sym (value_at-after_changes (change ∷ changes) database other))

not_true : (b : Bool) → not b ≡ true → b ≡ false
not_true true h = sym h
not_true false h = refl

module _ (key : List ℕ) (P : List ℕ → Type 0) where
  -- what holds of all keys holds of those of the other keys
  others-all : (changes : List Change) → AllByRecursion P (map (λ change. change.key) changes) → AllByRecursion P (map (λ change. change.key) (others key changes))
  others-all [] h = h
  others-all (change ∷ changes) h =
      elim (same_key change.key key) as (λ t. AllByRecursion P (map (λ change. change.key) (cond (not t) (change ∷ others key changes) (others key changes)))) [
        | true ↦ others-all changes h.1
        | false ↦ (h.0, others-all changes h.1)
      ]

-- none of the others has the key
others-apart : (key : List ℕ) (changes : List Change) → AllByRecursion (λ other. same_key key other ≡ false) (map (λ change. change.key) (others key changes))
others-apart key [] = tt
others-apart key (change ∷ changes) =
    elim (same_key change.key key) as (λ t. same_key change.key key ≡ t → AllByRecursion (λ other. same_key key other ≡ false) (map (λ change. change.key) (cond (not t) (change ∷ others key changes) (others key changes)))) [
      | true ↦ λ e. others-apart key changes
      | false ↦ λ e. (same_key-sym change.key key e, others-apart key changes)
    ] refl

others-once : (key : List ℕ) (changes : List Change) → IsDistinct same_key (map (λ change. change.key) changes) → IsDistinct same_key (map (λ change. change.key) (others key changes))
others-once key [] h = h
others-once key (change ∷ changes) h =
    let tail = others-once key changes (IsDistinct-tail same_key change.key (map (λ change. change.key) changes) h) in
    let head = others-all key (λ other. same_key change.key other ≡ false) changes (IsDistinct-head same_key change.key (map (λ change. change.key) changes) h) in
    elim (same_key change.key key) as (λ t. IsDistinct same_key (map (λ change. change.key) (cond (not t) (change ∷ others key changes) (others key changes)))) [
      | true ↦ tail
      | false ↦ IsDistinct-cons same_key change.key (map (λ change. change.key) (others key changes)) head tail
    ]

-- no key is changed twice, and each is one of the keys, with the new change too
pub ChangeOnly-set : (keys : List (List ℕ)) (change : Change) (changes : List Change) → Contains keys change.key → ChangeOnly keys changes → ChangeOnly keys (change ∷ others change.key changes)
ChangeOnly-set keys change changes here h = record {
  once = IsDistinct-cons same_key change.key (map (λ change. change.key) (others change.key changes)) (others-apart change.key changes) (others-once change.key changes h.once);
  among = All-cons (λ change. Contains keys change.key) change (others change.key changes) here (All-filter (λ older. not (same_key older.key change.key)) (λ change. Contains keys change.key) changes h.among);
}

pub ChangeOnly-none : (keys : List (List ℕ)) → ChangeOnly keys []
unfolding IsDistinct
ChangeOnly-none keys = record { once = tt; among = All-nil (λ change. Contains keys change.key) }

-- of more keys each is one too
pub ChangeOnly-wider : (keys wider : List (List ℕ)) (changes : List Change) → ((key : List ℕ) → Contains keys key → Contains wider key) → ChangeOnly keys changes → ChangeOnly wider changes
ChangeOnly-wider keys wider changes grow h = record { once = h.once; among = λ k d within. grow _ (h.among k d within) }

-- what one of the lists has, all of them have together
Contains-flat_map : {X : Type 0} (f : X → List (List ℕ)) (xs : List X) (index : ℕ) (x : X) (key : List ℕ) → index < length xs → x ≡ get_or xs index x → Contains (f x) key → Contains (flat_map f xs) key
Contains-flat_map f [] index x key within is h = absurd (omega arith)
Contains-flat_map f (y ∷ ys) zero x key within is h =
    rw flat_map-cons (Contains-append_left (f y) (flat_map f ys) key (rw is at h))
Contains-flat_map f (y ∷ ys) (suc index) x key within is h =
    rw flat_map-cons (Contains-append_right (f y) (flat_map f ys) key (Contains-flat_map f ys index x key (omega arith) is h))

-- the changes of an alternative are changes of the merge procedure
pub ChangeOnly-alternative : (alternatives : List Alt) (index : ℕ) (alternative : Alt) (changes : List Change) → index < length alternatives → alternative ≡ get_or alternatives index alternative → ChangeOnly (map op_key alternative.ops.items) changes → ChangeOnly (flat_map (λ alt. map op_key alt.ops.items) alternatives) changes
ChangeOnly-alternative alternatives index alternative changes within is =
    ChangeOnly-wider _ _ changes (λ key. Contains-flat_map (λ (alt : Alt). map op_key alt.ops.items) alternatives index alternative key within is)

-- the changes of the merge procedure, and those of the update, are changes of the program
pub ChangeOnly-merge : (program : Program) (changes : List Change) → ChangeOnly (flat_map (λ alt. map op_key alt.ops.items) program.merge.items) changes → ChangeOnly (program_writes program) changes
ChangeOnly-merge program changes = ChangeOnly-wider _ _ changes (λ key. Contains-append_right (map op_key program.update.items) _ key)

pub ChangeOnly-update : (program : Program) (changes : List Change) → ChangeOnly (map op_key program.update.items) changes → ChangeOnly (program_writes program) changes
ChangeOnly-update program changes = ChangeOnly-wider _ _ changes (λ key. Contains-append_left (map op_key program.update.items) _ key)

-- no alternative has more ops than the greatest number of them
pub most_ops-one : (alternatives : List Alt) (index : ℕ) (alternative : Alt) → index < length alternatives → alternative ≡ get_or alternatives index alternative → length alternative.ops.items ≤ most_ops alternatives
most_ops-one [] index alternative within is = absurd (omega arith)
most_ops-one (first ∷ alternatives) zero alternative within is =
    let same : length alternative.ops.items ≡ length first.ops.items = ap (λ (alt : Alt). length alt.ops.items) is in
    omega (arith, same)
most_ops-one (first ∷ alternatives) (suc index) alternative within is =
    omega (arith, most_ops-one alternatives index alternative (omega arith) is)
