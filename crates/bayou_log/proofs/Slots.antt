-- Look-ups in a database's slots, what a change of one slot does, and room for keys.
use Rattle.std.proofs.Common.{◌≡◌, ℕ, ◌+◌, ◌<◌, ◌≤◌, ◌++◌, length, take, get_or, subst, Bool, true, false, cond, List, [], ◌∷◌, Option, None, Some, map, ap, sym, ◌∙◌, refl, option_and_then, is_some, IsTrue, ◌||◌}
use mathlib.Core.Path.{fun_ext}
use Rattle.std.specs.List.{list_any, flat_map}
use Rattle.std.specs.Map.{lookup, keys_of}
use Rattle.std.specs.BTreeMap.{is_at}
use Rattle.std.specs.Ordering.{nat_cmp}
use Rattle.std.specs.Cmp.Lexicographic.{slice_cmp, bytes_decides}
use Rattle.std.proofs.lemmas.List.{take_more, take_all, flat_map_more}
use Rattle.std.proofs.lemmas.List.Elements.{All-append, All-weaker}
use Rattle.std.proofs.lemmas.Map.Text.{is_eq-slice_cmp}
use Rattle.bayou_base.specs.declared.value.Value.{Value}
use Rattle.bayou_lang.specs.Database.{Database, same_key, changed, empty, value_at}
use Rattle.bayou_lang.specs.Laws.Database.{changed-same, same_key-turned, same_database, value_at-changed, value_at-empty}
use Rattle.bayou_lang.specs.declared.program.Op.{Op}
use Rattle.bayou_lang.specs.declared.change.Change.{Change}
use Rattle.bayou_lang.specs.Changes.{op_key, after_changes}
use Rattle.bayou_log.specs.Db.{Slots, database_of, room, has_room, HasRoomAt, KeepsRoom}

-- the test by which a map looks a key up
abbrev pub map_test : List ℕ → List ℕ → Bool
map_test key = is_at (slice_cmp nat_cmp key)

pub map_test_is_same_key : (key : List ℕ) → map_test key ≡ same_key key
map_test_is_same_key key = fun_ext (λ other. is_eq-slice_cmp key other)

-- the slot of a key, if there is one
abbrev pub slot_at : Slots → List ℕ → Option (Option Value)
slot_at slots key = lookup (map_test key) slots

abbrev pub value_in : Option (Option Value) → Option Value
value_in slot = option_and_then (λ value. value) slot

pub database_of-slot_at : (slots : Slots) (key : List ℕ) → value_at (database_of slots) key ≡ value_in (slot_at slots key)
database_of-slot_at [] key = value_at-empty key
database_of-slot_at (slot ∷ slots) key =
    value_at-changed slot.0 slot.1 (database_of slots) key
    ∙ ap (cond (same_key slot.0 key) slot.1) (database_of-slot_at slots key)
    ∙ ap (λ same. cond same slot.1 (value_in (slot_at slots key))) (same_key-turned slot.0 key ∙ ap (λ test. test slot.0) (sym (map_test_is_same_key key)))
    ∙ elim (map_test key slot.0) as (λ same. cond same slot.1 (value_in (slot_at slots key)) ≡ value_in (cond same (Some slot.1) (slot_at slots key))) [
      | true ↦ refl
      | false ↦ refl
    ]

has_room-lookup : (test : List ℕ → Bool) (slots : Slots) → list_any test (keys_of slots) ≡ is_some (lookup test slots)
has_room-lookup test [] = refl
has_room-lookup test (slot ∷ slots) =
    elim (test slot.0) as (λ t. t || list_any test (keys_of slots) ≡ is_some (cond t (Some slot.1) (lookup test slots))) [
      | true ↦ refl
      | false ↦ has_room-lookup test slots
    ]

pub has_room-slot_at : (slots : Slots) (key : List ℕ) → has_room (room slots) key ≡ is_some (slot_at slots key)
has_room-slot_at slots key =
    has_room-lookup (same_key key) slots ∙ ap (λ test. is_some (lookup test slots)) (sym (map_test_is_same_key key))

-- the new slots have this value at the key, and at each other key what the old ones have
abbrev pub SetsSlot : Slots → List ℕ → Option Value → Slots → Type 0
SetsSlot old key value new = (other : List ℕ) → slot_at new other ≡ cond (map_test key other) (Some value) (slot_at old other)

pub database_of-set : (old new : Slots) (key : List ℕ) (value : Option Value) → SetsSlot old key value new → database_of new ≡ changed key value (database_of old)
database_of-set old new key value sets = same_database (database_of new) (changed key value (database_of old)) (λ other.
    database_of-slot_at new other ∙ ap value_in (sets other)
    ∙ ap (λ test. value_in (cond (test other) (Some value) (slot_at old other))) (map_test_is_same_key key)
    ∙ elim (same_key key other) as (λ same. value_in (cond same (Some value) (slot_at old other)) ≡ cond same value (value_at (database_of old) other)) [
      | true ↦ refl
      | false ↦ sym (database_of-slot_at old other)
    ]
    ∙ sym (value_at-changed key value (database_of old) other))

-- the new slots have no slot of the key, and at each other key what the old ones have
abbrev pub RemovesSlot : Slots → List ℕ → Slots → Type 0
RemovesSlot old key new = (other : List ℕ) → slot_at new other ≡ cond (map_test key other) None (slot_at old other)

pub database_of-removed : (old new : Slots) (key : List ℕ) → RemovesSlot old key new → database_of new ≡ changed key None (database_of old)
database_of-removed old new key removes = same_database (database_of new) (changed key None (database_of old)) (λ other.
    database_of-slot_at new other ∙ ap value_in (removes other)
    ∙ ap (λ test. value_in (cond (test other) None (slot_at old other))) (map_test_is_same_key key)
    ∙ elim (same_key key other) as (λ same. value_in (cond same None (slot_at old other)) ≡ cond same None (value_at (database_of old) other)) [
      | true ↦ refl
      | false ↦ sym (database_of-slot_at old other)
    ]
    ∙ sym (value_at-changed key None (database_of old) other))

-- there is room for what there was room for, and for the key
pub has_room-set : (old new : Slots) (key : List ℕ) (value : Option Value) → SetsSlot old key value new → (other : List ℕ) → IsTrue (has_room (room old) other) → IsTrue (has_room (room new) other)
has_room-set old new key value sets other had =
    let before : is_some (slot_at old other) ≡ true = sym (has_room-slot_at old other) ∙ had in
    has_room-slot_at new other ∙ ap is_some (sets other)
    ∙ elim (map_test key other) as (λ t. is_some (cond t (Some value) (slot_at old other)) ≡ true) [ true ↦ refl | false ↦ before ]

pub has_room-set_same : (old new : Slots) (key : List ℕ) (value : Option Value) → SetsSlot old key value new → IsTrue (has_room (room new) key)
has_room-set_same old new key value sets =
    let same : map_test key key ≡ true = ap (λ test. test key) (map_test_is_same_key key) ∙ (bytes_decides key key).1 refl in
    has_room-slot_at new key ∙ ap is_some (sets key) ∙ ap (λ t. is_some (cond t (Some value) (slot_at old key))) same

-- a key that has no slot has nothing
pub database_of-no_slot : (slots : Slots) (key : List ℕ) → is_some (slot_at slots key) ≡ false → value_at (database_of slots) key ≡ None
database_of-no_slot slots key none =
    database_of-slot_at slots key
    ∙ elim (slot_at slots key) as (λ slot. is_some slot ≡ false → value_in slot ≡ None) [ Some value ↦ λ e. cc | None ↦ λ e. refl ] none

-- the slots with every value taken away
pub database_of-emptied : (slots : Slots) → database_of (map (λ slot. (slot.0, None)) slots) ≡ empty
database_of-emptied [] = refl
database_of-emptied (slot ∷ slots) = ap (changed slot.0 None) (database_of-emptied slots) ∙ changed-same slot.0 None empty (value_at-empty slot.0)

pub room-emptied : (slots : Slots) → room (map (λ slot. (slot.0, None)) slots) ≡ room slots
room-emptied [] = refl
room-emptied (slot ∷ slots) = ap (λ keys. slot.0 ∷ keys) (room-emptied slots)

-- room for more keys, beside those that there was room for
pub HasRoomAt-append : (old new xs ys : List (List ℕ)) → KeepsRoom old new → HasRoomAt old xs → HasRoomAt new ys → HasRoomAt new (xs ++ ys)
HasRoomAt-append old new xs ys keeps had more =
    All-append (λ key. IsTrue (has_room new key)) xs ys
    (All-weaker (λ key. IsTrue (has_room old key)) (λ key. IsTrue (has_room new key)) keeps xs had) more

module _ {X : Type 0} (keys : X → List (List ℕ)) where
  -- the keys of one more item
  flat_map-take_more : (items : List X) (i : ℕ) (item : X) → i < length items → item ≡ get_or items i item → flat_map keys (take (i + 1) items) ≡ flat_map keys (take i items) ++ keys item
  flat_map-take_more items i item within is =
      ap (flat_map keys) (take_more items i item within ∙ ap (λ x. take i items ++ x ∷ []) (sym is))
      ∙ sym (flat_map_more keys [] (take i items) item)

  pub HasRoomAt-more : (old new : List (List ℕ)) (items : List X) (i : ℕ) (item : X) → i < length items → item ≡ get_or items i item → KeepsRoom old new → HasRoomAt old (flat_map keys (take i items)) → HasRoomAt new (keys item) → HasRoomAt new (flat_map keys (take (i + 1) items))
  HasRoomAt-more old new items i item within is keeps had more =
      subst (HasRoomAt new) (sym (flat_map-take_more items i item within is))
      (HasRoomAt-append old new (flat_map keys (take i items)) (keys item) keeps had more)

  pub HasRoomAt-all : (new : List (List ℕ)) (items : List X) (i : ℕ) → length items ≤ i → HasRoomAt new (flat_map keys (take i items)) → HasRoomAt new (flat_map keys items)
  HasRoomAt-all new items i past had = subst (λ list. HasRoomAt new (flat_map keys list)) (take_all i items past) had

-- an op's key as a list
pub op_keys : (ops : List Op) → flat_map (λ op. op_key op ∷ []) ops ≡ map op_key ops
op_keys [] = refl
op_keys (op ∷ ops) = ap (λ keys. op_key op ∷ keys) (op_keys ops)

-- where there is room for a key, it has a slot
pub room_has_slot : (slots : Slots) (key : List ℕ) → IsTrue (has_room (room slots) key) → None ≡ slot_at slots key → ⊥
room_has_slot slots key here none =
    let some : is_some (slot_at slots key) ≡ true = sym (has_room-slot_at slots key) ∙ here in
    let gone : false ≡ is_some (slot_at slots key) = ap is_some none in
    let both : false ≡ true = gone ∙ some in
    cc

-- the change at the end of a list is made first
pub after_changes-push : (changes : List Change) (change : Change) (before : Database) → after_changes (changes ++ change ∷ []) before ≡ after_changes changes (changed change.key change.value before)
after_changes-push [] change before = refl
after_changes-push (first ∷ changes) change before = ap (changed first.key first.value) (after_changes-push changes change before)

-- a change is taken back by the value that the key had
pub changed-back : (key : List ℕ) (value : Option Value) (before : Database) → changed key (value_at before key) (changed key value before) ≡ before
changed-back key value before = same_database _ before (λ other.
    value_at-changed key (value_at before key) (changed key value before) other
    ∙ elim (same_key key other) as (λ same. same_key key other ≡ same → cond same (value_at before key) (value_at (changed key value before) other) ≡ value_at before other) [
      | true ↦ λ is. ap (value_at before) ((bytes_decides key other).0 is)
      | false ↦ λ isnt. value_at-changed key value before other ∙ ap (λ same. cond same value (value_at before other)) isnt
    ] refl)
