-- The keys that are present stay those of the database as it changes.
use Rattle.std.proofs.Common.{◌≡◌, ℕ, Bool, true, false, cond, ◌&&◌, List, Option, None, Some, is_some, ap, sym, ◌∙◌, refl, arith}
use Rattle.std.specs.Cmp.Lexicographic.{bytes_decides}
use Rattle.bayou_base.specs.declared.value.Value.{Value}
use Rattle.bayou_lang.specs.Database.{Database, begins_with, changed, number_with, same_key, value_at}
use Rattle.bayou_lang.specs.Laws.Database.{number_with-changed, value_at-changed}
use Rattle.bayou_log.specs.Db.{Slots, database_of}
use Rattle.bayou_log.specs.Inner.Counting.{HasKeysOf, Notes, Shows}

pub HasKeysOf-own : (slots : Slots) → HasKeysOf slots (database_of slots)
HasKeysOf-own slots = record { present = λ key. refl; counted = λ prefix. refl }

-- a key that comes or goes does so in both
pub HasKeysOf-noted : (key : List ℕ) (is_there : Bool) (old new : Slots) (database : Database) (value : Option Value) → is_some value ≡ is_there → Notes key is_there old new → HasKeysOf old database → HasKeysOf new (changed key value database)
HasKeysOf-noted key is_there old new database value told notes had =
    let same : is_some notes.value ≡ is_some value = notes.told ∙ sym told in
    record {
      present = λ other.
          ap (λ d. is_some (value_at d other)) notes.made
          ∙ ap is_some (value_at-changed key notes.value (database_of old) other)
          ∙ elim (same_key key other) as (λ s. is_some (cond s notes.value (value_at (database_of old) other)) ≡ is_some (cond s value (value_at database other))) [
            | true ↦ same
            | false ↦ had.present other
          ]
          ∙ sym (ap is_some (value_at-changed key value database other));
      counted = λ prefix.
          let one : Bool → ℕ = λ b. cond {A = ℕ} (begins_with prefix key && b) 1 0 in
          omega (arith, ap (number_with prefix) notes.made, number_with-changed prefix key notes.value (database_of old), number_with-changed prefix key value database, ap one (had.present key), ap one same, had.counted prefix);
    }

-- a key that stays present, or absent, changes nothing
pub HasKeysOf-kept : (keys : Slots) (key : List ℕ) (value : Option Value) (database : Database) → is_some (value_at database key) ≡ is_some value → HasKeysOf keys database → HasKeysOf keys (changed key value database)
HasKeysOf-kept keys key value database stays had = record {
  present = λ other.
      had.present other
      ∙ elim (same_key key other) as (λ s. same_key key other ≡ s → is_some (value_at database other) ≡ is_some (cond s value (value_at database other))) [
        | true ↦ λ is. ap (λ k. is_some (value_at database k)) (sym ((bytes_decides key other).0 is)) ∙ stays
        | false ↦ λ isnt. refl
      ] refl
      ∙ sym (ap is_some (value_at-changed key value database other));
  counted = λ prefix.
      let one : Bool → ℕ = λ b. cond {A = ℕ} (begins_with prefix key && b) 1 0 in
      omega (arith, number_with-changed prefix key value database, ap one stays, had.counted prefix);
}

pub Shows-kept : (keys : Option Slots) (key : List ℕ) (value : Option Value) (database : Database) → is_some (value_at database key) ≡ is_some value → Shows keys database → Shows keys (changed key value database)
Shows-kept None key value database stays had = tt
Shows-kept (Some keys) key value database stays had = HasKeysOf-kept keys key value database stays had
