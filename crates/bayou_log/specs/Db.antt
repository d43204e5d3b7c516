-- A database with room for keys ahead of their values: this project's own.
use Rattle.std.specs.Prelude.{◌≡◌, ℕ, ◌≤◌, Bool, List, [], ◌∷◌, Option, length, All, Contains, IsTrue}
use Rattle.std.specs.List.{list_any}
use Rattle.std.specs.Map.{keys_of}
use Rattle.bayou_base.specs.declared.value.Value.{Value}
use Rattle.bayou_lang.specs.declared.program.Program.{Program}
use Rattle.bayou_lang.specs.Database.{Database, changed, empty, same_key}
use Rattle.bayou_lang.specs.declared.change.Change.{Change}
use Rattle.bayou_lang.specs.Changes.{after_changes, most_changes, program_writes}
use Rattle.bayou_lang.specs.Meaning.{mean}

-- the keys that there is room for, each with what it has, if anything
abbrev pub Slots : Type 0
Slots = List (List ℕ × Option Value)

-- the database with what the slots have
abbrev pub database_of : Slots → Database
database_of [] = empty
database_of (slot ∷ slots) = changed slot.0 slot.1 (database_of slots)

-- the keys that there is room for
abbrev pub room : Slots → List (List ℕ)
room slots = keys_of slots

-- whether the key is among those that there is room for
abbrev pub has_room : List (List ℕ) → List ℕ → Bool
has_room keys key = list_any (same_key key) keys

-- there is room for each of the others
abbrev pub HasRoomAt : List (List ℕ) → List (List ℕ) → Type 0
HasRoomAt keys others = All (λ key. IsTrue (has_room keys key)) others

-- there is room for every key that the program may write
abbrev pub HasRoomFor : List (List ℕ) → Program → Type 0
HasRoomFor keys program = HasRoomAt keys (program_writes program)

-- there is still room for each key that there was room for
abbrev pub KeepsRoom : List (List ℕ) → List (List ℕ) → Type 0
KeepsRoom old new = (key : List ℕ) → IsTrue (has_room old key) → IsTrue (has_room new key)

-- The changes take the program back, which was applied to this database (undo, Terry et al. 1995): they make of what it left
-- the database before, whole. They are no more than the program may make, and of keys that it may write.
pub record IsUndo (program : Program) (before : Database) (undo : List Change) : Type 0 where
  pub whole : after_changes undo (mean program before).1 ≡ before
  pub among : All (λ change. Contains (program_writes program) change.key) undo
  pub few : length undo ≤ most_changes program
