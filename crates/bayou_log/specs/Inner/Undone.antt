-- What takes applied Writes back, one after another.
use Rattle.std.specs.Prelude.{◌≡◌, ℕ, ◌+◌, List, [], ◌∷◌, ◌++◌, drop, length, take}
use Rattle.bayou_lang.specs.declared.change.Change.{Change}
use Rattle.bayou_lang.specs.declared.write.Write.{Write}
use Rattle.bayou_lang.specs.Changes.{after_changes, most_changes}
use Rattle.bayou_lang.specs.Meaning.{mean}
use Rattle.bayou_lang.specs.Database.{Database}
use Rattle.bayou_log.specs.Db.{Slots, database_of, room, IsUndo}

-- what takes back each Write that is applied, the first applied first; for how many changes room is promised; and for how
-- many changes and for how many Writes there is room in all
pub record Stack : Type 0 where
  pub undos : List (List Change)
  pub promised : ℕ
  pub room : ℕ
  pub places : ℕ

-- those of a list that has so many for each Write
abbrev pub undos_of : List ℕ → List Change → List (List Change)
undos_of [] changes = []
undos_of (size ∷ sizes) changes = take size changes ∷ undos_of sizes (drop size changes)

-- how many they have in all
abbrev pub all_of : List ℕ → ℕ
all_of [] = 0
all_of (size ∷ sizes) = size + all_of sizes

-- how many changes they have
abbrev pub changes_in : List (List Change) → ℕ
changes_in [] = 0
changes_in (undo ∷ undos) = length undo + changes_in undos

-- how many changes the Writes make at the most
abbrev pub changes_of : List Write → ℕ
changes_of [] = 0
changes_of (write ∷ writes) = most_changes write.program + changes_of writes

-- the database after all is taken back, the last first
abbrev pub after_undoing : List (List Change) → Database → Database
after_undoing [] database = database
after_undoing (undo ∷ undos) database = after_changes undo (after_undoing undos database)

-- they take back these Writes, of which the first was applied to this database
abbrev pub AreUndos : List (List Change) → List Write → Database → Type 0
AreUndos [] [] before = Unit {0}
AreUndos (undo ∷ undos) (write ∷ writes) before = IsUndo write.program before undo × AreUndos undos writes (mean write.program before).1
AreUndos [] (write ∷ writes) before = ⊥
AreUndos (undo ∷ undos) [] before = ⊥

-- what takes back these Writes too, of which the first was applied to this database
pub record AddsUndone (writes : List Write) (before : Database) (old new : Stack) : Type 0 where
  pub more : List (List Change)
  pub undo : AreUndos more writes before
  pub only : new ≡ record old { undos = old.undos ++ more }

-- what takes back the last Write is gone from the stack, and its changes are made
pub record UndoesLast (old new : Stack) (before after : Slots) : Type 0 where
  pub undos : List (List Change)
  pub undo : List Change
  pub last : old.undos ≡ undos ++ undo ∷ []
  pub only : new ≡ record old { undos = undos }
  pub database : database_of after ≡ after_changes undo (database_of before)
  pub same_room : room after ≡ room before
