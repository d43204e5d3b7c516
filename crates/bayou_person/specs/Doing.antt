-- What the Writes of a person do, in the words of the merge language (Terry et al. 1995).
use Rattle.std.specs.Prelude.{◌≡◌, ℕ, ℤ, ◌+ℤ◌, Bool, true, false, List, ◌∷◌, ◌++◌, None, Some, All, IsSome, length}
use Rattle.bayou_base.specs.declared.value.Value.{Value}
use Rattle.bayou_base.specs.declared.value.Value.TheVariants.{Num, Text}
use Rattle.bayou_lang.specs.declared.eval.Outcome.TheVariants.{Updated, Merged, Nothing}
use Rattle.bayou_lang.specs.declared.program.Program.{Program}
use Rattle.bayou_lang.specs.Database.{Database, changed, value_at}
use Rattle.bayou_lang.specs.Meaning.{fits_i64, mean}
use Rattle.bayou_person.specs.declared.wish.Wish.{Wish}
use Rattle.bayou_person.specs.declared.wish.Wish.TheVariants.{Put, Add, Del, Claim, Get, At, List as Whole, Rows, Became, Servers, Session, Dump}

-- the key has the value then, whatever it had
abbrev pub Puts : List ℕ → Value → Program → Type 0
Puts key value program = (database : Database) → mean program database ≡ (Updated, changed key (Some value) database)

-- the key is absent then, whatever it had
abbrev pub Removes : List ℕ → Program → Type 0
Removes key program = (database : Database) → mean program database ≡ (Updated, changed key None database)

-- An absent key has the number then. To a number it is added, where the sum is an i64. Else nothing changes.
pub record Adds (key : List ℕ) (number : ℤ) (program : Program) : Type 0 where
  pub absent : (database : Database) → value_at database key ≡ None → mean program database ≡ (Updated, changed key (Some (Num number)) database)
  pub added : (database : Database) (had : ℤ) → value_at database key ≡ Some (Num had) → fits_i64 (had +ℤ number) ≡ true
      → mean program database ≡ (Merged 0, changed key (Some (Num (had +ℤ number))) database)
  pub too_far : (database : Database) (had : ℤ) → value_at database key ≡ Some (Num had) → fits_i64 (had +ℤ number) ≡ false
      → mean program database ≡ (Nothing, database)
  pub not_number : (database : Database) (had : List ℕ) → value_at database key ≡ Some (Text had) → mean program database ≡ (Nothing, database)

-- the key has a value
abbrev pub IsTaken : Database → List ℕ → Type 0
IsTaken database key = IsSome (value_at database key)

-- Of the key and the others after it the first that is absent has the value then, and nothing else changes: the update sets the key
-- itself, and the alternative of its number, from 0 on, another. Where none is absent nothing changes.
pub record Claims (key : List ℕ) (others : List (List ℕ)) (value : Value) (program : Program) : Type 0 where
  pub first : (database : Database) → value_at database key ≡ None → mean program database ≡ (Updated, changed key (Some value) database)
  pub later : (database : Database) (before : List (List ℕ)) (other : List ℕ) (after : List (List ℕ)) → others ≡ before ++ other ∷ after
      → IsTaken database key → All (IsTaken database) before → value_at database other ≡ None
      → mean program database ≡ (Merged (length before), changed other (Some value) database)
  pub none : (database : Database) → IsTaken database key → All (IsTaken database) others
      → mean program database ≡ (Nothing, database)

-- whether it is a Write
abbrev pub is_write : Wish → Bool
is_write (Put key value) = true
is_write (Add key number) = true
is_write (Del key) = true
is_write (Claim key others value) = true
is_write (Get key others) = false
is_write (At server) = false
is_write Whole = false
is_write (Rows prefix) = false
is_write (Became wid) = false
is_write Servers = false
is_write Session = false
is_write Dump = false

-- the program of a Write does what was wished
abbrev pub Does : Wish → Program → Type 0
Does (Put key value) program = Puts key value program
Does (Add key number) program = Adds key number program
Does (Del key) program = Removes key program
Does (Claim key others value) program = Claims key others.items value program
Does (Get key others) program = ⊥
Does (At server) program = ⊥
Does Whole program = ⊥
Does (Rows prefix) program = ⊥
Does (Became wid) program = ⊥
Does Servers program = ⊥
Does Session program = ⊥
Does Dump program = ⊥
