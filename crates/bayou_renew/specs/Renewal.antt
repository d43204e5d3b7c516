-- A store that goes on after its log is full: the database that the old Writes make, as the first Writes of a new store. This project's own.
use Rattle.std.specs.Prelude.{◌≡◌, ◌<◌, ◌||◌, ℕ, Bool, false, List, [], ◌∷◌, ◌++◌, Option, None, drop, length, map, not, take, if◌then◌else◌}
use Rattle.std.specs.List.{filter}
use Rattle.std.specs.FinMap as finite
use Rattle.bayou_base.specs.declared.limits.TheConstants.{MAX_OPS}
use Rattle.bayou_lang.specs.declared.program.Op.{Op}
use Rattle.bayou_lang.specs.declared.program.Op.TheVariants.{Put}
use Rattle.bayou_lang.specs.declared.program.Program.{Program}
use Rattle.bayou_lang.specs.declared.program.Term.TheVariants.{Lit}
use Rattle.bayou_lang.specs.declared.write.Write.{Write}
use Rattle.bayou_lang.specs.Database.{Database, begins_with, value_at}
use Rattle.bayou_lang.specs.Writes.{IsNextWrite}
use Rattle.bayou_log.specs.Rows.{Row}

-- whether the key begins with one of the prefixes
abbrev pub is_left_out : List (List ℕ) → List ℕ → Bool
is_left_out [] key = false
is_left_out (prefix ∷ prefixes) key = begins_with prefix key || is_left_out prefixes key

-- those of the rows whose keys begin with none of the prefixes
abbrev pub kept_of : List (List ℕ) → List Row → List Row
kept_of prefixes rows = filter (λ row. not (is_left_out prefixes row.0)) rows

-- and those of a database, in the order of keys
abbrev pub kept_rows : List (List ℕ) → Database → List Row
kept_rows prefixes database = kept_of prefixes (finite.entries database)

-- the database has nothing at the keys that begin with one of the prefixes, and at each other what the old one has
abbrev pub IsWithout : List (List ℕ) → (old new : Database) → Type 0
IsWithout prefixes old new = (key : List ℕ) → value_at new key ≡ (if is_left_out prefixes key then None else value_at old key)

abbrev pub put_of : Row → Op
put_of row = Put row.0 (Lit row.1)

-- the program puts these rows, whatever the database has
pub record Puts (rows : List Row) (program : Program) : Type 0 where
  pub check : program.check.items ≡ []
  pub update : program.update.items ≡ map put_of rows
  pub merge : program.merge.items ≡ []

-- the server that makes the Writes of a new store
abbrev pub ORIGIN : ℕ
ORIGIN = 0

-- The Writes that the server, where it holds such ones, makes of the rows: as many of them each as an update may put, one Write after another.
abbrev pub AreMadeOf : (held : List Write) → List Row → List Write → Type 0
AreMadeOf held rows [] = rows ≡ []
AreMadeOf held rows (write ∷ writes) =
    (0 < length rows) × IsNextWrite held ORIGIN write.program write × Puts (take MAX_OPS rows) write.program × AreMadeOf (held ++ write ∷ []) (drop MAX_OPS rows) writes
