-- What a program changes, as a list.
use Rattle.std.specs.Prelude.{ℕ, List, [], ◌∷◌, ◌++◌, map, max, length, All, Contains}
use Rattle.std.specs.List.{flat_map, IsDistinct}
use Rattle.bayou_lang.specs.declared.program.Op.{Op}
use Rattle.bayou_lang.specs.declared.program.Op.TheVariants.{Put, Del}
use Rattle.bayou_lang.specs.declared.program.Alt.{Alt}
use Rattle.bayou_lang.specs.declared.program.Program.{Program}
use Rattle.bayou_lang.specs.declared.change.Change.{Change}
use Rattle.bayou_lang.specs.Database.{Database, changed, same_key}

-- the database with these changes
abbrev pub after_changes : List Change → Database → Database
after_changes [] database = database
after_changes (change ∷ changes) database = changed change.key change.value (after_changes changes database)

-- the key that an op writes
abbrev pub op_key : Op → List ℕ
op_key (Put key term) = key
op_key (Del key) = key

-- the keys that a program may write: those of its update and of its alternatives
abbrev pub program_writes : Program → List (List ℕ)
program_writes program =
    map op_key program.update.items ++ flat_map (λ alt. map op_key alt.ops.items) program.merge.items

-- the greatest number of ops that one of the alternatives has
abbrev pub most_ops : List Alt → ℕ
most_ops [] = 0
most_ops (alt ∷ alts) = max (length alt.ops.items) (most_ops alts)

-- how many keys a program changes at the most: it applies its update or one of its alternatives
abbrev pub most_changes : Program → ℕ
most_changes program = max (length program.update.items) (most_ops program.merge.items)

-- no key is changed twice, and each is one of these
pub record ChangeOnly (keys : List (List ℕ)) (changes : List Change) : Type 0 where
  pub once : IsDistinct same_key (map (λ change. change.key) changes)
  pub among : All (λ change. Contains keys change.key) changes
