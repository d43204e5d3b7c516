-- Where keys with one beginning stand in the order of keys, and which keys are present.
use Rattle.std.specs.Prelude.{◌≡◌, ◌||◌, ℕ, Bool, true, false, List, [], ◌∷◌, Option, None, Some, ⊤}
use Rattle.std.specs.List.{list_any}
use Rattle.std.specs.Option.{is_some}
use Rattle.std.specs.declared.ops.Bound.{Bound}
use Rattle.std.specs.declared.ops.Bound.TheVariants.{Included, Unbounded}
use Rattle.bayou_base.specs.declared.value.Value.{Value}
use Rattle.bayou_lang.specs.declared.program.Cond.{Cond}
use Rattle.bayou_lang.specs.declared.program.Cond.TheVariants.{Equals, Absent, AtLeast, AtMost}
use Rattle.bayou_lang.specs.declared.program.Program.{Program}
use Rattle.bayou_lang.specs.Database.{Database, changed, number_with, value_at}
use Rattle.bayou_log.specs.Db.{Slots, database_of}

-- from the prefix itself on, or from the least key on where the prefix is empty
abbrev pub start_at : List ℕ → Bound (List ℕ)
start_at [] = Unbounded
start_at (byte ∷ prefix) = Included (byte ∷ prefix)

-- whether the condition counts keys
abbrev pub counts_keys : Cond → Bool
counts_keys (Equals key value) = false
counts_keys (Absent key) = false
counts_keys (AtLeast key least) = false
counts_keys (AtMost prefix most) = true

-- whether some condition of the program does
abbrev pub program_counts : Program → Bool
program_counts program = list_any counts_keys program.check.items || list_any (λ alt. list_any counts_keys alt.when.items) program.merge.items

-- the key has something now where it is to be there, and nothing where it isn't; each other key has what it had
pub record Notes (key : List ℕ) (is_there : Bool) (old new : Slots) : Type 0 where
  pub value : Option Value
  pub told : is_some value ≡ is_there
  pub made : database_of new ≡ changed key value (database_of old)

-- The slots have something for the keys that the database has, and for no others; so as many of them begin with each prefix.
pub record HasKeysOf (slots : Slots) (database : Database) : Type 0 where
  pub present : (key : List ℕ) → is_some (value_at (database_of slots) key) ≡ is_some (value_at database key)
  pub counted : (prefix : List ℕ) → number_with prefix (database_of slots) ≡ number_with prefix database

-- where keys are kept, they are those of the database
abbrev pub Shows : Option Slots → Database → Type 0
Shows None database = ⊤
Shows (Some keys) database = HasKeysOf keys database
