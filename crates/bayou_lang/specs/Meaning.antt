-- What a program means: an update, its dependency check and its merge procedure (Terry et al. 1995). The conditions,
-- terms and ops are this project's own.
use Rattle.std.specs.Prelude.{ℕ, ◌+◌, ◌^◌, ℤ, pos, negsuc, ◌+ℤ◌, int_le, Bool, true, false, ◌&&◌, List, [], ◌∷◌, Option, None, Some, nat_eq, nat_le, nat_lt, is_none, option_and_then, if◌then◌else◌}
use Rattle.std.specs.Option.{option_map, option_map_or}
use Rattle.std.specs.Ordering.{int_eq}
use Rattle.std.specs.Cmp.Lexicographic.{pointwise}
use Rattle.bayou_base.specs.declared.value.Value.{Value}
use Rattle.bayou_base.specs.declared.value.Value.TheVariants.{Num, Text}
use Rattle.bayou_lang.specs.declared.program.Term.{Term}
use Rattle.bayou_lang.specs.declared.program.Term.TheVariants.{Lit, Copy, Plus}
use Rattle.bayou_lang.specs.declared.program.Op.{Op}
use Rattle.bayou_lang.specs.declared.program.Op.TheVariants.{Put, Del}
use Rattle.bayou_lang.specs.declared.program.Cond.{Cond}
use Rattle.bayou_lang.specs.declared.program.Cond.TheVariants.{Equals, Absent, AtLeast, AtMost}
use Rattle.bayou_lang.specs.declared.program.Alt.{Alt}
use Rattle.bayou_lang.specs.declared.program.Program.{Program}
use Rattle.bayou_lang.specs.declared.eval.Outcome.{Outcome}
use Rattle.bayou_lang.specs.declared.eval.Outcome.TheVariants.{Updated, Merged, Nothing}
use Rattle.bayou_lang.specs.Database.{Database, changed, number_with, value_at}

-- whether two values are one
abbrev pub same_value : Value → Value → Bool
same_value (Num a) (Num b) = int_eq a b
same_value (Text a) (Text b) = pointwise nat_eq a b
same_value (Num a) (Text b) = false
same_value (Text a) (Num b) = false

-- whether the value is a number that isn't less than this one
abbrev pub is_at_least : ℤ → Value → Bool
is_at_least number (Num a) = int_le number a
is_at_least number (Text a) = false

-- Equals: the key is present with the value. Absent: the key is absent. AtLeast: the key has a number not less than this one. AtMost: so
-- many keys at the most that are present begin with the prefix.
abbrev pub holds : Cond → Database → Bool
holds (Equals key value) database = option_map_or (same_value value) (value_at database key) false
holds (Absent key) database = is_none (value_at database key)
holds (AtLeast key number) database = option_map_or (is_at_least number) (value_at database key) false
holds (AtMost prefix most) database = nat_le (number_with prefix database) most

-- every condition holds
abbrev pub all_hold : List Cond → Database → Bool
all_hold [] database = true
all_hold (condition ∷ conditions) database = holds condition database && all_hold conditions database

-- whether the number is an i64
abbrev pub fits_i64 : ℤ → Bool
fits_i64 (pos n) = nat_lt n (2 ^ 63)
fits_i64 (negsuc n) = nat_lt n (2 ^ 63)

-- the sum with a value, which a text and a sum outside of i64 don't have
abbrev pub sum_with : ℤ → Value → Option Value
sum_with number (Num a) = if fits_i64 (a +ℤ number) then Some (Num (a +ℤ number)) else None
sum_with number (Text a) = None

-- Lit: the value. Copy: what the key has. Plus: the sum of the key's number and this one.
abbrev pub term_value : Term → Database → Option Value
term_value (Lit value) database = Some value
term_value (Copy key) database = value_at database key
term_value (Plus key number) database = option_and_then (sum_with number) (value_at database key)

-- Put sets the key to the term's value, where the term has one; Del removes the key, and always has a value
abbrev pub after_op : Op → Database → Option Database
after_op (Put key term) database = option_map (λ value. changed key (Some value) database) (term_value term database)
after_op (Del key) database = Some (changed key None database)

-- the ops in order, each seeing those before it: all of them, or none
abbrev pub after_ops : List Op → Database → Option Database
after_ops [] database = Some database
after_ops (op ∷ ops) database = option_and_then (after_ops ops) (after_op op database)

-- what an alternative makes, where it fits: its conditions hold, and its ops all have a value
abbrev pub after_alternative : Alt → Database → Option Database
after_alternative alt database = if all_hold alt.when.items database then after_ops alt.ops.items database else None

-- the outcome, and the database after it
abbrev pub Effect : Type 0
Effect = Outcome × Database

-- the first alternative that fits, counted from this number on; nothing where there is none
abbrev pub merged : ℕ → List Alt → Database → Effect
merged number [] database = (Nothing, database)
merged number (alt ∷ alts) database =
    option_map_or (λ after. (Merged number, after)) (after_alternative alt database) (merged (number + 1) alts database)

-- the update, where its ops all have a value; else nothing
abbrev pub updated : List Op → Database → Effect
updated ops database = option_map_or (λ after. (Updated, after)) (after_ops ops database) (Nothing, database)

-- Where the dependency check holds, the update alone is tried; where it doesn't, the merge procedure is.
abbrev pub mean : Program → Database → Effect
mean program database =
    if all_hold program.check.items database then updated program.update.items database
    else merged 0 program.merge.items database
