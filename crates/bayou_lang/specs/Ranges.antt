-- What the types of keys, values, programs and Writes keep, with the limits: this project's own. Whatever keeps it has
-- a spelling, as bytes and in a line.
use Rattle.std.specs.Prelude.{◌≡◌, ◌^◌, ℕ, ◌<◌, ◌≤◌, ℤ, List, None, length, FitsSigned, IsUtf8}
use Rattle.std.specs.Int.{w64}
use Rattle.std.specs.List.{AllByRecursion}
use Rattle.bayou_base.specs.Key.{key_fault, prefix_fault}
use Rattle.bayou_base.specs.Text.{IsShort}
use Rattle.bayou_base.specs.Vector.{AreCounts}
use Rattle.bayou_base.specs.declared.limits.TheConstants.{MAX_CONDITIONS, MAX_OPS, MAX_ALTERNATIVES}
use Rattle.bayou_base.specs.declared.value.Value.{Value}
use Rattle.bayou_base.specs.declared.value.Value.TheVariants.{Num, Text}
use Rattle.bayou_lang.specs.declared.program.Term.{Term}
use Rattle.bayou_lang.specs.declared.program.Term.TheVariants.{Lit, Copy, Plus}
use Rattle.bayou_lang.specs.declared.program.Op.{Op}
use Rattle.bayou_lang.specs.declared.program.Op.TheVariants.{Put, Del}
use Rattle.bayou_lang.specs.declared.program.Cond.{Cond}
use Rattle.bayou_lang.specs.declared.program.Cond.TheVariants.{Equals, Absent, AtLeast, AtMost}
use Rattle.bayou_lang.specs.declared.program.Alt.{Alt}
use Rattle.bayou_lang.specs.declared.program.Program.{Program}
use Rattle.bayou_lang.specs.declared.write.Write.{Write}

abbrev pub IsKey : List ℕ → Type 0
IsKey key = key_fault key ≡ None

abbrev pub IsPrefix : List ℕ → Type 0
IsPrefix prefix = prefix_fault prefix ≡ None

abbrev pub IsText : List ℕ → Type 0
IsText text = IsShort text × IsUtf8 text

abbrev pub IsI64 : ℤ → Type 0
IsI64 number = FitsSigned w64 number

abbrev pub IsValue : Value → Type 0
IsValue (Num number) = IsI64 number
IsValue (Text text) = IsText text

abbrev pub IsTerm : Term → Type 0
IsTerm (Lit value) = IsValue value
IsTerm (Copy key) = IsKey key
IsTerm (Plus key number) = IsKey key × IsI64 number

abbrev pub IsOp : Op → Type 0
IsOp (Put key term) = IsKey key × IsTerm term
IsOp (Del key) = IsKey key

abbrev pub IsCond : Cond → Type 0
IsCond (Equals key value) = IsKey key × IsValue value
IsCond (Absent key) = IsKey key
IsCond (AtLeast key number) = IsKey key × IsI64 number
IsCond (AtMost prefix most) = IsPrefix prefix × (most < 2 ^ 32)

-- so many members at the most, each of which is such a thing
abbrev pub AreAtMost : {T : Type 0} → ℕ → (T → Type 0) → List T → Type 0
AreAtMost most Is members = (length members ≤ most) × AllByRecursion Is members

abbrev pub IsAlt : Alt → Type 0
IsAlt alt = AreAtMost MAX_CONDITIONS IsCond alt.when.items × AreAtMost MAX_OPS IsOp alt.ops.items

abbrev pub IsProgram : Program → Type 0
IsProgram program =
    AreAtMost MAX_CONDITIONS IsCond program.check.items
    × (AreAtMost MAX_OPS IsOp program.update.items × AreAtMost MAX_ALTERNATIVES IsAlt program.merge.items)

abbrev pub IsWrite : Write → Type 0
IsWrite write = AreCounts write.deps × IsProgram write.program
