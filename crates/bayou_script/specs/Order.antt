-- Lines of a text, in order: what each says has its place there.
use Rattle.std.specs.Prelude.{◌≡◌, ◌≢◌, ℕ, ◌+◌, ◌==◌, Bool, false, List, [], ◌∷◌, ◌++◌, Option, None, Some, IsTrue, length}
use Rattle.std.specs.List.{slice_split}
use Rattle.bayou_text.specs.declared.line.LineFault.{LineFault}
use Rattle.bayou_text.specs.declared.line.LineFault.TheVariants as line
use Rattle.bayou_text.specs.Lines.{IsFaultOf}
use Rattle.bayou_text.specs.Said.{Said}
use Rattle.bayou_text.specs.Table.{Spells}
use Rattle.bayou_script.specs.declared.fault.InputRefusal.{InputRefusal}
use Rattle.bayou_script.specs.declared.fault.InputRefusal.TheVariants.{Line, OutOfMemory}
use Rattle.bayou_script.specs.declared.fault.ScriptFault.{ScriptFault}
use Rattle.bayou_script.specs.declared.fault.ScriptFault.TheVariants.{NotJson, BadShape, BadKey, BadProgram, OutOfPlace}

-- a text's lines, each without its line feed
abbrev pub lines_of : List ℕ → List (List ℕ)
lines_of text = slice_split (λ byte. byte == 10) text

-- an order: whether the line of this number may say this after what was said before
abbrev pub Order : Type 0
Order = ℕ → List Said → Said → Bool

-- These lines are in order, and say this: each is empty, or says something that has its place there.
pub data InOrderBy (order : Order) : List (List ℕ) → List Said → Type 0 where
  nothing : InOrderBy order [] []
  skipped : (lines : List (List ℕ)) (front : List Said) → InOrderBy order lines front → InOrderBy order (lines ++ [] ∷ []) front
  added : (lines : List (List ℕ)) (front : List Said) (line : List ℕ) (said : Said) → InOrderBy order lines front
      → line ≢ [] → Spells line said → IsTrue (order (length lines + 1) front said) → InOrderBy order (lines ++ line ∷ []) (front ++ said ∷ [])

-- What this says was added after the front, if that is its place there.
pub record HasAdded {D : Type 0} (order : Order) (keeps : D → List Said → Type 0) (number : ℕ) (front : List Said) (told : Said) (new : D) (placed : Bool) : Type 0 where
  pub place : placed ≡ order number front told
  pub kept : IsTrue placed → keeps new (front ++ told ∷ [])

-- the kind of a line's own fault; want of memory is none
abbrev pub kind_of : LineFault → Option ScriptFault
kind_of line.OutOfMemory = None
kind_of line.NotJson = Some NotJson
kind_of (line.BadShape what) = Some BadShape
kind_of (line.Key why) = Some BadKey
kind_of (line.Program why) = Some BadProgram

-- the fault of the line of this number after what was said: its own, or that it is out of place
pub data HasFault (order : Order) (number : ℕ) (front : List Said) (bytes : List ℕ) (fault : ScriptFault) : Type 0 where
  in_itself : (why : LineFault) → bytes ≢ [] → IsFaultOf bytes why → kind_of why ≡ Some fault → HasFault order number front bytes fault
  misplaced : (said : Said) → bytes ≢ [] → Spells bytes said → order number front said ≡ false → fault ≡ OutOfPlace → HasFault order number front bytes fault

-- The lines are refused for this one: those before it are in order, and it has the fault. Lines that say nothing are
-- refused for line 1.
pub data IsRefusedBy (order : Order) (lines : List (List ℕ)) (number : ℕ) (fault : ScriptFault) : Type 0 where
  at_line : (before : List (List ℕ)) (bytes : List ℕ) (after : List (List ℕ)) (front : List Said) → lines ≡ before ++ bytes ∷ after
      → InOrderBy order before front → number ≡ length before + 1 → HasFault order number front bytes fault → IsRefusedBy order lines number fault
  at_end : InOrderBy order lines [] → number ≡ 1 → fault ≡ OutOfPlace → IsRefusedBy order lines number fault

-- why the lines aren't taken, where memory didn't run out
abbrev pub RefusedBy : Order → List (List ℕ) → InputRefusal → Type 0
RefusedBy order lines (Line number fault) = IsRefusedBy order lines number fault
RefusedBy order lines OutOfMemory = Unit {0}
