-- What a draft makes of a line.
use Rattle.std.specs.Prelude.{◌≡◌, ◌==◌, ℕ, false, List}
use Rattle.std.specs.List.{AllByRecursion}
use Rattle.bayou_text.specs.declared.line.LineFault.{LineFault}
use Rattle.bayou_text.specs.declared.line.LineFault.TheVariants as line
use Rattle.bayou_text.specs.Said.{Said}
use Rattle.bayou_script.specs.declared.fault.InputRefusal.{InputRefusal}
use Rattle.bayou_script.specs.declared.fault.InputRefusal.TheVariants.{Line, OutOfMemory}
use Rattle.bayou_script.specs.declared.fault.ScriptFault.TheVariants.{NotJson, BadShape, BadKey, BadProgram}
use Rattle.bayou_script.specs.Order.{HasFault, Order}

-- why a line isn't taken, where memory didn't run out
abbrev pub FaultAt : Order → ℕ → List Said → List ℕ → InputRefusal → Type 0
FaultAt order number front bytes (Line told fault) = (told ≡ number) × HasFault order number front bytes fault
FaultAt order number front bytes OutOfMemory = Unit {0}

-- the refusal of a text whose line of this number wasn't read
abbrev pub refusal_of : ℕ → LineFault → InputRefusal
refusal_of number line.OutOfMemory = OutOfMemory
refusal_of number line.NotJson = Line number NotJson
refusal_of number (line.BadShape what) = Line number BadShape
refusal_of number (line.Key why) = Line number BadKey
refusal_of number (line.Program why) = Line number BadProgram

-- no byte is a line feed
abbrev pub HasNoLineFeed : List ℕ → Type 0
HasNoLineFeed bytes = AllByRecursion (λ byte. (byte == 10) ≡ false) bytes
