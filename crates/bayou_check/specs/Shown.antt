-- What of a report is shown: the numbers of the lines for which a text is refused.
use Rattle.std.specs.Prelude.{◌≡◌, ℕ, List, ◌++◌, Option, None, Some, codes, decimal}
use Rattle.bayou_check.specs.declared.kind.TextKind.{TextKind}
use Rattle.bayou_check.specs.declared.kind.TextKind.TheVariants.{Audit, Script}
use Rattle.bayou_check.specs.declared.told.FaultyLine.{FaultyLine}

-- the text begins with this
abbrev pub BeginsWith : List ℕ → List ℕ → Type 0
BeginsWith front text = (rest : List ℕ) × (text ≡ front ++ rest)

-- the text has this in it
abbrev pub HasWithin : List ℕ → List ℕ → Type 0
HasWithin part text = (before : List ℕ) × (after : List ℕ) × (text ≡ before ++ (part ++ after))

-- what is reported of a line begins as the line does that `bayou run` and `bayou audit` print
abbrev pub head_text : ℕ → List ℕ
head_text number = codes "bayou: line " ++ (decimal number ++ codes ": ")

-- the command that takes the kind
abbrev pub command_text : TextKind → List ℕ
command_text Script = codes "run"
command_text Audit = codes "audit"

-- that nothing is wrong, or which line is refused
abbrev pub outcome_text : TextKind → Option FaultyLine → List ℕ
outcome_text kind None = codes "; nothing is wrong: bayou " ++ command_text kind
outcome_text kind (Some told) = codes "; bayou " ++ (command_text kind ++ (codes " refuses line " ++ decimal told.line))
