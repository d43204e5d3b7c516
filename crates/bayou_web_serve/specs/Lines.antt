-- What may be handed in.
use Rattle.std.specs.Prelude.{◌≤◌, ℕ, [], Contains, List, Option, Some, None, length}
use Rattle.bayou_base.specs.declared.limits.TheConstants.{MAX_LINE_BYTES}
use Rattle.bayou_web_serve.specs.declared.hall.TheConstants.{NO_LINE}
use Rattle.bayou_web_state.specs.Done.{IsDone}

-- one line, and none that is longer than a line may be
pub record IsLine (line : List ℕ) : Type 0 where
  pub fits : length line ≤ MAX_LINE_BYTES
  pub one : ¬ (Contains line 10)

-- the text tells that it was no line
abbrev pub TellsNoLine : (text : Option (List ℕ)) → Type 0
TellsNoLine None = Unit {0}
TellsNoLine (Some text) = IsDone [] NO_LINE.now 2 text
