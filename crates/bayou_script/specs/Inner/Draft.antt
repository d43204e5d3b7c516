-- The front of a script, as it is kept while its lines are checked.
use Rattle.std.specs.Prelude.{List, map}
use Rattle.bayou_text.specs.Said.{Said, command_said}
use Rattle.bayou_script.specs.declared.draft.Draft.{Draft}
use Rattle.bayou_script.specs.Inner.Stage.{IsStageOf}

-- the draft keeps what was said
abbrev pub IsDraftOf : Draft → List Said → Type 0
IsDraftOf draft front = IsStageOf draft.stage (map command_said draft.commands.items) front
