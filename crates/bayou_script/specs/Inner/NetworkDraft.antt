-- The front of a script over a network, as it is kept while its lines are checked.
use Rattle.std.specs.Prelude.{List, map}
use Rattle.bayou_text.specs.Said.{Said}
use Rattle.bayou_script.specs.declared.network_draft.NetworkDraft.{NetworkDraft}
use Rattle.bayou_script.specs.Inner.Stage.{IsStageOf}
use Rattle.bayou_script.specs.NetworkSaid.{network_said}

-- the draft keeps what was said
abbrev pub IsNetworkDraftOf : NetworkDraft → List Said → Type 0
IsNetworkDraftOf draft front = IsStageOf draft.stage (map network_said draft.commands.items) front
