-- the breaches so far are told
use Rattle.std.proofs.Common.{take}
use Rattle.std.specs.Prelude.{string_bytes}
use Rattle.bayou_explain.specs.Explained.{breaches_told}
use Rattle.bayou_explain.specs.Json.{TellEachAsJson}
use Rattle.bayou_explain.proofs.json.explanation_objects.Given as goal

abbrev pub invariant-loop-explained : goal.invariant-loop-explained
invariant-loop-explained l = TellEachAsJson (breaches_told (take l.explained-index l.explained-items)) (string_bytes l.text)
