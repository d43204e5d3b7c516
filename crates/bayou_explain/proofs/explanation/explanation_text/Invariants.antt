-- the breaches so far are told
use Rattle.std.proofs.Common.{take}
use Rattle.std.specs.Prelude.{string_bytes}
use Rattle.bayou_explain.specs.Explained.{breaches_told}
use Rattle.bayou_explain.specs.Explanation.{TellEach}
use Rattle.bayou_explain.proofs.explanation.explanation_text.Given as goal

abbrev pub invariant-loop-explained : goal.invariant-loop-explained
invariant-loop-explained l = TellEach (breaches_told (take l.explained-index l.explained-items)) (string_bytes l.text)
