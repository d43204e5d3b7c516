-- the breaches so far are explained
use Rattle.std.proofs.Common.{◌≡◌, All, take}
use Rattle.bayou_explain.specs.Explained.{IsShown, breaches_told}
use Rattle.bayou_explain.proofs.explained.explain_each.Given as goal

abbrev pub invariant-loop-breach : goal.invariant-loop-breach
invariant-loop-breach l = (breaches_told l.list.items ≡ take l.breach-index l.breaches) × All (IsShown l.lines) l.list.items
