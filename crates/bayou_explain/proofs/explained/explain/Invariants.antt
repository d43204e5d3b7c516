-- the breaches of the sessions so far are explained
use Rattle.std.proofs.Common.{◌≡◌, All, take}
use Rattle.bayou_explain.specs.Explained.{IsShown, breaches_of, breaches_told}
use Rattle.bayou_explain.proofs.explained.explain.Given as goal

abbrev pub invariant-loop-surveyed : goal.invariant-loop-surveyed
invariant-loop-surveyed l = (breaches_told l.list.items ≡ breaches_of (take l.surveyed-index l.survey)) × All (IsShown l.lines) l.list.items
