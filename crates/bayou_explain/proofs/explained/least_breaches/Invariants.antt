-- the breaches of the sessions so far
use Rattle.std.proofs.Common.{◌≡◌, take}
use Rattle.bayou_explain.specs.Explained.{breaches_of}
use Rattle.bayou_explain.proofs.explained.least_breaches.Given as goal

abbrev pub invariant-loop-surveyed : goal.invariant-loop-surveyed
invariant-loop-surveyed l = l.list.items ≡ breaches_of (take l.surveyed-index l.survey)
