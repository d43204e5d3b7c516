-- the best so far is among as many servers
use Rattle.std.proofs.Common.{◌≡◌, IfSome}
use Rattle.bayou_serve.proofs.restoring.gather.Given as goal

abbrev pub invariant-loop-peer : goal.invariant-loop-peer
invariant-loop-peer g l = IfSome l.best (λ answer. answer.gathered.count ≡ l.fn.asking.plan.now.servers)
