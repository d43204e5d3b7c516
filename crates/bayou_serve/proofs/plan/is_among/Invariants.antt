-- none of those so far is that one
use Rattle.std.proofs.Common.{◌≢◌, All, take}
use Rattle.bayou_base.specs.declared.server.ServerId.{ServerId}
use Rattle.bayou_serve.proofs.plan.is_among.Given as goal

abbrev pub invariant-loop-server : goal.invariant-loop-server
invariant-loop-server l = All (λ (server : ServerId). server.index ≢ l.id.index) (take l.server-index l.servers)
