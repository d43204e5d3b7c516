-- none of those so far has that number
use Rattle.std.proofs.Common.{◌≢◌, All, take}
use Rattle.bayou_serve.specs.declared.plan.Peer.{Peer}
use Rattle.bayou_serve.proofs.plan.has_peer.Given as goal

abbrev pub invariant-loop-peer : goal.invariant-loop-peer
invariant-loop-peer l = All (λ (peer : Peer). peer.id.index ≢ l.id.index) (take l.peer-index l.peers)
