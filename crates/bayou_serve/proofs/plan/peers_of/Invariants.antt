-- one peer for each word so far, as it says, each another server, and none twice
use Rattle.std.proofs.Common.{◌≡◌, ◌≢◌, ◌<◌, All, AllPairs, length, take}
use Rattle.std.specs.List.{AllZip}
use Rattle.bayou_serve.specs.Words.{SaysPeer}
use Rattle.bayou_serve.specs.declared.plan.Peer.{Peer}
use Rattle.bayou_serve.proofs.plan.peers_of.Given as goal

abbrev pub invariant-loop-word : goal.invariant-loop-word
invariant-loop-word l = record {
  others : All (λ (peer : Peer). (peer.id.index < l.fn.servers) × (peer.id ≢ l.fn.id)) l.peers.items;
  once : AllPairs (λ (one other : Peer). one.id ≢ other.id) l.peers.items;
  number : length l.peers.items ≡ l.word-index;
  said : AllZip (λ word peer. SaysPeer word.now peer) (take l.word-index l.words) l.peers.items;
}
