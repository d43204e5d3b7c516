-- one server for each word so far, as it says, each of which may be left out
use Rattle.std.proofs.Common.{All, take}
use Rattle.std.specs.List.{AllZip}
use Rattle.bayou_base.specs.declared.server.ServerId.{ServerId}
use Rattle.bayou_serve.specs.Words.{IsLeftOut, SaysServer}
use Rattle.bayou_serve.proofs.plan.left_out_of.Given as goal

abbrev pub invariant-loop-word : goal.invariant-loop-word
invariant-loop-word l = record {
  said : AllZip (λ word server. SaysServer word.now server) (take l.word-index l.words) l.left_out.items;
  others : All (λ (server : ServerId). IsLeftOut l.fn.id.index l.fn.servers l.fn.peers server.index) l.left_out.items;
}
