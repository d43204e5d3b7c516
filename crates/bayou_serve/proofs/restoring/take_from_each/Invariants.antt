-- all that each of the peers so far has was taken
use Rattle.std.proofs.Common.{◌≡◌, List, length, take}
use Rattle.bayou_lang.specs.declared.write.Write.{Write}
use Rattle.bayou_serve.specs.Remade.{AreFromEach, TakesEachOf}
use Rattle.bayou_serve.proofs.restoring.take_from_each.Given as goal

abbrev pub invariant-loop-peer : goal.invariant-loop-peer
invariant-loop-peer g l = record {
  each : AreFromEach (take l.peer-index l.peers) l.taken.items;
  taken : (answers : List (List Write)) × (length answers ≡ length l.taken.items) × TakesEachOf l.initial.server.core answers l.server.core;
}
