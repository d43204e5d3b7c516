-- the Writes so far were given, one after another, and where none was refused the others are left
use Rattle.std.proofs.Common.{◌≡◌, List, None, length}
use Rattle.bayou_lang.specs.declared.write.Write.{Write}
use Rattle.bayou_node.specs.Answers.{TakesAllAtNode}
use Rattle.bayou_node.proofs.node.Node.take_all.Given as goal

abbrev pub invariant-loop-told : goal.invariant-loop-told
invariant-loop-told g l = record {
  took : (left : List Write) × TakesAllAtNode g.L.Desks.begun l.fn.writes.items left l.told × (l.told.refused ≡ None → left ≡ l.writes.items);
}

abbrev pub decreases-loop-told : goal.decreases-loop-told
decreases-loop-told g l = length l.writes.items
