use Rattle.std.proofs.Common.{ℕ, ◌<◌, take}
use Rattle.bayou_judge.specs.Evidence.{IsGoodAt}
use Rattle.bayou_judge.specs.History.{dump_of, lent_lists}
use Rattle.bayou_judge.specs.Inner.Index.{IsIndexOf}
use Rattle.bayou_judge.proofs.dumps.index_of.Given as goal

-- the Writes so far are good, and the index is theirs
abbrev pub invariant-loop-at : goal.invariant-loop-at
invariant-loop-at l = record {
  good : (place : ℕ) → place < l.at → IsGoodAt l.count (lent_lists l.dumps) l.server.index place;
  indexed : IsIndexOf (take l.at (dump_of (lent_lists l.dumps) l.server.index)) l.index;
}
