use Rattle.std.proofs.Common.{arith}
use Rattle.bayou_wire.specs.Laws.Inner.Readers.{goes_on, ends, is_done}
use Rattle.bayou_wire.proofs.take.members_of.Goals as goal

pub returns-in_default : goal.returns-in_default
returns-in_default g c = ends _ _ _ _ _ _ c.loop-test.true c.in_default.ensures c.loop.invariant.told

pub returns : goal.returns
returns g c = is_done _ _ _ _ _ _ c.loop-test.false c.loop.invariant.told

pub loop-preserved : goal.loop-preserved
loop-preserved g c = record {
  length = omega arith;
  told = rw c.push.ensures.items (goes_on _ _ _ _ _ _ _ _ c.loop-test.true c.in-Some.ensures c.loop.invariant.told);
}
