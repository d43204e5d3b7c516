use Rattle.std.proofs.Common.{arith}
use Rattle.bayou_wire.specs.Laws.Inner.Readers.{goes_on, ends, is_done}
use Rattle.bayou_wire.proofs.Giving.{gives_none, gives_some}
use Rattle.bayou_wire.proofs.resting.resting_members_of.Goals as goal

pub returns-in_default-clause-members : goal.returns-in_default-clause-members
returns-in_default-clause-members g c = ends _ _ _ _ _ _ c.loop-test.true (gives_none _ _ _ c.in_ok-member.ensures c.in_default.is) c.loop.invariant.told

pub returns-clause-members : goal.returns-clause-members
returns-clause-members g c = is_done _ _ _ _ _ _ c.loop-test.false c.loop.invariant.told

pub loop-preserved : goal.loop-preserved
loop-preserved g c = record {
  length = omega arith;
  room = omega arith;
  told = rw c.push_reserved.ensures.items (goes_on _ _ _ _ _ _ _ _ c.loop-test.true (gives_some _ _ _ _ c.in_ok-member.ensures c.in-Some.is) c.loop.invariant.told);
}
