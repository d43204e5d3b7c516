use Rattle.std.proofs.Common.{◌-◌}
use Rattle.std.specs.List.{range_with_len}
use Rattle.bayou_connect.proofs.Turns.{one_more_behind, one_more_from}
use Rattle.bayou_connect.proofs.round.in_turn.Goals as goal

-- src/round.rt:68:5
pub loop-at-preserved : goal.loop-at-preserved
loop-at-preserved c = one_more_from c.args.first c.loop-at.at c.loop-at.order.items c.push.new.self.items c.loop-at.auto.at c.loop-at.invariant c.in_ok-push.ensures.items

-- src/round.rt:71:5
pub loop-at-2-preserved : goal.loop-at-2-preserved
loop-at-2-preserved c = one_more_behind (range_with_len c.args.first (c.args.count - c.args.first)) c.loop-at-2.at c.loop-at-2.order.items c.push-in-loop-at-2.new.self.items c.loop-at-2.invariant c.in_ok-push-2.ensures.items
