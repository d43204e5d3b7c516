use Rattle.std.proofs.Common.{arith, rules}
use Rattle.bayou_connect.proofs.Rounding.{goes_no_further, goes_once_more}
use Rattle.bayou_connect.proofs.round.in_rounds.Goals as goal

pub returns-then-not-may_go_on : goal.returns-then-not-may_go_on
returns-then-not-may_go_on g c =
    c.loop.invariant c.loop.ways c.loop.told
    (goes_no_further (g.W.Ways.asks c.args.what.now) c.args.is_read c.args.order.now c.args.more c.loop.counter c.loop.ways c.loop.told (omega arith) (search rules))

pub loop-preserved : goal.loop-preserved
loop-preserved g c = λ new told goes.
    c.loop.invariant new told
    (goes_once_more (g.W.Ways.asks c.args.what.now) c.args.is_read c.args.order.now c.args.more c.loop.counter c.loop.ways c.first_served-in-loop.new.ways new c.loop.told c.in_ok-told-2.told told (omega arith)
    (search rules) c.in_ok-told-2.ensures goes)
