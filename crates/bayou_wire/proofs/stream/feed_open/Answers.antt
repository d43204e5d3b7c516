use Rattle.std.proofs.Common.{subst}
use Rattle.bayou_wire.specs.Stream.{IsFaultAt}
use Rattle.bayou_wire.proofs.Feeding.{faulty_on}
use Rattle.bayou_wire.proofs.stream.feed_open.Goals as goal

pub returns-in-Some-clause-fed : goal.returns-in-Some-clause-fed
returns-in-Some-clause-fed c = faulty_on c.args.held.now.items c.args.piece.now c.in-Some.fault (subst (IsFaultAt c.args.held.now.items) c.in-Some.is c.requires)
