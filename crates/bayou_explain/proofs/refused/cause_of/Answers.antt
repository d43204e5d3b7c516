use Rattle.std.proofs.Common.{None, Option, rules, subst}
use Rattle.bayou_explain.specs.Explained.{IsFound}
use Rattle.bayou_explain.specs.Refused.{AsksOther, IsNotBelow}
use Rattle.bayou_explain.proofs.Causes.{of_write}
use Rattle.bayou_explain.proofs.refused.cause_of.Goals as goal

pub returns-in-Write : goal.returns-in-Write
returns-in-Write c =
    let entry = c.args.entry.now in
    let below : IsFound c.args.before.now (IsNotBelow entry.session.index entry.place) None = search rules in
    let asks : IsFound c.args.before.now (AsksOther entry.session.index entry.asks) None = search rules in
    of_write c.args.before.now c.args.lines.now entry c.in-Write.wid c.in-Write.stamp c.in-Write.deps c.write_cause.result c.in-Write.is below asks c.write_cause.ensures
