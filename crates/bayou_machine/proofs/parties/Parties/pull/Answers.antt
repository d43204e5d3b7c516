use Rattle.std.proofs.Common.{◌≡◌, ◌∙◌, ap, arith, sym}
use Rattle.bayou_machine.specs.Exchange.{own_counts}
use Rattle.bayou_machine.proofs.Standing.{one_there, stands_at}
use Rattle.bayou_machine.proofs.parties.Parties.pull.Goals as goal

pub returns : goal.returns
returns c =
    let count : c.self.inside.plan.count ≡ c.args.self.now.count = ap (λ standing. standing.count) c.self.view_is in
    let here = stands_at c.self.inside.servers.items c.args.self.now.servers c.self.inside.plan.count c.args.to.index c.from.result c.index.result.now
    (ap (λ standing. standing.servers) c.self.view_is) c.self.invariant.0 c.from.ensures (omega (arith, count, c.requires.to)) c.index.ensures in
    c.transfer.ensures own_counts
    (λ before stands. ap own_counts (one_there c.args.self.now.servers c.args.to.index before c.index.result.now stands here) ∙ sym c.counts-counts.ensures)
