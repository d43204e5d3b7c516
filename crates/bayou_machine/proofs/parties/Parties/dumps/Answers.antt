use Rattle.std.proofs.Common.{◌≡◌, ◌≤◌, ◌∙◌, ap, arith, length, sym, take}
use Rattle.std.proofs.lemmas.List.{take_all}
use Rattle.bayou_machine.proofs.Standing.{one_dump_each}
use Rattle.bayou_machine.proofs.parties.Parties.dumps.Goals as goal

pub returns-clause-one_each : goal.returns-clause-one_each
returns-clause-one_each c =
    let servers = c.args.self.now.servers in
    let at = c.loop-server.server-index in
    let same : c.self.inside.servers.items ≡ servers = ap (λ standing. standing.servers) c.self.view_is in
    let all : length servers ≤ at = omega (arith, c.loop-server-test.false, ap length c.deref-server-items.ensures.value, ap length same) in
    one_dump_each c.loop-server.dumps.items (take at servers) c.loop-server.invariant ∙ ap length (take_all at servers all)
    ∙ sym (ap length same) ∙ c.self.invariant.0 ∙ ap (λ standing. standing.count) c.self.view_is
