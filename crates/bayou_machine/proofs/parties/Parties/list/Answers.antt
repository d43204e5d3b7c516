use Rattle.std.proofs.Common.{◌≡◌, ◌<◌, ap, arith, refl}
use Rattle.std.proofs.lemmas.Result.{IfOk-weaker}
use Rattle.bayou_machine.specs.ScriptServer.{IsListed}
use Rattle.bayou_machine.proofs.Standing.{stands_at}
use Rattle.bayou_machine.proofs.parties.Parties.list.Goals as goal

pub returns : goal.returns
returns c =
    let place = c.args.server.index in
    let count : c.self.inside.plan.count ≡ c.args.self.now.count = ap (λ standing. standing.count) c.self.view_is in
    let within : place < c.self.inside.plan.count = omega (arith, c.requires) in
    let stands = stands_at c.self.inside.servers.items c.args.self.now.servers c.self.inside.plan.count place c.from.result c.index.result.now
    (ap (λ standing. standing.servers) c.self.view_is) c.self.invariant.0 c.from.ensures within c.index.ensures in
    IfOk-weaker c.list.result (IsListed c.args.server c.index.result.now) _
    (λ answer listed. (refl, record { name = c.args.server; is_named = refl; replica = c.index.result.now; stands = stands; is = listed })) c.list.ensures
