use Rattle.std.proofs.Common.{◌≡◌, ◌<◌, ap, arith, refl}
use Rattle.bayou_machine.proofs.Standing.{stands_at}
use Rattle.bayou_machine.proofs.parties.Parties.reopen.Goals as goal

pub returns : goal.returns
returns c =
    let place = c.args.server.index in
    let count : c.self.inside.plan.count ≡ c.args.self.now.count = ap (λ standing. standing.count) c.self.view_is in
    let within : place < c.self.inside.plan.count = omega (arith, c.requires) in (
      c.reopen.result,
      refl,
      record {
        name = c.args.server;
        is_named = refl;
        before = c.index_mut.result.now;
        after = c.reopen.new.self;
        stands = stands_at c.self.inside.servers.items c.args.self.now.servers c.self.inside.plan.count place c.from.result c.index_mut.result.now
            (ap (λ standing. standing.servers) c.self.view_is) c.self.invariant.0 c.from.ensures within c.index_mut.ensures.value;
        does = c.reopen.ensures;
        only = rw (← c.self.view_is, c.from.ensures) refl;
      },
    )
