use Rattle.std.proofs.Common.{◌≡◌, ◌<◌, ◌∙◌, ap, arith, refl, length, set}
use Rattle.bayou_machine.proofs.Standing.{put_back, stands_at}
use Rattle.bayou_machine.proofs.parties.Parties.restart.Goals as goal

pub returns : goal.returns
returns c =
    let place = c.args.server.index in
    let servers = c.self.inside.servers.items in
    let after = c.restart-restarted.result.0 in
    let count : c.self.inside.plan.count ≡ c.args.self.now.count = ap (λ standing. standing.count) c.self.view_is in
    let within : place < c.self.inside.plan.count = omega (arith, c.requires) in
    let inside : c.from-at.result < length servers = omega (arith, c.self.invariant.0, c.from-at.ensures) in
    let put : c.insert.new.self.items ≡ set servers place after =
    c.in-Ok.ensures.items ∙ rw c.remove.ensures.items (put_back servers c.from-at.result after inside) ∙ ap (λ i. set servers i after) c.from-at.ensures in (
      c.restart-restarted.result.1,
      refl,
      record {
        name = c.args.server;
        is_named = refl;
        before = c.remove.result;
        after = after;
        stands = stands_at servers c.args.self.now.servers c.self.inside.plan.count place c.from-at.result c.remove.result
            (ap (λ standing. standing.servers) c.self.view_is) c.self.invariant.0 c.from-at.ensures within c.remove.ensures.value;
        does = rw (← c.self.view_is) c.restart-restarted.ensures;
        only = rw (← c.self.view_is, put) refl;
      },
    )
