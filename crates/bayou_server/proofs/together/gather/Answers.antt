use Rattle.std.proofs.Common.{ap, arith}
use Rattle.bayou_journal.specs.Chain.{entries_bytes}
use Rattle.bayou_server.specs.Inner.Gathering.{bytes_of}
use Rattle.bayou_server.proofs.Gathering.{bytes-push, one_more_gathered}
use Rattle.bayou_server.proofs.together.gather.Goals as goal

pub loop-size-preserved : goal.loop-size-preserved
loop-size-preserved c =
    let one = c.in-Some.ensures.0 in
    let bodies = bytes_of c.loop-size.bodies.items in
    let more = bytes_of c.gather_next.new.bodies.items in
    record {
      gathered = one_more_gathered c.args.id.index c.args.holding.now c.loop-size.holding c.gather_next.new.holding c.args.writes.now.items c.loop-size.writes.items c.gather_next.new.writes.items
          bodies more c.in-Some.size c.loop-size.invariant.gathered one;
      within = omega (arith, ap entries_bytes one.bodies, bytes-push bodies one.body, one.sized, c.loop-size.invariant.within, c.in-Some.ensures.1);
    }
