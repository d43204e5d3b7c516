use Rattle.std.proofs.Common.{◌<◌, drop, length, arith, refl}
use Rattle.bayou_server.proofs.Gathering.{first_of}
use Rattle.bayou_server.proofs.together.next_body.Goals as goal

pub returns-clause-ready : goal.returns-clause-ready
returns-clause-ready c =
    let items = c.args.writes.now.items in
    let size = c.in-Some-fitting_body.ensures.size in
    let some : 0 < length items = omega (arith, c.in-Some.ensures.variant.0 refl, c.args.writes.now.ok.0) in
    record {
      write = c.in-Some.write.now;
      rest = drop 1 items;
      split = first_of items c.in-Some.write.now some c.in-Some.ensures.lookup;
      takable = c.in_default-decided.ensures;
      spelling = c.in-Some-fitting_body.ensures.spelling;
      is = record { some = size.0; within = size.1 };
      size = c.in-Some-fitting_body.ensures.room;
      reserved = c.in-Ok.ensures.log;
      place = c.in-Ok.ensures.tags;
      places = omega (arith, c.in-Ok.ensures.places);
    }
