use Rattle.std.proofs.Common.{rules, ◌++◌, take}
use Rattle.std.proofs.KnownBytes.{Consumes-trans}
use Rattle.bayou_net.proofs.host.drop_rest.Goals as goal

pub loop-preserved : goal.loop-preserved
loop-preserved g c =
    let (read, consumed) = c.loop.invariant.dropped in
    record {
      dropped = (read ++ take c.in-Ok.field-0 c.read_piece.new.piece, Consumes-trans _ _ _ read _ consumed c.in-Ok.ensures.bytes.0);
      room = search rules;
      fewer = search rules;
      other = search rules;
    }
