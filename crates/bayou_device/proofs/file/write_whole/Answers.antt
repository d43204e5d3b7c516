-- A turn writes a front of the rest.
use Rattle.std.proofs.Common.{arith, ◌++◌, Ok, subst, take}
use Rattle.std.proofs.KnownBytes.{Appends-trans}
use Rattle.std.specs.Io.KnownBytes.{WriteAppends}
use Rattle.bayou_streams.specs.declared.channel.Turn.{Turn}
use Rattle.bayou_streams.specs.Turns.{count_of}
use Rattle.bayou_streams.specs.Laws.Turned.{moves_front}
use Rattle.bayou_device.proofs.file.write_whole.Goals as goal

pub loop-rest-preserved-in-Ok-Moved : goal.loop-rest-preserved-in-Ok-Moved
loop-rest-preserved-in-Ok-Moved g c =
    let held = g.W.Write.contents in
    let (front, split, wrote) = c.loop-rest.invariant.split in
    let rest = c.loop-rest.rest.now in
    let turn = c.in-Ok-Moved.ensures in
    let count = c.in-Ok-Moved.count in
    let more = subst (λ (moved : Turn). WriteAppends (held c.loop-rest.channel.writer) (held c.write_turn.new.self.writer) (count_of (Ok moved)) rest) c.in-Ok-Moved.field-0-is turn.bytes in
    record {
      split = (front ++ take count rest, moves_front _ front _ count split, Appends-trans _ _ _ front _ wrote more);
      fewer = omega (arith, c.loop-rest.invariant.fewer, turn.left);
    }
