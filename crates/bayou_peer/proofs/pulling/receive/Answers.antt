use Rattle.std.proofs.Common.{arith, [], Err, ◌≤◌, ◌++◌, length, take, refl, ◌∙◌, length-take, length-append, ◌<◌}
use Rattle.std.proofs.KnownBytes.{Consumes-kept, Consumes-nil, Consumes-trans}
use Rattle.std.specs.Io.KnownBytes.{IsAtEnd}
use Rattle.bayou_frames.specs.Laws.Bytes.{consumes_none}
use Rattle.bayou_peer.specs.declared.pulling.TheConstants.{PULL_TURN_BYTES}
use Rattle.bayou_peer.proofs.Received.{few_ended, ends_anywhere, ends_reading, standing_room, standing_start, stands}
use Rattle.bayou_peer.proofs.pulling.receive.Goals as goal

pub loop-pulled-init : goal.loop-pulled-init
loop-pulled-init g c = record {
  went = ([], Consumes-nil _, standing_start _ _ _ _ c.new-frames.ensures refl refl, omega arith);
  room = refl;
  fewer = omega arith;
  other = (refl, refl);
}

pub take_piece-requires : goal.take_piece-requires
take_piece-requires g c =
    let (read, consumed, standing, room) = c.loop-pulled.invariant.went in
    let short : length (take c.in-Ok.count c.read_piece.new.piece) ≤ PULL_TURN_BYTES = omega (arith, length-take c.in-Ok.count c.read_piece.new.piece, c.read_piece.ensures.size, c.loop-pulled.invariant.room) in
    let few = standing_room _ _ _ _ _ c.loop-pulled.pulled standing _ c.loop-pulled.channel.turns_left c.read_piece.new.channel.turns_left c.args.channel.now.turns_left short room c.in-Ok.ensures.spent c.args.channel.now.in_budget in
    record { few = (standing.held, standing.partial, standing.waits, few) }

pub returns-in-Err-take_piece-clause-ends : goal.returns-in-Err-take_piece-clause-ends
returns-in-Err-take_piece-clause-ends g c =
    let (read, consumed, standing, room) = c.loop-pulled.invariant.went in
    let more = Consumes-trans _ _ _ _ _ consumed c.in-Ok.ensures.bytes.0 in
    let went = c.in-Err-take_piece.ensures.goes _ read standing.held standing.partial standing.waits standing.received in (
      read ++ take c.in-Ok.count c.read_piece.new.piece,
      more,
      rw c.behind-in-Err-take_piece.ensures (ends_anywhere {S = g.row.P.Denot} (record { list = g.P.Replica.list; takes = g.P.Replica.takes }) c.args.replica.now c.take_piece.new.replica (read ++ take c.in-Ok.count c.read_piece.new.piece)
          (IsAtEnd (g.R.Read.remaining c.read_piece.new.channel.reader)) c.take_piece.new.pulled c.in-Err-take_piece.stop.refused c.in-Err-take_piece.stop.fault went),
    )

pub returns-in-Ok-true-clause-ends : goal.returns-in-Ok-true-clause-ends
returns-in-Ok-true-clause-ends g c =
    let (read, consumed, standing, room) = c.loop-pulled.invariant.went in
    let more = Consumes-trans _ _ _ _ _ consumed c.in-Ok.ensures.bytes.0 in
    let went = c.in-Ok-true.ensures.goes _ read standing.held standing.partial standing.waits standing.received in
    (read ++ take c.in-Ok.count c.read_piece.new.piece, more, rw c.in-Ok-true.field-0-test at went)

pub loop-pulled-preserved : goal.loop-pulled-preserved
loop-pulled-preserved g c =
    let (read, consumed, standing, room) = c.loop-pulled.invariant.went in
    let more = Consumes-trans _ _ _ _ _ consumed c.in-Ok.ensures.bytes.0 in
    let went = c.in-Ok-false.ensures.goes _ read standing.held standing.partial standing.waits standing.received in
    let some = length-take c.in-Ok.count c.read_piece.new.piece in
    record {
      went = (
        read ++ take c.in-Ok.count c.read_piece.new.piece,
        more,
        rw c.in-Ok-false.field-0-test at went,
        omega (arith, room, some, c.read_piece.ensures.size, c.loop-pulled.invariant.room, c.in-Ok.ensures.spent, length-append read (take c.in-Ok.count c.read_piece.new.piece)),
      );
      room = c.read_piece.ensures.size ∙ c.loop-pulled.invariant.room;
      fewer = omega (arith, c.loop-pulled.invariant.fewer, c.read_piece.ensures.turns);
      other = (c.read_piece.ensures.other.0 ∙ c.loop-pulled.invariant.other.0, c.read_piece.ensures.other.1 ∙ c.loop-pulled.invariant.other.1);
    }

pub returns-in-Err-clause-ends : goal.returns-in-Err-clause-ends
returns-in-Err-clause-ends g c =
    let (read, consumed, standing, room) = c.loop-pulled.invariant.went in
    let kept = Consumes-kept _ _ _ _ consumed c.in-Err.ensures.bytes in
    let ended = ends_reading {S = g.row.P.Denot} (record { list = g.P.Replica.list; takes = g.P.Replica.takes }) c.args.replica.now c.loop-pulled.replica read
    (IsAtEnd (g.R.Read.remaining c.read_piece.new.channel.reader)) c.loop-pulled.pulled c.in-Err.fault c.in-Err.ensures.fault (stands _ _ _ _ _ _ standing) in
    (read, kept, rw (c.behind-in-Err.ensures, c.from-in-Err.ensures) ended)

pub returns-in-Ok-eq0-clause-ends : goal.returns-in-Ok-eq0-clause-ends
returns-in-Ok-eq0-clause-ends g c =
    let (read, consumed, standing, room) = c.loop-pulled.invariant.went in
    let taken = c.in-Ok-eq0.ensures.bytes in
    let some : 0 < length c.read_piece.new.piece = omega (arith, c.read_piece.ensures.size, c.loop-pulled.invariant.room) in
    (read, consumes_none _ _ _ read _ _ c.in-Ok-eq0.field-0-test consumed taken.0, rw (c.behind.ensures, c.from.ensures) (taken.1 c.in-Ok-eq0.field-0-test some, stands _ _ _ _ _ _ standing, refl))

pub returns-in-Ok-true-clause-few : goal.returns-in-Ok-true-clause-few
returns-in-Ok-true-clause-few g c =
    let (read, consumed, standing, room) = c.loop-pulled.invariant.went in
    let went = c.in-Ok-true.ensures.goes _ read standing.held standing.partial standing.waits standing.received in
    let few = few_ended {S = g.row.P.Denot} (record { list = g.P.Replica.list; takes = g.P.Replica.takes }) c.args.replica.now c.take_piece.new.replica
    (read ++ take c.in-Ok.count c.read_piece.new.piece) ⊥ c.take_piece.new.pulled (rw c.in-Ok-true.field-0-test at went) in
    let some = length-take c.in-Ok.count c.read_piece.new.piece in
    omega (arith, few, room, some, c.read_piece.ensures.size, c.loop-pulled.invariant.room, c.in-Ok.ensures.spent, c.args.channel.now.in_budget, length-append read (take c.in-Ok.count c.read_piece.new.piece))
