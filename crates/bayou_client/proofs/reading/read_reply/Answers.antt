use Rattle.std.proofs.Common.{◌<◌, length, arith, ◌++◌, ◌∙◌, take, subst, Option, Ok}
use Rattle.std.proofs.KnownBytes.{Consumes-kept, Consumes-trans}
use Rattle.std.proofs.lemmas.Result.{err_from_is_err_and}
use Rattle.std.specs.Io.KnownBytes.{IsAtEnd}
use Rattle.bayou_client.specs.Inner.Taking.{TakesPiece}
use Rattle.bayou_client.proofs.Growing.{ends_anywhere, fails_reading}
use Rattle.bayou_frames.specs.Laws.Bytes.{consumes_none}
use Rattle.bayou_client.proofs.reading.read_reply.Goals as goal
use Rattle.bayou_wire.specs.declared.frame.Frame.{Frame}

pub returns-in_err-last-clause-reads : goal.returns-in_err-last-clause-reads
returns-in_err-last-clause-reads g c =
    let (read, rest, consumed, partial, waits, begins) = c.loop-writes.invariant.went in
    let all = read ++ take c.in_ok-count.count c.read_piece.new.piece in
    let more = Consumes-trans _ _ _ _ _ consumed c.in_ok-count.ensures.bytes.0 in
    let went = c.in_err-last.ensures.takes read rest partial waits begins in
    let fails = err_from_is_err_and c.from_residual-in_err-last.result c.from_residual-in_err-last.ensures.1 in
    (all, more, rw (fails.1, fails.2) (ends_anywhere c.args.many all (IsAtEnd (g.R.Read.remaining c.read_piece.new.channel.reader)) c.in_err-last.field-0.0 went))

pub returns-in-Some-clause-reads : goal.returns-in-Some-clause-reads
returns-in-Some-clause-reads g c =
    let (read, rest, consumed, partial, waits, begins) = c.loop-writes.invariant.went in
    let all = read ++ take c.in_ok-count.count c.read_piece.new.piece in
    let more = Consumes-trans _ _ _ _ _ consumed c.in_ok-count.ensures.bytes.0 in
    let went = c.in_ok-last.ensures.takes read rest partial waits begins in
    (all, more, subst (λ (o : Option Frame). TakesPiece c.args.many all c.take_piece.new.frames c.take_piece.new.writes.items (Ok o)) c.in-Some.is went)

pub loop-writes-preserved : goal.loop-writes-preserved
loop-writes-preserved g c =
    let (read, rest, consumed, partial, waits, begins) = c.loop-writes.invariant.went in
    let all = read ++ take c.in_ok-count.count c.read_piece.new.piece in
    let more = Consumes-trans _ _ _ _ _ consumed c.in_ok-count.ensures.bytes.0 in
    let went = c.in_ok-last.ensures.takes read rest partial waits begins in
    let waits_on = subst (λ (o : Option Frame). TakesPiece c.args.many all c.take_piece.new.frames c.take_piece.new.writes.items (Ok o)) c.in_default.is went in
    record {
      went = (all, waits_on.0, more, waits_on.1, waits_on.2, waits_on.3);
      room = c.read_piece.ensures.size ∙ c.loop-writes.invariant.room;
      fewer = omega (arith, c.loop-writes.invariant.fewer, c.read_piece.ensures.turns);
      other = (c.read_piece.ensures.other.0 ∙ c.loop-writes.invariant.other.0, c.read_piece.ensures.other.1 ∙ c.loop-writes.invariant.other.1);
    }

pub returns-in_err-count-clause-reads : goal.returns-in_err-count-clause-reads
returns-in_err-count-clause-reads g c =
    let (read, rest, consumed, partial, waits, begins) = c.loop-writes.invariant.went in
    let kept = Consumes-kept _ _ _ _ consumed c.in_err-count.ensures.bytes in
    let fails = err_from_is_err_and c.from_residual.result c.from_residual.ensures.1 in (
      read,
      kept,
      rw (fails.1, fails.2) (fails_reading c.args.many read (IsAtEnd (g.R.Read.remaining c.read_piece.new.channel.reader)) c.in_err-count.field-0.0 c.in_err-count.ensures.fault
          (c.loop-writes.writes.items, rest, partial, begins)),
    )

pub returns-then-count-eq0-clause-reads : goal.returns-then-count-eq0-clause-reads
returns-then-count-eq0-clause-reads g c =
    let (read, rest, consumed, partial, waits, begins) = c.loop-writes.invariant.went in
    let taken = c.in_ok-count.ensures.bytes in
    let some : 0 < length c.read_piece.new.piece = omega (arith, c.read_piece.ensures.size, c.loop-writes.invariant.room) in
    (read, consumes_none _ _ _ read _ _ c.if-count-eq0.true consumed taken.0, (taken.1 c.if-count-eq0.true some, (c.loop-writes.writes.items, rest, partial, begins)))
