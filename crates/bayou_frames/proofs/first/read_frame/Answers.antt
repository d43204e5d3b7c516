use Rattle.std.proofs.Common.{◌<◌, length, arith, ◌++◌, ◌∙◌, take, subst, Option, Ok}
use Rattle.std.proofs.KnownBytes.{Consumes-kept, Consumes-trans}
use Rattle.std.proofs.lemmas.Result.{err_from_is_err_and}
use Rattle.std.specs.Io.KnownBytes.{IsAtEnd}
use Rattle.bayou_frames.specs.First.{FirstOf, StopsInTime}
use Rattle.bayou_frames.proofs.OneFrame.{fails_anywhere, fails_reading, stops_before, stops_in_time}
use Rattle.bayou_frames.specs.Laws.Bytes.{consumes_none}
use Rattle.bayou_frames.proofs.first.read_frame.Goals as goal
use Rattle.bayou_wire.specs.declared.frame.Frame.{Frame}

pub returns-in_err-frame-clause-reads : goal.returns-in_err-frame-clause-reads
returns-in_err-frame-clause-reads g c =
    let (read, consumed, partial, waits) = c.loop-frames.invariant.went in
    let all = read ++ take c.in_ok-count.count c.read_piece.new.piece in
    let more = Consumes-trans _ _ _ _ _ consumed c.in_ok-count.ensures.bytes.0 in
    let went = c.in_err-frame.ensures.first read partial waits in
    let in_time : StopsInTime all = stops_in_time read c.in_ok-count.count c.read_piece.new.piece partial (c.read_piece.ensures.size ∙ c.loop-frames.invariant.room) in
    let fails = err_from_is_err_and c.from_residual-in_err-frame.result c.from_residual-in_err-frame.ensures.1 in
    (all, more, in_time, rw (fails.1, fails.2) (fails_anywhere all (IsAtEnd (g.R.Read.remaining c.read_piece.new.channel.reader)) c.in_err-frame.field-0.0 went))

pub returns-in-Some-clause-reads : goal.returns-in-Some-clause-reads
returns-in-Some-clause-reads g c =
    let (read, consumed, partial, waits) = c.loop-frames.invariant.went in
    let all = read ++ take c.in_ok-count.count c.read_piece.new.piece in
    let more = Consumes-trans _ _ _ _ _ consumed c.in_ok-count.ensures.bytes.0 in
    let went = c.in_ok-frame.ensures.first read partial waits in
    let in_time : StopsInTime all = stops_in_time read c.in_ok-count.count c.read_piece.new.piece partial (c.read_piece.ensures.size ∙ c.loop-frames.invariant.room) in
    (all, more, in_time, subst (λ (first : Option Frame). FirstOf all c.first_of.new.frames (Ok first)) c.in-Some.is went)

pub loop-frames-preserved : goal.loop-frames-preserved
loop-frames-preserved g c =
    let (read, consumed, partial, waits) = c.loop-frames.invariant.went in
    let all = read ++ take c.in_ok-count.count c.read_piece.new.piece in
    let more = Consumes-trans _ _ _ _ _ consumed c.in_ok-count.ensures.bytes.0 in
    let went = c.in_ok-frame.ensures.first read partial waits in
    let waits_on = subst (λ (first : Option Frame). FirstOf all c.first_of.new.frames (Ok first)) c.in_default.is went in
    record {
      went = (all, more, waits_on.0, waits_on.1);
      room = c.read_piece.ensures.size ∙ c.loop-frames.invariant.room;
      fewer = omega (arith, c.loop-frames.invariant.fewer, c.read_piece.ensures.turns);
      other = (c.read_piece.ensures.other.0 ∙ c.loop-frames.invariant.other.0, c.read_piece.ensures.other.1 ∙ c.loop-frames.invariant.other.1);
    }

pub returns-in_err-count-clause-reads : goal.returns-in_err-count-clause-reads
returns-in_err-count-clause-reads g c =
    let (read, consumed, partial, waits) = c.loop-frames.invariant.went in
    let kept = Consumes-kept _ _ _ _ consumed c.in_err-count.ensures.bytes in
    let fails = err_from_is_err_and c.from_residual.result c.from_residual.ensures.1 in
    (read, kept, stops_before read partial, rw (fails.1, fails.2) (fails_reading read (IsAtEnd (g.R.Read.remaining c.read_piece.new.channel.reader)) c.in_err-count.field-0.0 c.in_err-count.ensures.fault partial))

pub returns-then-count-eq0-clause-reads : goal.returns-then-count-eq0-clause-reads
returns-then-count-eq0-clause-reads g c =
    let (read, consumed, partial, waits) = c.loop-frames.invariant.went in
    let taken = c.in_ok-count.ensures.bytes in
    let some : 0 < length c.read_piece.new.piece = omega (arith, c.read_piece.ensures.size, c.loop-frames.invariant.room) in
    (read, consumes_none _ _ _ read _ _ c.if-count-eq0.true consumed taken.0, stops_before read partial, (taken.1 c.if-count-eq0.true some, partial))
