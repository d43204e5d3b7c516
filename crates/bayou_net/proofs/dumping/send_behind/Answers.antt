use Rattle.std.proofs.Common.{arith, ◌<◌, ◌∙◌, ap, length, subst}
use Rattle.std.proofs.lemmas.Result.{err_from_is_err_and}
use Rattle.std.specs.Io.KnownBytes.{Appends}
use Rattle.bayou_net.specs.Inner.Dumping.{IsPart}
use Rattle.bayou_net.proofs.Dumped.{dumped_more, dumped_part, dumped_stop, dumped_whole, part_some}
use Rattle.bayou_streams.specs.Written.{AppendsFront}
use Rattle.bayou_net.proofs.dumping.send_behind.Goals as goal

pub returns-in_err-part-clause-sends : goal.returns-in_err-part-clause-sends
returns-in_err-part-clause-sends g c before prior =
    let loop = c.loop-part in
    let fails = err_from_is_err_and c.from_residual.result c.from_residual.ensures.1 in
    rw fails.1 (dumped_stop (g.S.Replica.list c.args.served.now) before (g.W.Write.contents loop.channel.writer) loop.number fails.0 (loop.invariant.sent before prior))

pub returns-then-part-eq0-clause-sends : goal.returns-then-part-eq0-clause-sends
returns-then-part-eq0-clause-sends g c before prior =
    let loop = c.loop-part in
    let part = c.in_ok-part.part in
    let stands = subst (λ served. IsPart (g.S.Replica.list served) loop.number part.text.items part.number) loop.invariant.same c.in_ok-part.ensures.part in
    dumped_whole (g.S.Replica.list c.args.served.now) before (g.W.Write.contents loop.channel.writer) loop.number part.text.items part.number (loop.invariant.sent before prior) stands c.if-part-eq0.true

pub returns-in_err-send-clause-sends : goal.returns-in_err-send-clause-sends
returns-in_err-send-clause-sends g c before prior =
    let loop = c.loop-part in
    let part = c.in_ok-part.part in
    let mid = g.W.Write.contents loop.channel.writer in
    let after = g.W.Write.contents c.send.new.channel.writer in
    let stands = subst (λ served. IsPart (g.S.Replica.list served) loop.number part.text.items part.number) loop.invariant.same c.in_ok-part.ensures.part in
    let fails = err_from_is_err_and c.from_residual-in_err-send.result c.from_residual-in_err-send.ensures.1 in
    let front = subst (AppendsFront mid after) c.deref.ensures.value c.in_err-send.ensures.part in
    rw fails.1 (dumped_part (g.S.Replica.list c.args.served.now) before mid after loop.number part.text.items part.number fails.0 (loop.invariant.sent before prior) stands front)

pub loop-part-smaller : goal.loop-part-smaller
loop-part-smaller g c =
    let part = c.in_ok-part.part in
    let some : 0 < part.number = omega (arith, c.if-part-eq0.false) in
    let bytes = part_some (g.S.Replica.list c.loop-part.served) c.loop-part.number part.text.items part.number c.in_ok-part.ensures.part some in
    c.in_ok-send.ensures.spent (omega (arith, bytes, ap length c.deref.ensures.value))

pub loop-part-preserved : goal.loop-part-preserved
loop-part-preserved g c =
    let loop = c.loop-part in
    let part = c.in_ok-part.part in
    let mid = g.W.Write.contents loop.channel.writer in
    let after = g.W.Write.contents c.send.new.channel.writer in
    let stands = subst (λ served. IsPart (g.S.Replica.list served) loop.number part.text.items part.number) loop.invariant.same c.in_ok-part.ensures.part in
    let some : 0 < part.number = omega (arith, c.if-part-eq0.false) in
    let bytes = part_some (g.S.Replica.list c.args.served.now) loop.number part.text.items part.number stands some in
    let spent = c.in_ok-send.ensures.spent (omega (arith, bytes, ap length c.deref.ensures.value)) in
    record {
      same = c.in_ok-part.ensures.same ∙ loop.invariant.same;
      sent = λ before prior.
          dumped_more (g.S.Replica.list c.args.served.now) before mid after loop.number part.text.items part.number (loop.invariant.sent before prior) stands
          (subst (Appends mid after) c.deref.ensures.value c.in_ok-send.ensures.whole);
      few = omega (arith, loop.invariant.few, c.in_ok-part.ensures.few, spent);
      fewer = omega (arith, loop.invariant.fewer, spent);
      reader = (c.in_ok-send.ensures.other.0 ∙ loop.invariant.reader.0, c.in_ok-send.ensures.other.1 ∙ loop.invariant.reader.1);
    }
