use Rattle.std.proofs.Common.{arith, ◌+◌, ◌++◌, drop, refl}
use Rattle.bayou_wire.specs.Laws.Frames.{frame_at, next_frame}
use Rattle.std.proofs.lemmas.Result.{err_from_is_err_and}
use Rattle.bayou_client.proofs.Growing.{ends_before, ended, kept, not_kept, rest_is}
use Rattle.bayou_client.proofs.reading.take_items.Goals as goal
use Rattle.bayou_wire.specs.Stream.{spellings}

pub returns-in_default-clause-takes : goal.returns-in_default-clause-takes
returns-in_default-clause-takes c read behind some all before =
    let frame = c.frame-item.result in
    let is = frame_at c.args.frames.now c.loop-frame.frame-index frame all c.loop-frame-test.true c.frame-item.is in
    let next = next_frame c.args.frames.now c.loop-frame.frame-index frame behind c.loop-frame-test.true c.frame-item.is in
    let stands = rest_is c.args.many read c.loop-frame.writes.items _ _ next (c.loop-frame.invariant.went read behind all before) in
    ends_before c.args.many read behind (spellings (drop (c.loop-frame.frame-index + 1) c.args.frames.now)) c.loop-frame.writes.items frame some (c.in_default.ensures.last refl is) stands

pub returns-in_err-keep-clause-takes : goal.returns-in_err-keep-clause-takes
returns-in_err-keep-clause-takes c read behind some all before =
    let frame = c.frame-item.result in
    let is = frame_at c.args.frames.now c.loop-frame.frame-index frame all c.loop-frame-test.true c.frame-item.is in
    let next = next_frame c.args.frames.now c.loop-frame.frame-index frame behind c.loop-frame-test.true c.frame-item.is in
    let stands = rest_is c.args.many read c.loop-frame.writes.items _ _ next (c.loop-frame.invariant.went read behind all before) in
    let told = err_from_is_err_and c.from_residual.result c.from_residual.ensures.1 in
    rw (told.1, told.2)
    (not_kept c.args.many read (spellings (drop (c.loop-frame.frame-index + 1) c.args.frames.now) ++ behind) c.loop-frame.writes.items c.in-Some.write.now frame _ c.in-Some.ensures.item.1 c.in_err-keep.ensures.refused stands)

pub loop-frame-preserved : goal.loop-frame-preserved
loop-frame-preserved c = record {
  went = λ read behind all before.
      let frame = c.frame-item.result in
      let is = frame_at c.args.frames.now c.loop-frame.frame-index frame all c.loop-frame-test.true c.frame-item.is in
      let next = next_frame c.args.frames.now c.loop-frame.frame-index frame behind c.loop-frame-test.true c.frame-item.is in
      let stands = rest_is c.args.many read c.loop-frame.writes.items _ _ next (c.loop-frame.invariant.went read behind all before) in
      kept c.args.many read (spellings (drop (c.loop-frame.frame-index + 1) c.args.frames.now) ++ behind) c.loop-frame.writes.items c.keep.new.writes.items c.in-Some.write.now frame
      c.in-Some.ensures.item.0 c.in-Some.ensures.item.1 c.in_ok-keep.ensures.kept.0 c.in_ok-keep.ensures.kept.1 is stands;
}

pub returns-clause-takes : goal.returns-clause-takes
returns-clause-takes c read behind some all before = rest_is c.args.many read c.loop-frame.writes.items _ _ (ended c.args.frames.now c.loop-frame.frame-index behind (omega (arith, c.loop-frame-test.false))) (c.loop-frame.invariant.went read behind all before)
