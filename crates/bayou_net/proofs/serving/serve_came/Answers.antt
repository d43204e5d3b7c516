use Rattle.std.proofs.Common.{arith, ap, ◌++◌, ◌∙◌}
use Rattle.std.proofs.lemmas.List.{drop_all}
use Rattle.std.proofs.lemmas.Result.{err_from_is_err_and}
use Rattle.bayou_net.proofs.Done.{ends_at_one, served_one, served_rest}
use Rattle.bayou_wire.specs.Laws.Frames.{frame_at, next_frame}
use Rattle.bayou_wire.specs.Stream.{spellings}
use Rattle.bayou_net.proofs.serving.serve_came.Goals as goal

pub returns-in_err-do_one-clause-goes : goal.returns-in_err-do_one-clause-goes
returns-in_err-do_one-clause-goes g c start read behind before all prior =
    let frame = c.request-item.result in
    let is = frame_at c.args.frames.now c.loop-request.request-index frame all c.loop-request-test.true c.request-item.is in
    let next = next_frame c.args.frames.now c.loop-request.request-index frame behind c.loop-request-test.true c.request-item.is in
    let stands = served_rest _ start _ read _ _ _ _ _ next (c.loop-request.invariant.went start read behind before all prior) in
    let went = ends_at_one _ start _ _ read _ frame _ _ _ _ (Unit {0}) c.in_err-do_one.field-0.0 is c.in_err-do_one.ensures.does stands in
    let p = err_from_is_err_and c.from_residual.result c.from_residual.ensures.1 in
    rw (p.1, p.2) went

pub loop-request-preserved : goal.loop-request-preserved
loop-request-preserved g c = record {
  few = omega (arith, c.loop-request.invariant.few);
  went = λ start read behind before all prior.
      let frame = c.request-item.result in
      let is = frame_at c.args.frames.now c.loop-request.request-index frame all c.loop-request-test.true c.request-item.is in
      let next = next_frame c.args.frames.now c.loop-request.request-index frame behind c.loop-request-test.true c.request-item.is in
      let stands = served_rest _ start _ read _ _ _ _ _ next (c.loop-request.invariant.went start read behind before all prior) in
      served_one _ start _ _ read _ frame _ _ _ _ is c.in_ok-do_one.ensures.does stands;
  fewer = omega (arith, c.loop-request.invariant.fewer, c.do_one.ensures.turns);
  other = (c.do_one.ensures.reader.0 ∙ c.loop-request.invariant.other.0, c.do_one.ensures.reader.1 ∙ c.loop-request.invariant.other.1);
}

pub returns-clause-goes : goal.returns-clause-goes
returns-clause-goes g c start read behind before all prior =
    let none = drop_all c.loop-request.request-index c.args.frames.now (let past = c.loop-request-test.false in omega arith) in
    served_rest _ start _ read _ behind _ _ _ (ap (λ frames. spellings frames ++ behind) none) (c.loop-request.invariant.went start read behind before all prior)
