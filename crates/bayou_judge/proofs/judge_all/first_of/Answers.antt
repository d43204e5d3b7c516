use Rattle.std.proofs.Common.{◌<◌, Some, length, sym, ap, ◌∙◌, arith}
use Rattle.std.proofs.lemmas.Option.{slice_get-get_or}
use Rattle.bayou_judge.specs.Inner.Verdicts.{AreUnasked}
use Rattle.bayou_judge.proofs.Sessions.{all_before, all_more, all_taken}
use Rattle.bayou_judge.proofs.judge_all.first_of.Goals as goal

pub returns-in-Some : goal.returns-in-Some
returns-in-Some c =
    let list = c.args.list.now in
    let k = c.loop-surveyed.surveyed-index in
    let within : k < length list = omega (arith, c.loop-surveyed-test.true) in (
      k,
      c.surveyed-item.result,
      slice_get-get_or list k c.surveyed-item.result within ∙ ap Some (sym c.surveyed-item.is),
      c.in-Some.ensures.0,
      c.in-Some.ensures.1,
      λ place other before got. all_before (AreUnasked c.args.entries.now) list k place other c.loop-surveyed.invariant (omega (arith, within)) before got,
    )

pub loop-surveyed-preserved : goal.loop-surveyed-preserved
loop-surveyed-preserved c =
    all_more (AreUnasked c.args.entries.now) c.args.list.now c.loop-surveyed.surveyed-index c.surveyed-item.result (omega (arith, c.loop-surveyed-test.true)) c.surveyed-item.is c.in_default.ensures c.loop-surveyed.invariant

pub returns : goal.returns
returns c = all_taken (AreUnasked c.args.entries.now) c.args.list.now c.loop-surveyed.surveyed-index (omega (arith, c.loop-surveyed-test.false)) c.loop-surveyed.invariant
