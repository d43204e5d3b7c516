use Rattle.std.proofs.Common.{◌≡◌, ℕ, zero, suc, ◌+◌, ◌<◌, arith, rules, inl}
use Rattle.bayou_base.specs.declared.limits.TheConstants.{MAX_WAITS}
use Rattle.bayou_streams.specs.Lines.{counted}
use Rattle.bayou_streams.specs.Waits.{Waited}
use Rattle.bayou_streams.proofs.patient.PatientRead.read.Goals as goal

-- one call more, for one yes more
once_more : (count mid now more : ℕ) → mid ≡ counted count more → now ≡ counted mid 1 → now ≡ counted count (more + 1)
once_more count mid now zero is then = search rules
once_more count mid now (suc more) is then = search rules

-- both counts of a round
one_each : (asked_before asked_mid asked_now calls_before calls_mid calls_now round : ℕ) → round < MAX_WAITS
    → asked_mid ≡ counted asked_before round → asked_now ≡ counted asked_mid 1
    → calls_mid ≡ counted calls_before round → calls_now ≡ counted calls_mid 1
    → Waited asked_before asked_now calls_before calls_now (round + 1) (round + 1)
one_each asked_before asked_mid asked_now calls_before calls_mid calls_now round within asked_is asked_then calls_is calls_then = record {
  each = once_more asked_before asked_mid asked_now round asked_is asked_then;
  called = once_more calls_before calls_mid calls_now round calls_is calls_then;
  at_most = omega arith;
}

pub returns-in-Err-2-clause-waited : goal.returns-in-Err-2-clause-waited
returns-in-Err-2-clause-waited g c = (
  c.loop.counter + 1,
  inl (inl (
    omega arith,
    search rules,
    one_each _ _ _ _ _ _ c.loop.counter (omega arith) c.loop.invariant.asked c.waits_on.ensures.counts c.loop.invariant.called c.call.ensures.counts,
  )),
)

pub returns-in-Ok-clause-waited : goal.returns-in-Ok-clause-waited
returns-in-Ok-clause-waited g c = (
  c.loop.counter + 1,
  omega arith,
  one_each _ _ _ _ _ _ c.loop.counter (omega arith) c.loop.invariant.asked c.waits_on.ensures.counts c.loop.invariant.called c.call.ensures.counts,
)
