use Rattle.std.proofs.Common.{◌≡◌, ◌<◌, ◌≤◌, inl, max, nat_lt, true, false, slice_index, slice_index_or, ap, sym, ◌∙◌, refl, subst, arith}
use Rattle.std.proofs.lemmas.Bool.Decides.{nat_tests}
use Rattle.bayou_base.specs.Vector.{Dominates}
use Rattle.bayou_lang.specs.Writes.{covered_by, greatest_clock}
use Rattle.bayou_lang.specs.Laws.Fitting.{covered_by-fitting, covered_clock-most, greatest_clock-most}
use Rattle.bayou_log.specs.Log.{Log}
use Rattle.bayou_lang.specs.Laws.Clocks.{IsLastClock, IsReached, IsReached-more, reached_bound}
use Rattle.bayou_log.proofs.write_log.WriteLog.clock_among.Goals as goal

pub returns-then-dominates-clause-value : goal.returns-then-dominates-clause-value
returns-then-dominates-clause-value c =
    let inside = c.self.inside in
    let writes = inside.writes.items in
    let counts = c.args.counts.now in
    let greater = subst (Dominates counts) c.self.invariant.1.counted (c.dominates.ensures.counts.0 c.if-dominates.true) in
    let kept : inside.clock ≡ greatest_clock (covered_by counts writes) =
    c.self.invariant.1.latest ∙ sym (ap greatest_clock (covered_by-fitting inside.count writes counts c.self.invariant.0.fitting greater)) in
    subst (λ (log : Log). inside.clock ≡ greatest_clock (covered_by counts log.receipts)) c.self.view_is kept

pub returns-then-dominates-clause-in_range : goal.returns-then-dominates-clause-in_range
returns-then-dominates-clause-in_range c =
    let kept = c.self.invariant.0 in
    omega (arith, c.self.invariant.1.latest, greatest_clock-most c.self.inside.count c.self.inside.writes.items kept.fitting, kept.within, kept.limit_in_range)

pub loop-server-init : goal.loop-server-init
loop-server-init c = record {
  greatest = λ k d within below. absurd (omega arith);
  reached = inl refl;
}

pub last_clock-requires-clause-held : goal.last_clock-requires-clause-held
last_clock-requires-clause-held c =
    omega (arith, c.requires c.loop-server.server c.loop-server-test.true, ap (λ list. slice_index list c.loop-server.server) c.counts.ensures.value)

pub loop-server-preserved : goal.loop-server-preserved
loop-server-preserved c =
    let server = c.loop-server.server in
    let counts = c.args.counts.now in
    let receipts = c.args.self.now.receipts in
    let last : IsLastClock server (slice_index counts server) receipts c.last_clock.result =
    subst (λ list. IsLastClock server (slice_index list server) receipts c.last_clock.result) c.counts.ensures.value c.last_clock.ensures in
    let max_is : c.max-clock.result ≡ max c.loop-server.clock c.last_clock.result = grind (arith, nat_tests, c.max-clock.ensures) in
    record {
      greatest = λ k d within below counted.
          let held = slice_index_or receipts k d in
          elim (nat_lt held.wid.origin.index server) as (λ t. nat_lt held.wid.origin.index server ≡ t → held.stamp.clock ≤ c.max-clock.result) [
            | true ↦ λ is.
                let before : held.wid.origin.index < server = grind (arith, nat_tests) in
                omega (arith, c.loop-server.invariant.greatest k d within before counted, max_is)
            | false ↦ λ isnt.
                let at : held.wid.origin.index ≡ server = grind (arith, nat_tests, below) in
                omega (arith, last.greatest k d within at (subst (λ s. held.wid.seq ≤ slice_index counts s) at counted), max_is)
          ] refl;
      reached = subst (IsReached counts receipts) (sym max_is) (IsReached-more counts receipts server c.loop-server.clock c.last_clock.result c.loop-server.invariant.reached last);
    }

pub returns-clause-value : goal.returns-clause-value
returns-clause-value c =
    reached_bound c.args.counts.now c.args.self.now.receipts c.loop-server.clock
    (λ k d within counted. c.loop-server.invariant.greatest k d within (omega (arith, (slice_index_or c.args.self.now.receipts k d).wid.origin.in_range, c.loop-server-test.false)) counted) c.loop-server.invariant.reached

pub returns-clause-in_range : goal.returns-clause-in_range
returns-clause-in_range c =
    let kept = c.self.invariant.0 in
    let writes = c.self.inside.writes.items in
    let counts = c.args.counts.now in
    let value = subst (λ (log : Log). c.loop-server.clock ≡ greatest_clock (covered_by counts log.receipts)) (sym c.self.view_is) (returns-clause-value c) in
    omega (arith, value, covered_clock-most counts writes, greatest_clock-most c.self.inside.count writes kept.fitting, kept.within, kept.limit_in_range)
