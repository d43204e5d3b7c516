use Rattle.std.proofs.Common.{◌≡◌, ◌<◌, ◌≤◌, inl, max, nat_lt, true, false, slice_index, slice_index_or, sym, refl, subst, arith}
use Rattle.std.proofs.lemmas.Bool.Decides.{nat_tests}
use Rattle.bayou_lang.specs.Laws.Clocks.{reached_bound, IsReached, IsReached-more}
use Rattle.bayou_judge.proofs.fitting.clock_among.Goals as goal

pub loop-server-init : goal.loop-server-init
loop-server-init c = record {
  greatest = λ k d within below. absurd (omega arith);
  in_range = omega arith;
  reached = inl refl;
}

pub loop-server-preserved : goal.loop-server-preserved
loop-server-preserved c =
    let server = c.loop-server.server in
    let counts = c.args.counts.now in
    let writes = c.args.held.now in
    let last = c.last_clock.ensures.value in
    let max_is : c.max-clock.result ≡ max c.loop-server.clock c.last_clock.result = grind (arith, nat_tests, c.max-clock.ensures) in
    record {
      greatest = λ k d within below counted.
          let held = slice_index_or writes k d in
          elim (nat_lt held.wid.origin.index server) as (λ t. nat_lt held.wid.origin.index server ≡ t → held.stamp.clock ≤ c.max-clock.result) [
            | true ↦ λ is.
                let before : held.wid.origin.index < server = grind (arith, nat_tests) in
                omega (arith, c.loop-server.invariant.greatest k d within before counted, max_is)
            | false ↦ λ isnt.
                let at : held.wid.origin.index ≡ server = grind (arith, nat_tests, below) in
                omega (arith, last.greatest k d within at (subst (λ s. held.wid.seq ≤ slice_index counts s) at counted), max_is)
          ] refl;
      in_range = omega (arith, max_is, c.loop-server.invariant.in_range, c.last_clock.ensures.in_range);
      reached = subst (IsReached counts writes) (sym max_is) (IsReached-more counts writes server c.loop-server.clock c.last_clock.result c.loop-server.invariant.reached last);
    }

pub returns-clause-value : goal.returns-clause-value
returns-clause-value c =
    reached_bound c.args.counts.now c.args.held.now c.loop-server.clock
    (λ k d within counted. c.loop-server.invariant.greatest k d within (omega (arith, (slice_index_or c.args.held.now k d).wid.origin.in_range, c.loop-server-test.false)) counted) c.loop-server.invariant.reached
