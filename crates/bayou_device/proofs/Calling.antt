-- What one call comes to.
use Rattle.std.proofs.Common.{◌≡◌, ℕ, ◌+◌, ◌-◌, ◌<◌, ◌≤◌, List, Option, None, Some, Bool, true, false, nat_le, refl, sym, subst, arith, leb-true}
use Rattle.bayou_device.specs.declared.fuse.Fuse.{Fuse}
use Rattle.bayou_device.specs.Device.{greatest_count}
use Rattle.bayou_device.specs.Memory.{AreCounts, LeadsTo, Memory, after_call, burnt, calls_left, counted, front_due, waiting}

-- the fuse and the counts after one call, at which memory is not lacked
pub record Called (fuse after : Option Fuse) (failures risen : ℕ) : Type 0 where
  pub no_fuse : waiting after ≤ waiting fuse
  pub no_less : failures ≤ risen
  pub one_each : risen + waiting after ≤ failures + waiting fuse
  pub in_time : 1 < calls_left fuse → risen ≤ failures
  pub counts_down : 1 < calls_left fuse → calls_left fuse ≤ calls_left after + 1

pub called : (fuse : Option Fuse) (failures : ℕ) → failures ≤ greatest_count → Called fuse (burnt fuse) failures (counted (front_due fuse) failures)
called None failures within = record { no_fuse = omega arith; no_less = omega arith; one_each = omega arith; in_time = λ late. omega arith; counts_down = λ late. omega arith }
called (Some fuse) failures within = go (nat_le fuse.calls 1) refl
  where
    go : (b : Bool) → nat_le fuse.calls 1 ≡ b → Called (Some fuse) (burnt (Some fuse)) failures (counted (front_due (Some fuse)) failures)
    go true due = rw due record {
      no_fuse = omega arith;
      no_less = omega arith;
      one_each = omega arith;
      in_time = λ late. let more : 1 < fuse.calls = late in absurd (omega (arith, more, leb-true fuse.calls 1 due));
      counts_down = λ late. let more : 1 < fuse.calls = late in absurd (omega (arith, more, leb-true fuse.calls 1 due));
    }
    go false late = rw late record {
      no_fuse = omega arith;
      no_less = omega arith;
      one_each = omega arith;
      in_time = λ _. omega arith;
      counts_down = λ _. let whole : fuse.calls ≤ fuse.calls - 1 + 1 = omega arith in whole;
    }

-- a call that finds memory
pub of_call : (before after : Memory) (bytes : List ℕ) (synced : ℕ) → AreCounts before.calls before.failures before.lacks → after ≡ record (after_call before) { bytes = bytes; synced = synced } → LeadsTo 1 before after
of_call before after bytes synced counts is =
    let one = called before.fuse before.failures counts.failures_within in
    subst (λ (d : Memory). LeadsTo 1 before d) (sym is) record {
      at_most = omega arith;
      no_less = omega (arith, counts.calls_within);
      no_less_failures = one.no_less;
      no_less_lacks = omega arith;
      no_fuse = one.no_fuse;
      one_each = omega (arith, one.one_each);
      in_time = λ late. omega (arith, one.in_time late);
      counts_down = one.counts_down;
    }
