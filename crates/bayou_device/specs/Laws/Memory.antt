-- That a device in memory meets the laws of a device.
use Rattle.std.specs.Prelude.{ℕ, ◌+◌, ◌≤◌, drop}
use Rattle.std.proofs.Common.{sym, arith, take-append-drop}
use Rattle.bayou_device.specs.Device.{BeginsWith}
use Rattle.bayou_device.specs.Memory.{Memory, LeadsTo, kept_bytes}

pub front_is_kept : (device : Memory) → BeginsWith (kept_bytes device) device.bytes
front_is_kept device = (drop device.synced device.bytes, sym (take-append-drop device.synced device.bytes))

pub no_call : (most : ℕ) (device : Memory) → LeadsTo most device device
no_call most device = record {
  at_most = omega arith;
  no_less = omega arith;
  no_less_failures = omega arith;
  no_less_lacks = omega arith;
  no_fuse = omega arith;
  one_each = omega arith;
  in_time = λ _. omega arith;
  counts_down = λ _. omega arith;
}

pub more_calls : (first second most : ℕ) (a b c : Memory) → first + second ≤ most → LeadsTo first a b → LeadsTo second b c → LeadsTo most a c
more_calls first second most a b c within one two = record {
  at_most = omega (arith, one.at_most, two.at_most);
  no_less = omega (arith, one.no_less, two.no_less);
  no_less_failures = omega (arith, one.no_less_failures, two.no_less_failures);
  no_less_lacks = omega (arith, one.no_less_lacks, two.no_less_lacks);
  no_fuse = omega (arith, one.no_fuse, two.no_fuse);
  one_each = omega (arith, one.one_each, two.one_each);
  in_time = λ late. let d = one.counts_down (omega arith) in let l = one.in_time (omega arith) in let r = two.in_time (omega (arith, d)) in omega (arith, l, r);
  counts_down = λ late. let d = one.counts_down (omega arith) in let e = two.counts_down (omega (arith, d)) in omega (arith, d, e);
}
