-- each session so far, unless one lacked memory, and those that are left, and room for these
use Rattle.std.proofs.Common.{◌≡◌, ◌+◌, ◌≤◌, None, length, vec_capacity, vec_len}
use Rattle.bayou_fleet.proofs.together.end_all.Given as goal

abbrev pub invariant-loop-one : goal.invariant-loop-one
invariant-loop-one g l = record {
  all : l.fault ≡ None → vec_len l.sessions + length l.one-iterator.rest.items ≡ vec_len l.fn.going;
  few : vec_len l.sessions + length l.one-iterator.rest.items ≤ vec_len l.fn.going;
  room : vec_len l.fn.going ≤ vec_capacity l.sessions;
}
