-- what each session so far does, and those that are left, and room for these
use Rattle.std.proofs.Common.{◌≡◌, ◌+◌, ◌≤◌, length, vec_capacity, vec_len}
use Rattle.bayou_fleet.proofs.together.begin_all.Given as goal

abbrev pub invariant-loop-session : goal.invariant-loop-session
invariant-loop-session g l = record {
  all : vec_len l.going + length l.session-iterator.rest.items ≡ vec_len l.fn.sessions;
  room : vec_len l.fn.sessions ≤ vec_capacity l.going;
}
