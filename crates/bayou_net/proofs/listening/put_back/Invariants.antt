-- the desks so far, and those that are left
use Rattle.std.proofs.Common.{◌≡◌, ◌+◌, length, vec_capacity, vec_len}
use Rattle.bayou_net.proofs.listening.put_back.Given as goal

abbrev pub invariant-loop-desk : goal.invariant-loop-desk
invariant-loop-desk g l = record {
  all : vec_len l.desks + length l.desk-iterator.rest.items ≡ vec_len l.initial.desks + vec_len l.fn.idle;
  same : vec_capacity l.desks ≡ vec_capacity l.initial.desks;
}
