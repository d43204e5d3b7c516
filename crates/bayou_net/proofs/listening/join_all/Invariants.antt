-- the desks so far, and the threads that are left
use Rattle.std.proofs.Common.{◌≡◌, ◌+◌, length, vec_capacity, vec_len}
use Rattle.bayou_net.proofs.listening.join_all.Given as goal

abbrev pub invariant-loop-worker : goal.invariant-loop-worker
invariant-loop-worker g l = record {
  all : vec_len l.desks + length l.worker-iterator.rest.items ≡ vec_len l.initial.desks + vec_len l.fn.workers;
  same : vec_capacity l.desks ≡ vec_capacity l.initial.desks;
}
