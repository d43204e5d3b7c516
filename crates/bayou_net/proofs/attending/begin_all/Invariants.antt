-- each desk is at work, left over, or still to begin
use Rattle.std.proofs.Common.{◌≡◌, ◌+◌, length, vec_len}
use Rattle.bayou_net.proofs.attending.begin_all.Given as goal

abbrev pub invariant-loop-desk : goal.invariant-loop-desk
invariant-loop-desk g l = record {
  all : vec_len l.posts.workers + vec_len l.posts.left + length l.desk-iterator.rest.items ≡ vec_len l.fn.desks;
  total : l.posts.total ≡ l.initial.posts.total;
}
