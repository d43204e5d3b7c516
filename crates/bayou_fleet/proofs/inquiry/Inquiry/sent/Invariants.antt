-- a list for each server so far
use Rattle.std.proofs.Common.{◌≡◌, vec_len}
use Rattle.bayou_fleet.proofs.inquiry.Inquiry.sent.Given as goal

abbrev pub invariant-loop-at : goal.invariant-loop-at
invariant-loop-at l = record {
  lists : vec_len l.dumps ≡ l.at;
  same : l.self.count ≡ l.initial.self.count;
}
