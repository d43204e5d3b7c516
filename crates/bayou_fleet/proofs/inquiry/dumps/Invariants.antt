-- a list for each server so far
use Rattle.std.proofs.Common.{◌≡◌, vec_len}
use Rattle.bayou_fleet.proofs.inquiry.dumps.Given as goal

abbrev pub invariant-loop-at : goal.invariant-loop-at
invariant-loop-at g l = vec_len l.dumps ≡ l.at
