-- the parts of the shares so far, and those that are left
use Rattle.std.proofs.Common.{◌≡◌, ◌+◌, ◌≤◌, length}
use Rattle.bayou_audit.specs.Totals.{added, sums_of}
use Rattle.bayou_audit.proofs.book.gather.Given as goal

abbrev pub invariant-loop-share : goal.invariant-loop-share
invariant-loop-share g l = record {
  parts : l.all.parts + length l.share-iterator.rest.items ≡ length l.fn.shares.items;
  totals : added l.all.totals (sums_of l.share-iterator.rest.items) ≡ sums_of l.fn.shares.items;
  within : l.all.parts ≤ g.K.Slips.Ledger.parts;
}
