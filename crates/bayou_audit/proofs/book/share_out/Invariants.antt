-- one share for each session so far
use Rattle.std.proofs.Common.{◌≡◌, ◌+◌, vec_capacity, vec_len}
use Rattle.bayou_audit.specs.Totals.{AreNewShares, no_totals}
use Rattle.bayou_audit.proofs.book.share_out.Given as goal

abbrev pub invariant-loop-index : goal.invariant-loop-index
invariant-loop-index g l = record {
  left : l.all.parts + l.index ≡ l.shares;
  none : l.all.totals ≡ no_totals;
  made : AreNewShares l.index l.made.items;
  number : vec_len l.made ≡ l.index;
  room : vec_capacity l.made ≡ l.shares;
}
