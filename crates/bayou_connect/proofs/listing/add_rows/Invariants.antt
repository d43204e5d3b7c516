-- the rows so far
use Rattle.std.proofs.Common.{◌≡◌, ◌++◌, take}
use Rattle.bayou_connect.proofs.listing.add_rows.Given as goal

abbrev pub invariant-loop-row : goal.invariant-loop-row
invariant-loop-row l = l.each.items ≡ l.fn.each.items ++ take l.row-index l.rows
