-- all rows follow where those that are left do behind the last one
use Rattle.std.proofs.Common.{◌≡◌, drop}
use Rattle.std.specs.Option.{option_copied}
use Rattle.bayou_connect.specs.Listing.{do_follow}
use Rattle.bayou_connect.proofs.listing.follow.Given as goal

abbrev pub invariant-loop-row : goal.invariant-loop-row
invariant-loop-row l = do_follow l.prefix (option_copied l.last) (drop l.row-index l.rows) ≡ do_follow l.prefix (option_copied l.fn.after) l.rows
