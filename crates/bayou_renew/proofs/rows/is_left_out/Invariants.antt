-- none of the prefixes so far is what the key begins with
use Rattle.std.proofs.Common.{◌≡◌, drop}
use Rattle.bayou_renew.specs.Renewal.{is_left_out}
use Rattle.bayou_renew.proofs.rows.is_left_out.Given as goal

abbrev pub invariant-loop-prefix : goal.invariant-loop-prefix
invariant-loop-prefix l = is_left_out (drop l.prefix-index l.without) l.key ≡ is_left_out l.without l.key
