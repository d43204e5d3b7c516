-- those so far, and of what is left
use Rattle.std.proofs.Common.{◌≡◌, ◌++◌, drop}
use Rattle.bayou_renew.specs.Renewal.{kept_of}
use Rattle.bayou_renew.proofs.rows.keep.Given as goal

abbrev pub invariant-loop-key : goal.invariant-loop-key
invariant-loop-key l = l.kept.items ++ kept_of l.without (drop l.key-index l.rows) ≡ l.initial.kept.items ++ kept_of l.without l.rows
