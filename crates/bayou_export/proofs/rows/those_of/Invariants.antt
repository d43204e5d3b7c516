-- those so far, and of what is left
use Rattle.std.proofs.Common.{◌≡◌, ◌++◌, drop, filter}
use Rattle.bayou_lang.specs.Database.{begins_with}
use Rattle.bayou_export.proofs.rows.those_of.Given as goal

abbrev pub invariant-loop-key : goal.invariant-loop-key
invariant-loop-key l = l.found.items ++ filter (λ row. begins_with l.prefix row.0) (drop l.key-index l.rows) ≡ filter (λ row. begins_with l.prefix row.0) l.rows
