use Rattle.std.proofs.Common.{◌≡◌, ◌++◌, ◌≤◌, filter, length, option_copied}
use Rattle.bayou_log.specs.Db.{database_of}
use Rattle.bayou_log.specs.Inner.Walking.{rows_in}
use Rattle.bayou_log.specs.Rows.{rows_after}
use Rattle.bayou_log.proofs.Prefixed.{Ascends}
use Rattle.bayou_log.proofs.Walked.{begins}
use Rattle.bayou_log.proofs.rows.first_rows.Given as goal

-- the rows so far, and those of what is left, are all; what is left ascends
abbrev pub invariant-loop-key : goal.invariant-loop-key
invariant-loop-key g l = record {
  told : l.rows.items ++ filter (begins l.prefix) (rows_in l.key-iterator) ≡ rows_after l.prefix (option_copied l.fn.after) (database_of l.slots.entries);
  ascends : Ascends l.prefix l.key-iterator;
  within : length l.rows.items ≤ l.limit;
}
