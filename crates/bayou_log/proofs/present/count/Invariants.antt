use Rattle.std.proofs.Common.{◌≡◌, ◌+◌, ◌≤◌, length}
use Rattle.std.specs.List.{filter}
use Rattle.bayou_lang.specs.Database.{number_with}
use Rattle.bayou_log.specs.Db.{database_of}
use Rattle.bayou_log.proofs.Prefixed.{Ascends, counts}
use Rattle.bayou_log.proofs.present.count.Given as goal

-- what was counted, with what is left to count, is the number; what is left ascends
abbrev pub invariant-loop-key : goal.invariant-loop-key
invariant-loop-key l = record {
  sum : l.number + length (filter (counts l.prefix) l.key-iterator) ≡ number_with l.prefix (database_of l.slots.entries);
  ascends : Ascends l.prefix l.key-iterator;
  within : l.number ≤ l.most + 1;
}
