use Rattle.std.proofs.Common.{◌≡◌, ◌++◌, length}
use Rattle.bayou_lang.specs.Writes.{lacking_of}
use Rattle.bayou_log.proofs.write_log.WriteLog.lacking.Given as goal

-- those that were taken, and what is lacking behind them
abbrev pub invariant-loop : goal.invariant-loop
invariant-loop l = record {
  target : l.list.items ++ lacking_of l.told l.self.receipts ≡ lacking_of l.counts l.self.receipts;
  taken : length l.list.items ≡ l.counter;
}
