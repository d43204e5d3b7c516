use Rattle.std.proofs.Common.{option_copied}
use Rattle.bayou_log.specs.Inner.Lacking.{IsFirstMissed}
use Rattle.bayou_log.proofs.write_log.WriteLog.first_missed.Given as goal

-- the first of the servers so far
abbrev pub invariant-loop-server : goal.invariant-loop-server
invariant-loop-server l = IsFirstMissed l.server l.counts l.self.receipts (option_copied l.first)
