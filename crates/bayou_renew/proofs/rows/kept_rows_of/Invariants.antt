-- The rows that are kept are of those that were told, and those behind the key are left.
use Rattle.std.proofs.Common.{[], length}
use Rattle.bayou_log.specs.Replay.{replay}
use Rattle.bayou_log.specs.Rows.{rows_after}
use Rattle.bayou_renew.proofs.Pages.{IsToldUpTo}
use Rattle.bayou_renew.proofs.rows.kept_rows_of.Given as goal

abbrev pub invariant-loop-kept : goal.invariant-loop-kept
invariant-loop-kept g l = IsToldUpTo (replay l.server.core.held) l.without l.after l.kept.items

abbrev pub decreases-loop-kept : goal.decreases-loop-kept
decreases-loop-kept g l = length (rows_after [] l.after (replay l.server.core.held))
