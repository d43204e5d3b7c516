use Rattle.std.proofs.Common.{rules}
use Rattle.bayou_journal.proofs.opened.Opened.dropped.Goals as goal

pub returns : goal.returns
returns c = search rules
