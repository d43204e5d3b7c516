use Rattle.std.proofs.Common.{rules}
use Rattle.bayou_base.proofs.stamp.Stamp.is_before.Goals as goal

pub returns : goal.returns
returns c = search rules
