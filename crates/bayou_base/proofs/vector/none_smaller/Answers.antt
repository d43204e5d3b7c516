use Rattle.std.proofs.Common.{rules}
use Rattle.bayou_base.proofs.vector.none_smaller.Goals as goal

pub returns : goal.returns
returns c = search rules
