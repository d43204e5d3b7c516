use Rattle.std.proofs.Common.{rules}
use Rattle.bayou_base.proofs.vector.Vector.raise.Goals as goal

pub returns : goal.returns
returns c = search rules
