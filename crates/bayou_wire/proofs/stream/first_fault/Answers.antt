use Rattle.std.proofs.Common.{rules}
use Rattle.bayou_wire.proofs.stream.first_fault.Goals as goal

pub returns-in-len1-up : goal.returns-in-len1-up
returns-in-len1-up c = search rules
