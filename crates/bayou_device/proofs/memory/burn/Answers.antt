use Rattle.std.proofs.Common.{rules}
use Rattle.bayou_device.proofs.memory.burn.Goals as goal

pub returns-clause-burnt : goal.returns-clause-burnt
returns-clause-burnt c = search rules

pub returns-clause-due : goal.returns-clause-due
returns-clause-due c = search rules
