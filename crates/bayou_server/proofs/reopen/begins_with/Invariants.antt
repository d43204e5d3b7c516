use Rattle.std.proofs.Common.{take}
use Rattle.bayou_server.specs.Server.{records}
use Rattle.bayou_server.specs.Stored.{Stores}
use Rattle.bayou_server.proofs.reopen.begins_with.Given as goal

-- the bodies so far stand for what is held so far
abbrev pub invariant-loop-at : goal.invariant-loop-at
invariant-loop-at l = Stores l.id.index (take l.at l.opened.bodies) (take l.at (records l.holding.log.receipts l.holding.tags.tags))
