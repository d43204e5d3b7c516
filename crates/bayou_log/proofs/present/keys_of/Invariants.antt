use Rattle.std.proofs.Common.{◌≡◌, ◌++◌, length}
use Rattle.bayou_log.specs.Db.{Slots, database_of}
use Rattle.bayou_log.specs.Inner.Counting.{HasKeysOf}
use Rattle.bayou_log.proofs.present.keys_of.Given as goal

-- the keys are those of the slots that were passed, which stand behind what is left
abbrev pub invariant-loop-key : goal.invariant-loop-key
invariant-loop-key l = (passed : Slots) × (l.slots.entries ≡ l.left ++ passed) × HasKeysOf l.keys.entries (database_of passed)

abbrev pub decreases-loop-key : goal.decreases-loop-key
decreases-loop-key l = length l.left
