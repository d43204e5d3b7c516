use Rattle.std.proofs.Common.{◌≡◌, ◌++◌, take}
use Rattle.bayou_log.proofs.undo.push_all.Given as goal

-- those so far stand behind the list
abbrev pub invariant-loop-change : goal.invariant-loop-change
invariant-loop-change l = l.list ≡ record l.initial.list { items = l.initial.list.items ++ take l.change-index l.changes }
