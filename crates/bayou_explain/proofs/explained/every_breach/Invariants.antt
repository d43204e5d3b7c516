-- every breach of the sessions so far
use Rattle.std.proofs.Common.{◌≡◌, take}
use Rattle.bayou_explain.specs.Explained.{every_of}
use Rattle.bayou_explain.proofs.explained.every_breach.Given as goal

abbrev pub invariant-loop-session : goal.invariant-loop-session
invariant-loop-session l = l.list.items ≡ every_of (take l.session-index l.found)
