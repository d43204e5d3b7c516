use Rattle.std.proofs.Common.{◌≡◌, drop}
use Rattle.bayou_lang.specs.Database.{value_at}
use Rattle.bayou_lang.proofs.ChangeLists.{value_after}
use Rattle.bayou_lang.proofs.eval.look_over.Given as goal

-- the changes passed so far don't change the key
abbrev pub invariant-loop-change : goal.invariant-loop-change
invariant-loop-change g l =
    let before = value_at (g.L.Look.database l.look) l.key in
    value_after (drop l.change-index l.changes.items) l.key before ≡ value_after l.changes.items l.key before
