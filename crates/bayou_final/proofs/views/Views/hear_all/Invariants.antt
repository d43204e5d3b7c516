use Rattle.std.proofs.Common.{◌≡◌, drop}
use Rattle.bayou_final.specs.Views.{heard_by}
use Rattle.bayou_final.proofs.views.Views.hear_all.Given as goal

-- with what is left, that is heard which all of the Writes tell
abbrev pub invariant-loop-write : goal.invariant-loop-write
invariant-loop-write l = heard_by l.self (drop l.write-index l.writes) ≡ heard_by l.fn.self l.writes
