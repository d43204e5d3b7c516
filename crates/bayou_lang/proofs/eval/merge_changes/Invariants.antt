use Rattle.std.proofs.Common.{◌≡◌, drop, map}
use Rattle.bayou_lang.specs.Meaning.{merged}
use Rattle.bayou_lang.proofs.eval.merge_changes.Given as goal

-- no alternative so far fits
abbrev pub invariant-loop-alternative : goal.invariant-loop-alternative
invariant-loop-alternative g l =
    let database = g.L.Look.database l.look in
    let form = g.A.Alternative.alternative in
    (l.number ≡ l.alternative-index) ×
    (merged l.number (map form (drop l.alternative-index l.alternatives)) database ≡ merged 0 (map form l.alternatives) database)
