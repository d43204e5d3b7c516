use Rattle.std.proofs.Common.{◌≡◌, drop}
use Rattle.bayou_lang.specs.Meaning.{all_hold}
use Rattle.bayou_lang.proofs.eval.all_hold.Given as goal

-- the conditions passed so far hold
abbrev pub invariant-loop-condition : goal.invariant-loop-condition
invariant-loop-condition g l =
    let database = g.L.Look.database l.look in
    all_hold (drop l.condition-index l.conditions) database ≡ all_hold l.conditions database
