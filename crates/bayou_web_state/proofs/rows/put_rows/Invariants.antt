-- those so far, and of what is left
use Rattle.std.proofs.Common.{◌≡◌, ◌++◌, drop, flat_map}
use Rattle.bayou_web_state.specs.Rows.{asked_tokens}
use Rattle.bayou_web_state.proofs.rows.put_rows.Given as goal

abbrev pub invariant-loop-row : goal.invariant-loop-row
invariant-loop-row l = (l.out.tokens ++ flat_map (asked_tokens l.prefix) (drop l.row-index l.rows) ≡ l.fn.out.tokens ++ flat_map (asked_tokens l.prefix) l.rows)
    × (l.out.before ≡ l.fn.out.before)
