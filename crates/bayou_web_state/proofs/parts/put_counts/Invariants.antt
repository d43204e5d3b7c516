-- those so far, and of what is left
use Rattle.std.proofs.Common.{◌≡◌, ◌++◌, decimal, drop, map}
use Rattle.json.specs.Token.{number}
use Rattle.bayou_web_state.proofs.parts.put_counts.Given as goal

abbrev pub invariant-loop-count : goal.invariant-loop-count
invariant-loop-count l =
    (l.out.tokens ++ map (λ count. number (decimal count)) (drop l.count-index l.counts) ≡ l.fn.out.tokens ++ map (λ count. number (decimal count)) l.counts)
    × (l.out.before ≡ l.fn.out.before)
