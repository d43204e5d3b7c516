-- those so far, and of what is left
use Rattle.std.proofs.Common.{◌≡◌, ◌++◌, drop, map}
use Rattle.json.specs.Token.{string}
use Rattle.bayou_web_state.proofs.done.put_each.Given as goal

abbrev pub invariant-loop-text : goal.invariant-loop-text
invariant-loop-text l =
    (l.out.tokens ++ map string (map (λ text. text.now) (drop l.text-index l.texts)) ≡ l.fn.out.tokens ++ map string (map (λ text. text.now) l.texts))
    × (l.out.before ≡ l.fn.out.before)
