-- those so far, and of what is left
use Rattle.std.proofs.Common.{◌≡◌, ◌++◌, ◌∷◌, [], drop, flat_map}
use Rattle.json.specs.Token.{begin_array}
use Rattle.bayou_web_state.specs.Parts.{own_tokens}
use Rattle.bayou_web_state.proofs.parts.put_all_own.Given as goal

abbrev pub invariant-loop-own : goal.invariant-loop-own
invariant-loop-own l =
    (l.out.tokens ++ flat_map own_tokens (drop l.own-index l.all) ≡ (l.fn.out.tokens ++ begin_array ∷ []) ++ flat_map own_tokens l.all) × (l.out.before ≡ l.fn.out.before)
