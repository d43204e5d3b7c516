-- those so far, and of what is left
use Rattle.std.proofs.Common.{◌≡◌, ◌++◌, ◌∷◌, [], drop, flat_map}
use Rattle.json.specs.Token.{begin_array}
use Rattle.bayou_web_state.specs.Parts.{notice_tokens}
use Rattle.bayou_web_state.proofs.parts.put_notices.Given as goal

abbrev pub invariant-loop-notice : goal.invariant-loop-notice
invariant-loop-notice l =
    (l.out.tokens ++ flat_map notice_tokens (drop l.notice-index l.notices) ≡ (l.fn.out.tokens ++ begin_array ∷ []) ++ flat_map notice_tokens l.notices)
    × (l.out.before ≡ l.fn.out.before)
