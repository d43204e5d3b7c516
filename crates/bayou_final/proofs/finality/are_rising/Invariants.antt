use Rattle.std.proofs.Common.{◌≡◌, ◌<◌, ◌+◌, ℕ, Some, slice_get, true}
use Rattle.bayou_base.specs.Order.{is_before}
use Rattle.bayou_lang.specs.declared.write.Write.{Write}
use Rattle.bayou_final.proofs.finality.are_rising.Given as goal

-- the Writes so far rise
abbrev pub invariant-loop-at : goal.invariant-loop-at
invariant-loop-at l = (place : ℕ) (one next : Write) → place + 1 < l.at → slice_get l.writes place ≡ Some one → slice_get l.writes (place + 1) ≡ Some next → is_before one.stamp next.stamp ≡ true
