use Rattle.std.proofs.Common.{◌≡◌, ℕ, ◌<◌, All}
use Rattle.bayou_judge.specs.History.{dump_of, lent_lists}
use Rattle.bayou_judge.proofs.dumps.is_same_before.Given as goal

-- none of those so far has another
abbrev pub invariant-loop-other : goal.invariant-loop-other
invariant-loop-other l = (other : ℕ) → other < l.other → All (λ held. held.wid ≡ l.write.wid → held ≡ l.write) (dump_of (lent_lists l.dumps) other)
