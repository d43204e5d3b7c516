use Rattle.std.proofs.Common.{◌≡◌, ◌≤◌, drop, max}
use Rattle.bayou_base.specs.declared.limits.TheConstants.{MAX_OPS}
use Rattle.bayou_lang.specs.Changes.{most_ops}
use Rattle.bayou_lang.proofs.resting.most_ops_of.Given as goal

-- the greatest of those so far and of what is left is the greatest of all
abbrev pub invariant-loop-alternative : goal.invariant-loop-alternative
invariant-loop-alternative l = (max l.most (most_ops (drop l.alternative-index l.alternatives)) ≡ most_ops l.alternatives) × (l.most ≤ MAX_OPS)
