use Rattle.std.proofs.Common.{◌≡◌, ◌<◌, ◌≤◌, ◌⊎◌, All, Contains, slice_index}
use Rattle.bayou_base.specs.declared.limits.TheConstants.{MAX_WRITES}
use Rattle.bayou_lang.specs.declared.write.Write.{Write}
use Rattle.bayou_judge.proofs.fitting.clock_among.Given as goal

-- the greatest clock of the counted Writes of the servers so far
abbrev pub invariant-loop-server : goal.invariant-loop-server
invariant-loop-server l = record {
  greatest : All (λ write. write.wid.origin.index < l.server → write.wid.seq ≤ slice_index l.counts write.wid.origin.index → write.stamp.clock ≤ l.clock) l.held;
  in_range : l.clock ≤ MAX_WRITES;
  reached : (l.clock ≡ 0) ⊎ ((write : Write) × Contains l.held write × (write.wid.seq ≤ slice_index l.counts write.wid.origin.index) × (write.stamp.clock ≡ l.clock));
}
