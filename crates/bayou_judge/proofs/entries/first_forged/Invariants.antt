use Rattle.std.proofs.Common.{◌≡◌, ℕ, ◌<◌, None, slice_index_or, length, take}
use Rattle.bayou_base.specs.declared.limits.TheConstants.{SESSIONS}
use Rattle.bayou_judge.specs.Evidence.{IsGenuineAt}
use Rattle.bayou_judge.specs.History.{lent_lists}
use Rattle.bayou_judge.specs.Inner.Heard.{AreTold, IsLatest}
use Rattle.bayou_judge.proofs.entries.first_forged.Given as goal

-- the entries so far are genuine, and this was heard of them
abbrev pub invariant-loop-at : goal.invariant-loop-at
invariant-loop-at l = record {
  genuine : (place : ℕ) → place < l.at → IsGenuineAt l.count (lent_lists l.dumps) l.entries place;
  told : AreTold (take l.at l.entries) l.told;
  sessions : length l.latest ≡ SESSIONS;
  latest : (session : ℕ) → session < SESSIONS → IsLatest (take l.at l.entries) session (slice_index_or l.latest session None);
}
