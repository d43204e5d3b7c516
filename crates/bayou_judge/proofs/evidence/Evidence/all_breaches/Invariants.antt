use Rattle.std.proofs.Common.{◌≡◌, ℕ, Some, length}
use Rattle.std.specs.List.{slice_get}
use Rattle.bayou_judge.specs.declared.every.SessionBreaches.{SessionBreaches}
use Rattle.bayou_judge.specs.Answers.{AreBreaches}
use Rattle.bayou_judge.specs.History.{history_of}
use Rattle.bayou_judge.proofs.evidence.Evidence.all_breaches.Given as goal

abbrev pub invariant-loop-index : goal.invariant-loop-index
invariant-loop-index l = record {
  sized : length l.list.items ≡ l.index;
  each : (session : ℕ) (found : SessionBreaches) → slice_get l.list.items session ≡ Some found
      → (found.session.index ≡ session) × AreBreaches (history_of l.self.entries l.self.dumps) found;
}
