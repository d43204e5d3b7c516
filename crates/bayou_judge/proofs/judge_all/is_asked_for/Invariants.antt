use Rattle.std.proofs.Common.{◌≡◌, take, true, All}
use Rattle.bayou_base.specs.declared.entry.Entry.{Entry}
use Rattle.bayou_judge.specs.Breaches.{is_asked}
use Rattle.bayou_judge.proofs.judge_all.is_asked_for.Given as goal

abbrev pub invariant-loop-entry : goal.invariant-loop-entry
invariant-loop-entry l = All (λ (entry : Entry). ¬ ((entry.session.index ≡ l.breach.session.index) × (is_asked entry.asks l.breach.guarantee ≡ true))) (take l.entry-index l.entries)
