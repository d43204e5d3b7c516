use Rattle.std.proofs.Common.{◌≡◌, sym, refl, true, arith}
use Rattle.bayou_base.specs.declared.entry.Entry.{Entry}
use Rattle.bayou_judge.specs.Breaches.{is_asked}
use Rattle.bayou_judge.proofs.Sessions.{all_taken, none_any}
use Rattle.bayou_judge.proofs.judge_all.is_asked_for.Goals as goal

pub returns-then-asks_of_it : goal.returns-then-asks_of_it
returns-then-asks_of_it c = (λ _. (c.loop-entry.entry-index, c.entry-item.result, omega (arith, c.loop-entry-test.true), sym c.entry-item.is, c.if-asks_of_it.ensures.0 refl), λ _. refl)

pub returns : goal.returns
returns c = (
  λ no. absurd (cc),
  λ any. absurd (none_any (λ (entry : Entry). (entry.session.index ≡ c.args.breach.now.session.index) × (is_asked entry.asks c.args.breach.now.guarantee ≡ true)) c.args.entries.now
      (all_taken (λ (entry : Entry). (entry.session.index ≡ c.args.breach.now.session.index) × (is_asked entry.asks c.args.breach.now.guarantee ≡ true) → ⊥) c.args.entries.now c.loop-entry.entry-index
      (omega (arith, c.loop-entry-test.false)) c.loop-entry.invariant) any),
)
