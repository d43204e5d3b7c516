use Rattle.std.proofs.Common.{◌≡◌, ◌+◌, Option, None, Some, refl, sym, subst}
use Rattle.std.specs.List.{slice_get}
use Rattle.bayou_base.specs.declared.entry.Entry.{Entry}
use Rattle.bayou_judge.specs.declared.breach.Breach.{Breach}
use Rattle.bayou_judge.specs.Inner.Needs.{AreFoundTo, IsBreachFor}
use Rattle.bayou_judge.proofs.Found.{found_kept, found_with}
use Rattle.bayou_judge.proofs.evidence.Evidence.put_breach.Goals as goal

-- src/every.rt
pub returns-in_ok-push : goal.returns-in_ok-push
returns-in_ok-push c = λ found.
    let evidence = c.args.self.now in
    let here : (second : Entry) → slice_get evidence.entries c.args.at ≡ Some second → IsBreachFor evidence.dumps evidence.entries c.args.guarantee c.args.session.index c.args.at second (Some c.in-Some.breach) = λ second got.
    subst (IsBreachFor evidence.dumps evidence.entries c.args.guarantee c.args.session.index c.args.at second) c.in-Some.is (c.breach_of.ensures second got) in
    subst (AreFoundTo evidence.dumps evidence.entries c.args.guarantee c.args.session.index (c.args.at + 1)) (sym c.in_ok-push.ensures.items)
    (found_with evidence.count evidence.dumps evidence.entries c.recall.ensures.evidence.entries_are c.args.guarantee c.args.session.index c.args.at c.args.list.now.items c.in-Some.breach c.requires.at found here)

-- src/every.rt
pub returns-in_default : goal.returns-in_default
returns-in_default c = λ found.
    let evidence = c.args.self.now in
    let none : (known : Option Breach) → ((breach : Breach) → known ≡ Some breach → ⊥) → None ≡ known = λ known no. elim known as (λ k. ((breach : Breach) → k ≡ Some breach → ⊥) → None ≡ k) [ None ↦ λ n. refl | Some b ↦ λ n. absurd (n b refl) ] no in
    found_kept evidence.dumps evidence.entries c.args.guarantee c.args.session.index c.args.at c.args.list.now.items found
    (λ second got. subst (IsBreachFor evidence.dumps evidence.entries c.args.guarantee c.args.session.index c.args.at second) (sym (none c.breach_of.result c.in_default.not-Some)) (c.breach_of.ensures second got))
