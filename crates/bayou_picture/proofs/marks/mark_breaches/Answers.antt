use Rattle.std.proofs.Common.{arith, ◌≡◌, ◌∙◌, ◌++◌, ◌∷◌, [], ap, sym, subst, All}
use Rattle.std.proofs.lemmas.List.{map_push, take_all}
use Rattle.bayou_explain.specs.Explained.{IsShown, breaches_told}
use Rattle.bayou_picture.specs.Marks.{explained_of}
use Rattle.bayou_picture.proofs.Pushed.{marked_are_told, one_more}
use Rattle.bayou_picture.proofs.marks.mark_breaches.Goals as goal

pub loop-explained-preserved : goal.loop-explained-preserved
loop-explained-preserved c =
    let items = c.as_slice-explained-items.result.now in
    let at = c.loop-explained.explained-index in
    let item = c.explained-item.result in
    ap explained_of c.in_ok-push.ensures.items ∙ map_push (λ marked. marked.explained) c.loop-explained.breaches.items c.mark_breach.result
    ∙ ap (λ e. explained_of c.loop-explained.breaches.items ++ e ∷ []) c.mark_breach.ensures ∙ ap (λ es. es ++ item ∷ []) c.loop-explained.invariant
    ∙ sym (one_more items at item c.loop-explained-test.true c.explained-item.is)

pub returns-clause-breaches : goal.returns-clause-breaches
returns-clause-breaches c =
    let items = c.as_slice-explained-items.result.now in
    let whole = c.loop-explained.invariant ∙ take_all c.loop-explained.explained-index items (omega (arith, c.loop-explained-test.false)) ∙ c.as_slice-explained-items.ensures.value in
    marked_are_told c.loop-explained.breaches.items ∙ ap breaches_told whole ∙ c.in_ok-list.ensures.breaches

pub returns-clause-lines : goal.returns-clause-lines
returns-clause-lines c =
    let items = c.as_slice-explained-items.result.now in
    let whole = c.loop-explained.invariant ∙ take_all c.loop-explained.explained-index items (omega (arith, c.loop-explained-test.false)) ∙ c.as_slice-explained-items.ensures.value in
    subst (All (IsShown c.args.lines.now)) (sym whole) c.in_ok-list.ensures.lines
