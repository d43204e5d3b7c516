use Rattle.std.proofs.Common.{◌<◌, ◌≤◌, List, length, get_or, ap, sym, ◌∙◌, subst, arith}
use Rattle.std.proofs.lemmas.List.{drop_all}
use Rattle.bayou_lang.specs.declared.change.Change.{Change}
use Rattle.bayou_lang.specs.Database.{value_at}
use Rattle.bayou_lang.proofs.ChangeLists.{value_after, value_after-at, value_at-after_changes}
use Rattle.bayou_lang.proofs.eval.look_over.Goals as goal

pub returns-then-eq : goal.returns-then-eq
returns-then-eq g c =
    let changes = c.args.changes.now.items in
    let below = g.L.Look.database c.args.look.now in
    let key = c.args.key.now in
    let change = c.change-item.result in
    let index = c.loop-change.change-index in
    let listed = c.as_slice-change-items.ensures.value in
    c.copy_value.ensures
    ∙ sym (value_after-at changes index change key (value_at below key) (subst (λ list. index < length list) listed c.loop-change-test.true)
    (c.change-item.is ∙ ap (λ (list : List Change). get_or list index change) listed) (sym c.eq.ensures ∙ c.if-eq.true))
    ∙ c.loop-change.invariant ∙ sym (value_at-after_changes changes below key)

pub returns : goal.returns
returns g c =
    let changes = c.args.changes.now.items in
    let below = g.L.Look.database c.args.look.now in
    let key = c.args.key.now in
    let index = c.loop-change.change-index in
    let none = subst (λ list. length list ≤ index) c.as_slice-change-items.ensures.value (omega (arith, c.loop-change-test.false)) in
    c.look.ensures
    ∙ ap (λ list. value_after list key (value_at below key)) (sym (drop_all index changes none))
    ∙ c.loop-change.invariant ∙ sym (value_at-after_changes changes below key)
