use Rattle.std.proofs.Common.{◌≡◌, ◌∙◌, ◌+◌, ◌++◌, ◌∷◌, [], All, ap, ap₂, subst, sym, take}
use Rattle.std.proofs.lemmas.List.{map_push, take_more}
use Rattle.std.proofs.lemmas.List.Elements.{All-push}
use Rattle.bayou_explain.specs.Explained.{IsShown, breaches_told}
use Rattle.bayou_explain.proofs.explained.explain_each.Goals as goal

pub loop-breach-preserved : goal.loop-breach-preserved
loop-breach-preserved c =
    let items = c.loop-breach.list.items in
    let more = c.explain_breach.result in
    let breaches = c.args.breaches.now in
    let at = c.loop-breach.breach-index in
    let item = c.breach-item.result in
    let pushed = c.in_ok-push.ensures.items in
    let told : breaches_told (items ++ more ∷ []) ≡ breaches_told items ++ more.breach ∷ [] = map_push (λ explained. explained.breach) items more in
    let front : take (at + 1) breaches ≡ take at breaches ++ item ∷ [] = take_more breaches at item c.loop-breach-test.true ∙ ap (λ y. take at breaches ++ y ∷ []) (sym c.breach-item.is) in (
      ap breaches_told pushed ∙ told ∙ ap₂ (λ xs y. xs ++ y ∷ []) c.loop-breach.invariant.0 c.explain_breach.ensures.breach ∙ sym front,
      subst (All (IsShown c.args.lines.now)) (sym pushed) (All-push (IsShown c.args.lines.now) items more c.loop-breach.invariant.1 c.explain_breach.ensures.lines),
    )
