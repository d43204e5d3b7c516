use Rattle.std.proofs.Common.{◌∙◌, ◌++◌, ap, append_assoc, sym, take}
use Rattle.std.specs.Prelude.{flat_map}
use Rattle.bayou_picture.specs.Spelling.{drawn_text}
use Rattle.bayou_picture.proofs.Pushed.{flat_more}
use Rattle.bayou_picture.proofs.spelling.push_breaches.Goals as goal

pub loop-drawn-preserved : goal.loop-drawn-preserved
loop-drawn-preserved c =
    let list = c.args.breaches.now in
    let at = c.loop-drawn.drawn-index in
    let item = c.drawn-item.result in
    let old = c.args.text.now.items in
    c.in_ok-push_drawn.ensures ∙ ap (λ t. t ++ drawn_text item) c.loop-drawn.invariant ∙ append_assoc old (flat_map drawn_text (take at list)) (drawn_text item)
    ∙ ap (λ t. old ++ t) (sym (flat_more drawn_text list at item c.loop-drawn-test.true c.drawn-item.is))
