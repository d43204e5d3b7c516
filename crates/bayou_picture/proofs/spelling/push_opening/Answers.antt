use Rattle.std.proofs.Common.{◌∙◌, ◌++◌, ap, codes}
use Rattle.bayou_picture.specs.Spelling.{missing_text, places_text, whose_text}
use Rattle.bayou_picture.proofs.Pushed.{five}
use Rattle.bayou_picture.proofs.spelling.push_opening.Goals as goal

pub returns : goal.returns
returns c =
    let breach = c.args.breach.now in
    c.in_ok-extend_from_slice-2.ensures.items
    ∙ ap (λ t. t ++ codes ">\n") (c.in_ok-push_missing.ensures ∙ ap (λ t. t ++ missing_text breach) (c.in_ok-push_places.ensures ∙ ap (λ t. t ++ places_text breach)
    (c.in_ok-push_whose.ensures ∙ ap (λ t. t ++ whose_text breach) c.in_ok-extend_from_slice.ensures.items)))
    ∙ five c.args.text.now.items (codes "<g class=\"breach\"") (whose_text breach) (places_text breach) (missing_text breach) (codes ">\n")
