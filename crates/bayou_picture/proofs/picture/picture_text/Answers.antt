use Rattle.std.proofs.Common.{◌∙◌}
use Rattle.std.proofs.lemmas.Result.{IfOk-weaker}
use Rattle.bayou_picture.proofs.picture.picture_text.Goals as goal

pub returns : goal.returns
returns c =
    IfOk-weaker c.spell.result _ _
    (λ text is. record { drawing = c.in_ok-drawing.drawing; spells = is; drawn = c.in_ok-drawing.ensures ∙ c.in_ok-marks.ensures.breaches ∙ c.told-bad.ensures })
    c.spell.ensures
