-- The picture of an audit.
use Rattle.std.specs.Prelude.{◌≡◌, ℕ, List}
use Rattle.bayou_judge.specs.declared.breach.Breach.{Breach}
use Rattle.bayou_picture.specs.declared.drawing.Drawing.{Drawing}
use Rattle.bayou_picture.specs.Marks.{breaches_drawn}
use Rattle.bayou_picture.specs.Spelling.{spelled}

-- the text is a drawing in which just these breaches are drawn, in their order
pub record Pictures (breaches : List Breach) (text : List ℕ) : Type 0 where
  pub drawing : Drawing
  pub spells : text ≡ spelled drawing
  pub drawn : breaches_drawn drawing.breaches.items ≡ breaches
