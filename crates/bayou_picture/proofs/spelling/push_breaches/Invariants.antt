-- the breaches so far are spelled
use Rattle.std.proofs.Common.{◌≡◌, ◌++◌, take}
use Rattle.std.specs.Prelude.{flat_map}
use Rattle.bayou_picture.specs.Spelling.{drawn_text}
use Rattle.bayou_picture.proofs.spelling.push_breaches.Given as goal

abbrev pub invariant-loop-drawn : goal.invariant-loop-drawn
invariant-loop-drawn l = l.text.items ≡ l.fn.text.items ++ flat_map drawn_text (take l.drawn-index l.breaches)
