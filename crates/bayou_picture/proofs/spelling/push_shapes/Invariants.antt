-- the shapes so far are spelled
use Rattle.std.proofs.Common.{◌≡◌, ◌++◌, take}
use Rattle.bayou_picture.specs.Spelling.{shapes_text}
use Rattle.bayou_picture.proofs.spelling.push_shapes.Given as goal

abbrev pub invariant-loop-shape : goal.invariant-loop-shape
invariant-loop-shape l = l.text.items ≡ l.fn.text.items ++ shapes_text (take l.shape-index l.shapes)
