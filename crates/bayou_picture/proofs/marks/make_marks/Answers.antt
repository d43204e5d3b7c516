use Rattle.std.proofs.Common.{All, subst, sym}
use Rattle.std.specs.Global.{Vec}
use Rattle.bayou_explain.specs.Explained.{IsShown}
use Rattle.bayou_picture.specs.declared.marks.Marked.{Marked}
use Rattle.bayou_picture.specs.Marks.{explained_of}
use Rattle.bayou_picture.proofs.marks.make_marks.Goals as goal

pub returns-clause-lines : goal.returns-clause-lines
returns-clause-lines c =
    subst (λ (list : Vec Marked). All (IsShown c.args.lines.now) (explained_of list.items)) (sym c.loop-at.invariant) c.in_ok-mark_breaches.ensures.lines
