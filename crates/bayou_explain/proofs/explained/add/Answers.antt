use Rattle.std.proofs.Common.{All, subst, sym}
use Rattle.std.proofs.lemmas.List.Elements.{All-push}
use Rattle.bayou_explain.specs.Explained.{IsShown}
use Rattle.bayou_explain.proofs.explained.add.Goals as goal

pub returns-in_ok-push-clause-lines : goal.returns-in_ok-push-clause-lines
returns-in_ok-push-clause-lines c all =
    subst (All (IsShown c.args.lines.now)) (sym c.in_ok-push.ensures.items)
    (All-push (IsShown c.args.lines.now) c.args.list.now.items c.explain_breach.result all c.explain_breach.ensures.lines)
