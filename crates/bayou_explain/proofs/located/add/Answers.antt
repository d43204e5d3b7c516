use Rattle.std.proofs.Common.{All, List, [], ℕ, get_or, subst, sym}
use Rattle.std.proofs.lemmas.List.{get_or_default}
use Rattle.std.proofs.lemmas.List.Elements.{All-push}
use Rattle.std.specs.Borrow.{Bor}
use Rattle.bayou_explain.specs.Located.{StandsIn, bytes_of}
use Rattle.bayou_explain.proofs.Standing.{stands}
use Rattle.bayou_explain.proofs.located.add.Goals as goal

pub returns-in_ok-push : goal.returns-in_ok-push
returns-in_ok-push c all =
    let lines = c.args.lines.now in
    let none : Bor (List ℕ) = record { ref_ptr = (0, 0); now = [] } in
    let bytes = get_or lines c.args.at none in
    subst (All (StandsIn (bytes_of lines))) (sym c.in_ok-push.ensures.items)
    (All-push (StandsIn (bytes_of lines)) c.args.list.now.items c.in-Some.line all
    (stands lines c.in_ok-line.field-0 c.in-Some.line c.args.at bytes c.in-Some.is c.in_ok-line.ensures.place c.in_ok-line.ensures.told c.requires
    (get_or_default lines c.args.at none bytes c.requires)))
