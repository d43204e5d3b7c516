use Rattle.std.proofs.Common.{[], ap, append-nil, refl, sym, ◌++◌, ◌∙◌}
use Rattle.bayou_print.specs.Laws.Gathered.{Gathers-less, put}
use Rattle.bayou_print.proofs.waiting.Waiting.print.Goals as goal

pub returns-in_err-make_room-clause-part : goal.returns-in_err-make_room-clause-part
returns-in_err-make_room-clause-part g c =
    let (missing, some) = c.in_err-make_room.ensures.part in
    (missing ++ c.args.line.now, Gathers-less _ _ [] c.args.line.now missing some)

pub returns-in_err-extend_from_slice-clause-part :
    goal.returns-in_err-extend_from_slice-clause-part
returns-in_err-extend_from_slice-clause-part g c =
    (c.args.line.now, put _ _ _ c.args.line.now c.args.line.now c.in_ok-make_room.ensures.whole refl (sym (ap (λ l. l ++ c.args.line.now) c.in_err-extend_from_slice.ensures.items)))

pub returns-clause-part : goal.returns-clause-part
returns-clause-part g c = ([], put _ _ _ c.args.line.now [] c.in_ok-make_room.ensures.whole refl (sym c.in_ok-extend_from_slice.ensures.items ∙ sym (append-nil _)))
