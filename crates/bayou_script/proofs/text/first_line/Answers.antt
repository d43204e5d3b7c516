use Rattle.std.proofs.Common.{◌≡◌, ◌∙◌, ◌+◌, ◌-◌, ◌++◌, ◌∷◌, [], ap, length, length-drop, take, drop, sym, arith}
use Rattle.std.proofs.lemmas.List.{take_all}
use Rattle.bayou_script.proofs.Cut.{cut_there, none_at_all, none_before}
use Rattle.bayou_script.proofs.text.first_line.Goals as goal

pub returns-in-Some : goal.returns-in-Some
returns-in-Some c =
    let piece = c.args.piece.now in
    let end = c.in-Some.end in
    let first = c.in-Some.ensures in
    let behind = drop (end + 1) piece in
    let all : take (length piece - (end + 1)) behind ≡ behind = take_all (length piece - (end + 1)) behind (omega (arith, length-drop (end + 1) piece)) in (
      none_before piece end (λ j below. first.0.before j (omega arith) below),
      sym (cut_there piece end first.0.high first.1) ∙ ap (λ l. (take end piece ++ 10 ∷ []) ++ l) (sym all),
    )

pub returns-in-None : goal.returns-in-None
returns-in-None c = none_at_all c.args.piece.now (λ j below. c.in-None.ensures j (omega arith) below)
