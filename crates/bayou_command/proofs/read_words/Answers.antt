use Rattle.std.proofs.Common.{◌≡◌, ◌∙◌, [], ap, map, sym, true, subst}
use Rattle.clap.specs.Kinds.{HasKind}
use Rattle.clap.specs.Words.{App, HasMatchesOf, fault_of, is_simple_and_free}
use Rattle.bayou_command.specs.Words.{asked_by}
use Rattle.bayou_command.proofs.Named.{plain, simple, stopped}
use Rattle.bayou_command.proofs.read_words.Goals as goal

pub returns-in_ok-task_in-in-Ok : goal.returns-in_ok-task_in-in-Ok
returns-in_ok-task_in-in-Ok g c =
    let words = map g.S.AsStr.text c.args.words.now in
    let made = c.in_ok-bayou_command.ensures in
    record {
      good = subst (λ (app : App). is_simple_and_free app ≡ true → fault_of app words ≡ []) made c.in-Ok.ensures.kinds simple;
      entered = ap asked_by (sym (subst (λ (app : App). HasMatchesOf app words c.in-Ok.matches) made c.in-Ok.ensures.matches plain).1) ∙ sym c.in_ok-task_in-in-Ok.ensures;
    }

pub returns-in-Err : goal.returns-in-Err
returns-in-Err g c =
    let words = map g.S.AsStr.text c.args.words.now in
    stopped words c.in-Err.error c.with_tip.result
    (subst (λ (app : App). is_simple_and_free app ≡ true → HasKind (fault_of app words) c.in-Err.error) c.in_ok-bayou_command.ensures c.in-Err.ensures.kinds simple)
    (λ lacked. c.with_tip.ensures.memory (c.of-stop.ensures.memory lacked)) (c.with_tip.ensures.kind _ c.of-stop.ensures.kind)
