use Rattle.std.proofs.Common.{◌≡◌, arith, length, sym, ◌∙◌, subst}
use Rattle.std.proofs.lemmas.List.{length-map}
use Rattle.std.specs.Global.{Vec}
use Rattle.bayou_judge.specs.History.{lists_of}
use Rattle.bayou_lang.specs.declared.write.Write.{Write}
use Rattle.bayou_world.specs.Judged.{AreDumpsOf, IsJudgedClean}
use Rattle.bayou_world.specs.RunHistories.{IsRunHistory}
use Rattle.bayou_world.specs.Runs.{asks_of, capacity_for}
use Rattle.bayou_world.proofs.Judging.{dump_there}
use Rattle.bayou_world.proofs.Played.{if_ok}
use Rattle.bayou_world.proofs.Telling.{run_is_told}
use Rattle.bayou_world.proofs.world.World.run.Goals as goal

pub returns-clause-judged : goal.returns-clause-judged
returns-clause-judged c =
    let begun = c.args.self in
    let events = c.args.events.now in
    if_ok (IsRunHistory begun events) (λ history. IsJudgedClean begun.count history.served.items (lists_of history.dumps.items))
    (λ history is.
    let told = run_is_told begun.count begun.limit (capacity_for events) (asks_of begun.sessions) events history.replies.items is.last is.run in
    let many : length (lists_of history.dumps.items) ≡ is.last.count = length-map history.dumps.items (λ (dump : Vec Write). dump.items) ∙ is.one_each ∙ sym told.count_is in
    let are : AreDumpsOf is.last (lists_of history.dumps.items) = record {
      one_each = many;
      each = λ place known.
          dump_there history.dumps.items place _ (omega (arith, known, told.count_is, is.one_each)) (λ d. is.dumps place d (omega (arith, known, told.count_is)));
    } in
    subst (λ entries. IsJudgedClean begun.count entries (lists_of history.dumps.items)) (sym is.served)
    (c.every_run_is_judged_clean.ensures.clean begun.count begun.limit (capacity_for events) (asks_of begun.sessions) events history.replies.items is.last is.run (lists_of history.dumps.items) are))
    c.run_over.result c.run_over.ensures.history
