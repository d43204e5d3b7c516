use Rattle.std.proofs.Common.{◌≡◌, ℕ, Ok, Some, subst, sym}
use Rattle.bayou_base.specs.declared.asks.Asks.{Asks}
use Rattle.bayou_judge.specs.Answers.{Judges}
use Rattle.bayou_judge.specs.declared.verdict.Verdict.TheVariants.{Clean}
use Rattle.bayou_judge.specs.Guarantees.{Keeps}
use Rattle.bayou_world.specs.Runs.{history_of_machine}
use Rattle.bayou_world.proofs.Entering.{run_is_entered}
use Rattle.bayou_world.proofs.JudgingBooks.{book_clean, book_history}
use Rattle.bayou_world.proofs.Keeping.{keeps}
use Rattle.bayou_world.proofs.Running.{run_is_good}
use Rattle.bayou_world.proofs.Starting.{still_asks}
use Rattle.bayou_world.proofs.Telling.{run_is_told}
use Rattle.bayou_world.proofs.laws.every_book_is_judged_clean.Goals as goal

pub returns : goal.returns
returns c = record {
  history = λ count limit capacity asks events replies last run none dumps are.
      book_history last count asks (run_is_good count limit capacity asks events replies last run) (run_is_told count limit capacity asks events replies last run)
      (run_is_entered count limit capacity asks events replies last run) dumps are c.a_vector_is_of_one_database.ensures none;
  clean = λ count limit capacity asks events replies last run dumps are answer.
      let good = run_is_good count limit capacity asks events replies last run in
      let kept : (session : ℕ) (wants : Asks) → asks session ≡ Some wants → Keeps (history_of_machine last) wants session = λ session wants is.
      let found = still_asks count limit capacity asks events replies last run session wants is in
      subst (λ asked. Keeps (history_of_machine last) asked session) found.2 (keeps last good session found.0 found.1) in
      let is_clean = book_clean last count asks good (run_is_told count limit capacity asks events replies last run) (run_is_entered count limit capacity asks events replies last run) dumps are c.a_vector_is_of_one_database.ensures kept in (
        λ judged. c.a_verdict_is_one.ensures count last.filed dumps answer (Ok Clean) judged is_clean,
        λ same. subst (Judges count last.filed dumps) (sym same) is_clean,
      );
}
