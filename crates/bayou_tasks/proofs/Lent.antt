-- What is printed of a book that is lent.
use Rattle.std.proofs.Common.{◌≡◌, ℕ, List, ap, sym, ◌∙◌}
use Rattle.std.proofs.lemmas.List.{append-nil}
use Rattle.bayou_answers.specs.declared.answer.Answer.TheVariants.{Booked}
use Rattle.bayou_base.specs.declared.entry.Entry.{Entry}
use Rattle.bayou_judge.specs.History.{lent_lists, lists_of}
use Rattle.bayou_lang.specs.declared.write.Write.{Write}
use Rattle.bayou_machine.specs.declared.lent.Lent.{Lent}
use Rattle.bayou_machine.specs.Run.{LendsFile}
use Rattle.bayou_print.specs.Booked.{book_text}
use Rattle.bayou_objects.specs.Objects.{book_json}
use Rattle.bayou_tasks.specs.Run.{answer_told, book_told}
use Rattle.bayou_tasks.specs.declared.form.AnswerForm.{AnswerForm}
use Rattle.bayou_tasks.specs.declared.form.AnswerForm.TheVariants.{Lines, Objects}
use Rattle.bayou_script.specs.declared.audit.AuditFile.{AuditFile}

-- a book has no line after it
booked : (form : AnswerForm) (servers : ℕ) (file : AuditFile) → book_told form file.count file.entries.items (lists_of file.dumps.items) ≡ answer_told form servers (Booked file)
booked Lines servers file = sym (append-nil (book_text file.count file.entries.items (lists_of file.dumps.items)))
booked Objects servers file = sym (append-nil (book_json file.count file.entries.items (lists_of file.dumps.items)))

-- it is what is printed of the file that has the same
pub lent_told : (form : AnswerForm) (servers : ℕ) (file : AuditFile) (lent : Lent) → LendsFile file lent
    → book_told form lent.count lent.entries.now (lent_lists lent.dumps.items) ≡ answer_told form servers (Booked file)
lent_told form servers file lent lends =
    ap (λ (n : ℕ). book_told form n lent.entries.now (lent_lists lent.dumps.items)) lends.count
    ∙ ap (λ (e : List Entry). book_told form file.count e (lent_lists lent.dumps.items)) lends.entries
    ∙ ap (λ (l : List (List Write)). book_told form file.count file.entries.items l) lends.dumps
    ∙ booked form servers file
