use Rattle.std.proofs.Common.{List, ℕ, [], refl, subst}
use Rattle.std.proofs.lemmas.Result.{err_from_is_err_and}
use Rattle.bayou_answers.specs.declared.answer.Answer.TheVariants.{Booked}
use Rattle.bayou_print.specs.Waiting.{Gathers, stage}
use Rattle.bayou_tasks.proofs.Lent.{lent_told}
use Rattle.bayou_tasks.proofs.run.write_lent.Goals as goal

pub returns-in_err-write_book-clause-answered : goal.returns-in_err-write_book-clause-answered
returns-in_err-write_book-clause-answered g c =
    let p = err_from_is_err_and c.from_residual.result c.from_residual.ensures.1 in
    let now = stage g.W.Write.contents in
    let (file, booked, lends) = c.lend-lent.ensures in
    let (missing, some) = c.in_err-write_book.ensures.part in
    rw (p.1, p.2) (
      Booked file,
      booked,
      (
        c.in_err-write_book.ensures.fault,
        missing,
        subst (λ (text : List ℕ). Gathers (now c.args.output.now c.args.waiting.now) (now c.write_book.new.output c.write_book.new.waiting) text missing)
            (lent_told c.args.printing.form c.args.printing.servers.count file c.lend-lent.result lends) some,
      ),
    )

pub returns-clause-answered : goal.returns-clause-answered
returns-clause-answered g c =
    let now = stage g.W.Write.contents in
    let (file, booked, lends) = c.lend-lent.ensures in (
      Booked file,
      booked,
      (
        refl,
        subst (λ (text : List ℕ). Gathers (now c.args.output.now c.args.waiting.now) (now c.write_book.new.output c.write_book.new.waiting) text [])
            (lent_told c.args.printing.form c.args.printing.servers.count file c.lend-lent.result lends) c.in_ok-write_book.ensures.whole,
      ),
    )
