use Rattle.std.proofs.Common.{List, [], None, ℕ, ◌∙◌, subst, sym}
use Rattle.std.specs.Io.{IsEmptyOrEndsWith}
use Rattle.bayou_judge.specs.History.{lent_lists}
use Rattle.bayou_objects.specs.Objects.{evidence_json, booked_json}
use Rattle.bayou_objects.specs.Laws.Ends.{booked_ends}
use Rattle.bayou_text.specs.Said.{servers}
use Rattle.bayou_print.specs.Waiting.{Gathers, stage}
use Rattle.bayou_print.specs.Laws.Gathered.{Gathers-none}
use Rattle.bayou_objects.proofs.Sequence.{both_whole, first_part, second_part}
use Rattle.bayou_objects.proofs.telling.write_book_objects.Goals as goal

pub returns-in_err-first-clause-part : goal.returns-in_err-first-clause-part
returns-in_err-first-clause-part g c = (_, Gathers-none _ _)

pub print-requires : goal.print-requires
print-requires g c =
    subst (λ (text : List ℕ). IsEmptyOrEndsWith text 10) (sym (c.as_bytes.ensures.value ∙ c.in_ok-first.ensures)) (booked_ends (servers c.args.count None))

pub returns-in_err-print-clause-part : goal.returns-in_err-print-clause-part
returns-in_err-print-clause-part g c =
    let now = stage g.W.Write.contents in
    first_part (now c.args.output.now c.args.waiting.now) (now c.print.new.output c.print.new.self) (booked_json (servers c.args.count None))
    (evidence_json c.args.count c.args.entries.now (lent_lists c.args.dumps.now))
    (subst (λ text. (missing : List ℕ) × Gathers (now c.args.output.now c.args.waiting.now) (now c.print.new.output c.print.new.self) text missing)
    (c.as_bytes.ensures.value ∙ c.in_ok-first.ensures) c.in_err-print.ensures.part)

pub returns-clause-whole : goal.returns-clause-whole
returns-clause-whole g c =
    let now = stage g.W.Write.contents in
    both_whole (now c.args.output.now c.args.waiting.now) (now c.print.new.output c.print.new.self) (now c.write_evidence.new.output c.write_evidence.new.waiting)
    (booked_json (servers c.args.count None)) (evidence_json c.args.count c.args.entries.now (lent_lists c.args.dumps.now)) c.write_evidence.result
    (subst (λ text. Gathers (now c.args.output.now c.args.waiting.now) (now c.print.new.output c.print.new.self) text [])
    (c.as_bytes.ensures.value ∙ c.in_ok-first.ensures) c.in_ok-print.ensures.whole) c.write_evidence.ensures.whole

pub returns-clause-part : goal.returns-clause-part
returns-clause-part g c =
    let now = stage g.W.Write.contents in
    second_part (now c.args.output.now c.args.waiting.now) (now c.print.new.output c.print.new.self) (now c.write_evidence.new.output c.write_evidence.new.waiting)
    (booked_json (servers c.args.count None)) (evidence_json c.args.count c.args.entries.now (lent_lists c.args.dumps.now))
    (subst (λ text. Gathers (now c.args.output.now c.args.waiting.now) (now c.print.new.output c.print.new.self) text [])
    (c.as_bytes.ensures.value ∙ c.in_ok-first.ensures) c.in_ok-print.ensures.whole) c.write_evidence.ensures.part
