use Rattle.std.proofs.Common.{◌∙◌, ℕ, List, [], Ok, sym, subst}
use Rattle.std.specs.Io.{IsEmptyOrEndsWith}
use Rattle.std.specs.Prelude.{flat_map}
use Rattle.std.proofs.lemmas.Result.{err_from_is_err_and}
use Rattle.bayou_print.specs.Laws.Ends.{verdict_ends}
use Rattle.bayou_print.specs.Verdicts.{surveyed_text}
use Rattle.bayou_print.specs.Waiting.{Gathers, stage}
use Rattle.bayou_script.specs.AuditFile.{evidence_of}
use Rattle.bayou_tasks.proofs.Audited.{audit_of, both_part, survey_behind, verdict_is, verdict_part}
use Rattle.bayou_tasks.proofs.audit.write_surveyed.Goals as goal

pub print-requires : goal.print-requires
print-requires g c =
    subst (λ (text : List ℕ). IsEmptyOrEndsWith text 10) (sym (c.as_bytes.ensures.value ∙ c.in_ok-line.ensures)) (verdict_ends (Ok c.verdict_of.result))

pub returns-in_err-print-clause-part : goal.returns-in_err-print-clause-part
returns-in_err-print-clause-part g c =
    let p = err_from_is_err_and c.from_residual-in_err-print.result c.from_residual-in_err-print.ensures.1 in
    let now = stage g.W.Write.contents in
    let is = verdict_is (evidence_of c.args.file.now) c.deref.result.now c.args.surveyed.now c.verdict_of.result c.deref.ensures.value c.requires c.verdict_of.ensures in
    let (text, missing, part, gathered) =
    verdict_part (evidence_of c.args.file.now) (Ok c.verdict_of.result) (now c.args.output.now c.args.waiting.now) (now c.print.new.output c.print.new.self) is
    (subst (λ text. (missing : List ℕ) × Gathers (now c.args.output.now c.args.waiting.now) (now c.print.new.output c.print.new.self) text missing)
    (c.as_bytes.ensures.value ∙ c.in_ok-line.ensures) c.in_err-print.ensures.part) in
    rw (p.1, p.2) (c.in_err-print.ensures.fault, text, missing, part, gathered)

pub returns-in_err-write_each-clause-part : goal.returns-in_err-write_each-clause-part
returns-in_err-write_each-clause-part g c =
    let p = err_from_is_err_and c.from_residual-in_err-write_each.result c.from_residual-in_err-write_each.ensures.1 in
    let now = stage g.W.Write.contents in
    let is = verdict_is (evidence_of c.args.file.now) c.deref.result.now c.args.surveyed.now c.verdict_of.result c.deref.ensures.value c.requires c.verdict_of.ensures in
    let (missing, some) = c.in_err-write_each.ensures.part in
    let (text, missing, part, gathered) =
    both_part (evidence_of c.args.file.now) (Ok c.verdict_of.result) (now c.args.output.now c.args.waiting.now) (now c.print.new.output c.print.new.self)
    (now c.write_each.new.output c.write_each.new.waiting) (flat_map surveyed_text c.args.surveyed.now) missing is (survey_behind (evidence_of c.args.file.now) c.args.surveyed.now c.requires)
    (subst (λ text. Gathers (now c.args.output.now c.args.waiting.now) (now c.print.new.output c.print.new.self) text [])
    (c.as_bytes.ensures.value ∙ c.in_ok-line.ensures) c.in_ok-print.ensures.whole) some in
    rw (p.1, p.2) (c.in_err-write_each.ensures.fault, text, missing, part, gathered)

pub returns-clause-whole : goal.returns-clause-whole
returns-clause-whole g c =
    let now = stage g.W.Write.contents in
    let is = verdict_is (evidence_of c.args.file.now) c.deref.result.now c.args.surveyed.now c.verdict_of.result c.deref.ensures.value c.requires c.verdict_of.ensures in
    audit_of (evidence_of c.args.file.now) (Ok c.verdict_of.result) c.of_verdict.result (now c.args.output.now c.args.waiting.now) (now c.print.new.output c.print.new.self)
    (now c.write_each.new.output c.write_each.new.waiting) (flat_map surveyed_text c.args.surveyed.now) is (survey_behind (evidence_of c.args.file.now) c.args.surveyed.now c.requires)
    (subst (λ text. Gathers (now c.args.output.now c.args.waiting.now) (now c.print.new.output c.print.new.self) text [])
    (c.as_bytes.ensures.value ∙ c.in_ok-line.ensures) c.in_ok-print.ensures.whole) c.in_ok-write_each.ensures.whole c.of_verdict.ensures
