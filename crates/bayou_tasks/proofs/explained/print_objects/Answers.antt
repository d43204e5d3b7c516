use Rattle.std.proofs.Common.{rules, ◌≡◌, ◌∙◌, List, ap, refl, subst, sym}
use Rattle.std.specs.Prelude.{string_bytes}
use Rattle.bayou_base.specs.declared.entry.Entry.{Entry}
use Rattle.bayou_judge.specs.Answers.{Judges, SurveyAnswer}
use Rattle.bayou_judge.specs.History.{lent_lists, lists_of}
use Rattle.bayou_script.specs.AuditFile.{evidence_of}
use Rattle.bayou_streams.specs.Account.{TakesBytes, account}
use Rattle.bayou_tasks.proofs.Audited.{answer_is}
use Rattle.bayou_tasks.proofs.explained.print_objects.Goals as goal

pub returns : goal.returns
returns g c =
    let now = account g.W.Write.contents in
    let evidence = evidence_of c.args.file.now in
    let surveyed = c.in_ok-surveyed.surveyed in
    let answers = answer_is evidence c.deref-2.result.now (lists_of c.deref.result.now) (lent_lists c.deref-3.result.now) surveyed surveyed c.deref-2.ensures.value
    (ap lent_lists c.deref-3.ensures.0 ∙ c.lend_dumps-dumps.ensures.lists) (ap lists_of c.deref.ensures.value) refl c.in_ok-surveyed.ensures in
    let entries : c.deref-4.result.now ≡ evidence.entries = c.deref-4.ensures.value in
    let judges = subst (λ (list : List Entry). Judges evidence.count list evidence.dumps c.verdict_in-verdict.result) entries
    (c.verdict_in-verdict.ensures evidence.count evidence.dumps (subst (λ (list : List Entry). SurveyAnswer evidence.count list evidence.dumps surveyed) (sym entries) answers)) in
    let spelled : c.as_bytes.result.now ≡ string_bytes c.in_ok-text.text = search rules in (
      string_bytes c.in_ok-text.text,
      record {
        verdict = c.verdict_in-verdict.result;
        is = record { judges = judges };
        survey = surveyed;
        surveyed = answers;
        lines = c.in_ok-text.ensures;
        comes_to = c.of_verdict.ensures;
      },
      subst (TakesBytes (now c.args.output.now) (now c.write_text.new.output)) spelled c.in_ok-write_text.ensures.whole,
    )
