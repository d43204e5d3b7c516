use Rattle.std.proofs.Common.{◌≡◌, ◌∙◌, List, ap, refl, sym}
use Rattle.bayou_judge.specs.History.{lent_lists, lists_of}
use Rattle.bayou_script.specs.AuditFile.{evidence_of}
use Rattle.bayou_tasks.proofs.Audited.{answer_is}
use Rattle.bayou_tasks.proofs.Explains.{answers_of, shows_of}
use Rattle.bayou_tasks.proofs.explained.explain_file.Goals as goal

pub returns : goal.returns
returns c =
    let evidence = evidence_of c.args.file.now in
    let surveyed = c.in_ok-surveyed.surveyed in
    let answers = answer_is evidence c.deref-2.result.now (lists_of c.deref.result.now) (lent_lists c.deref-3.result.now) surveyed surveyed c.deref-2.ensures.value
    (ap lent_lists c.deref-3.ensures.0 ∙ c.lend_dumps-dumps.ensures.lists) (ap lists_of c.deref.ensures.value) refl c.in_ok-surveyed.ensures in
    let dumps = ap lent_lists c.deref-5.ensures.0 ∙ (c.lend_dumps-dumps.ensures.lists ∙ ap lists_of c.deref.ensures.value) in
    let shows = shows_of c.args.beside.is_all evidence.count c.deref-4.result.now evidence.entries (lent_lists c.deref-5.result.now) evidence.dumps c.in_ok-shown.shown c.deref-4.ensures.value dumps c.in_ok-shown.ensures in
    (surveyed, answers, c.in_ok-shown.shown, shows, c.in_ok-told.ensures, c.in_ok-drawn.ensures)
