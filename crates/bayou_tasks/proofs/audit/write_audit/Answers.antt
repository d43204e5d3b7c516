use Rattle.std.proofs.Common.{◌∙◌, Err, Ok, ap, sym}
use Rattle.bayou_judge.specs.History.{lent_lists, lists_of}
use Rattle.bayou_print.specs.Waiting.{stage}
use Rattle.bayou_script.specs.AuditFile.{evidence_of}
use Rattle.bayou_tasks.proofs.Audited.{answer_is, refused_is, refused_of, refused_part}
use Rattle.bayou_tasks.proofs.audit.write_audit.Goals as goal

pub write_surveyed-requires : goal.write_surveyed-requires
write_surveyed-requires g c = (
  c.in-Ok.list,
  sym c.deref-in-Ok.ensures.value,
  answer_is (evidence_of c.args.file.now) c.deref-2.result.now (lists_of c.deref.result.now) (lent_lists c.deref-3.result.now) c.in_ok-list.field-0 (Ok c.in-Ok.list) c.deref-2.ensures.value
      (ap lent_lists c.deref-3.ensures.0 ∙ c.lend_dumps-dumps.ensures.lists) (ap lists_of c.deref.ensures.value) c.in-Ok.is c.in_ok-list.ensures,
)

pub returns-in-Err-clause-whole : goal.returns-in-Err-clause-whole
returns-in-Err-clause-whole g c =
    let now = stage g.W.Write.contents in
    let answers = answer_is (evidence_of c.args.file.now) c.deref-2.result.now (lists_of c.deref.result.now) (lent_lists c.deref-3.result.now) c.in_ok-list.field-0 (Err c.in-Err.bad) c.deref-2.ensures.value
    (ap lent_lists c.deref-3.ensures.0 ∙ c.lend_dumps-dumps.ensures.lists) (ap lists_of c.deref.ensures.value) c.in-Err.is c.in_ok-list.ensures in
    refused_of (evidence_of c.args.file.now) c.in-Err.bad (now c.args.output.now c.args.waiting.now) (now c.write_refused.new.output c.write_refused.new.waiting) c.write_refused.result
    (refused_is (evidence_of c.args.file.now) c.in-Err.bad answers) c.write_refused.ensures.whole

pub returns-in-Err-clause-part : goal.returns-in-Err-clause-part
returns-in-Err-clause-part g c =
    let now = stage g.W.Write.contents in
    let answers = answer_is (evidence_of c.args.file.now) c.deref-2.result.now (lists_of c.deref.result.now) (lent_lists c.deref-3.result.now) c.in_ok-list.field-0 (Err c.in-Err.bad) c.deref-2.ensures.value
    (ap lent_lists c.deref-3.ensures.0 ∙ c.lend_dumps-dumps.ensures.lists) (ap lists_of c.deref.ensures.value) c.in-Err.is c.in_ok-list.ensures in
    refused_part (evidence_of c.args.file.now) c.in-Err.bad (now c.args.output.now c.args.waiting.now) (now c.write_refused.new.output c.write_refused.new.waiting) c.write_refused.result
    (refused_is (evidence_of c.args.file.now) c.in-Err.bad answers) c.write_refused.ensures.part
