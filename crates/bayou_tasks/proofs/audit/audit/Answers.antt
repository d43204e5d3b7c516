use Rattle.bayou_script.specs.AuditFile.{evidence_of}
use Rattle.bayou_tasks.specs.Audit.{IsAudit, IsAuditPart}
use Rattle.bayou_tasks.proofs.Audited.{part_front, part_whole}
use Rattle.bayou_print.specs.Laws.Ending.{ends_short, ends_well}
use Rattle.bayou_print.specs.Waiting.{stage}
use Rattle.bayou_streams.specs.Account.{account}
use Rattle.bayou_tasks.proofs.audit.audit.Goals as goal

pub returns-clause-ok : goal.returns-clause-ok
returns-clause-ok g c =
    let now = stage g.W.Write.contents in
    ends_well (IsAudit (evidence_of c.args.file.now)) c.write_audit-ended.result c.end.result (now c.args.output.now c.args.waiting) (now c.write_audit-ended.new.output c.write_audit-ended.new.waiting)
    (account g.W.Write.contents c.end.new.output) c.requires.none c.write_audit-ended.ensures.whole c.end.ensures.whole c.end.ensures.same

pub returns-clause-err : goal.returns-clause-err
returns-clause-err g c =
    let now = stage g.W.Write.contents in
    ends_short (IsAudit (evidence_of c.args.file.now)) (IsAuditPart (evidence_of c.args.file.now)) (part_front (evidence_of c.args.file.now)) (part_whole (evidence_of c.args.file.now)) c.write_audit-ended.result c.end.result
    (now c.args.output.now c.args.waiting) (now c.write_audit-ended.new.output c.write_audit-ended.new.waiting) (account g.W.Write.contents c.end.new.output)
    c.requires.none c.write_audit-ended.ensures.whole c.write_audit-ended.ensures.part c.end.ensures.part c.end.ensures.cause
