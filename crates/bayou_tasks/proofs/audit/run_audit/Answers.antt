use Rattle.std.proofs.lemmas.Result.{err_from_is_err_and}
use Rattle.bayou_script.specs.AuditFile.{evidence_of}
use Rattle.bayou_streams.specs.Account.{account}
use Rattle.bayou_tasks.proofs.Audited.{AuditsAs-file, AuditsAs-unread, audit_paid}
use Rattle.bayou_tasks.proofs.audit.run_audit.Goals as goal

pub returns-in_err-file-clause-audits : goal.returns-in_err-file-clause-audits
returns-in_err-file-clause-audits g c =
    let p = err_from_is_err_and c.from_residual.result c.from_residual.ensures.1 in
    rw (p.1, p.2)
    (AuditsAs-unread (g.R.Read.remaining c.args.input.now.reader) (g.W.Write.contents c.args.output.now.channel.writer) c.in_err-file.field-0.0 c.in_err-file.ensures.fault)

pub returns-clause-audits : goal.returns-clause-audits
returns-clause-audits g c =
    AuditsAs-file (g.R.Read.remaining c.args.input.now.reader) (account g.W.Write.contents c.args.output.now) (account g.W.Write.contents c.audit.new.output)
    (evidence_of c.in_ok-file.file) c.audit.result c.in_ok-file.ensures.file c.audit.ensures.ok c.audit.ensures.err

pub returns-clause-paid : goal.returns-clause-paid
returns-clause-paid g c =
    audit_paid (evidence_of c.in_ok-file.file) (account g.W.Write.contents c.args.output.now) (account g.W.Write.contents c.audit.new.output) c.audit.result
    c.args.output.now.channel.in_budget c.audit.ensures.ok c.audit.ensures.err c.audit.ensures.ready
