use Rattle.std.proofs.Common.{rules, ◌≡◌, ℕ, List, IfSome, subst}
use Rattle.std.specs.Prelude.{string_bytes}
use Rattle.bayou_print.specs.Fault.{ended_status}
use Rattle.bayou_script.specs.AuditFile.{evidence_of}
use Rattle.bayou_streams.specs.Account.{TakesBytes, account}
use Rattle.bayou_tasks.proofs.Explains.{explained}
use Rattle.bayou_tasks.proofs.explained.explain_input.Goals as goal

pub returns : goal.returns
returns g c =
    let now = account g.W.Write.contents in
    let known = g.R.Read.remaining c.args.input.now.reader in
    let text = c.new.result.reader.now in
    let told = c.in_ok-told.told in
    let spelled : c.as_bytes.result.now ≡ string_bytes told = search rules in
    let same : c.in_ok-text.text.items ≡ text = search rules in
    let ends : c.status.result ≡ ended_status c.in_ok-ended.ended = search rules in
    explained c.args.beside _ known text (evidence_of c.in_ok-file.file) c.in_ok-ended.ended (string_bytes told)
    (now c.args.output.now) (now c.print_audit.new.output) (now c.write_text.new.output) (subst (λ (t : List ℕ). IfSome known (λ all. t ≡ all)) same c.in_ok-text.ensures.whole)
    c.in_ok-file.ensures.file c.in_ok-ended.ensures c.in_ok-told.ensures
    (subst (TakesBytes (now c.print_audit.new.output) (now c.write_text.new.output)) spelled c.in_ok-write_text.ensures.whole) ends
