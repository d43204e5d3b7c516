use Rattle.std.proofs.Common.{rules}
use Rattle.bayou_print.specs.Waiting.{stage}
use Rattle.bayou_socket_run.proofs.Told.{took_same, took_told}
use Rattle.bayou_streams.specs.Account.{account}
use Rattle.bayou_socket_run.proofs.sockets.pass.Goals as goal

-- the output that was lent is back, as what was written last left it
pub returns-clause-took : goal.returns-clause-took
returns-clause-took g c =
    let now = stage g.W.Write.contents in
    let passed = c.run_meanwhile-passed.result in
    took_same _ _ _ (search rules)
    (took_told passed.0 (now c.args.output.now c.in_ok-waiting.waiting) (now passed.1.now passed.2) (account g.W.Write.contents c.end.new.output)
    c.in_ok-waiting.ensures c.run_meanwhile-passed.ensures.told c.end.ensures.part)

pub returns-in_err-ended-clause-took : goal.returns-in_err-ended-clause-took
returns-in_err-ended-clause-took g c =
    let now = stage g.W.Write.contents in
    let passed = c.run_meanwhile-passed.result in
    took_same _ _ _ (search rules)
    (took_told passed.0 (now c.args.output.now c.in_ok-waiting.waiting) (now passed.1.now passed.2) (account g.W.Write.contents c.end.new.output)
    c.in_ok-waiting.ensures c.run_meanwhile-passed.ensures.told c.end.ensures.part)
