use Rattle.std.proofs.lemmas.Result.{err_from_is_err_and}
use Rattle.bayou_script.specs.Plan.{plan_of}
use Rattle.bayou_streams.specs.Account.{account}
use Rattle.bayou_streams.specs.Laws.Taken.{Pays-none}
use Rattle.bayou_tasks.proofs.Runs.{RunsAs-script, RunsAs-unbegun, RunsAs-unread, run_paid, run_reads, unbegun_reads, unbegun_writes}
use Rattle.bayou_tasks.proofs.run.run_with.Goals as goal

pub returns-in_err-script-clause-runs : goal.returns-in_err-script-clause-runs
returns-in_err-script-clause-runs g c =
    let p = err_from_is_err_and c.from_residual.result c.from_residual.ensures.1 in
    rw (p.1, p.2)
    (RunsAs-unread c.args.form (g.R.Read.remaining c.args.input.now.reader) (g.W.Write.contents c.args.output.now.channel.writer) c.in_err-script.field-0.0 c.in_err-script.ensures.fault)

pub returns-clause-runs : goal.returns-clause-runs
returns-clause-runs g c =
    let servers = c.in_ok-script.script.servers in
    RunsAs-script c.a_script_is_a_run.ensures c.args.form (g.R.Read.remaining c.args.input.now.reader) (account g.W.Write.contents c.args.output.now) (account g.W.Write.contents c.answer_all.new.output)
    (plan_of c.in_ok-script.script) (record { some = servers.count_in_range.0; count = servers.count_in_range.1; limit = servers.limit_in_range.1 }) c.answer_all.result c.in_ok-script.ensures.script c.answer_all.ensures.ok c.answer_all.ensures.err

pub returns-in_err-machine-clause-runs : goal.returns-in_err-machine-clause-runs
returns-in_err-machine-clause-runs g c =
    let p = err_from_is_err_and c.from_residual-in_err-machine.result c.from_residual-in_err-machine.ensures.1 in
    rw (p.1, p.2)
    (RunsAs-unbegun c.args.form (g.R.Read.remaining c.args.input.now.reader) (g.W.Write.contents c.args.output.now.channel.writer) (plan_of c.in_ok-script.script)
    c.in_err-machine.field-0.0 c.in_ok-script.ensures.script c.in_err-machine.ensures.fault)

pub returns-in_err-machine-clause-read : goal.returns-in_err-machine-clause-read
returns-in_err-machine-clause-read g c =
    let p = err_from_is_err_and c.from_residual-in_err-machine.result c.from_residual-in_err-machine.ensures.1 in
    rw (p.1, p.2) (unbegun_reads _ _ c.in_err-machine.field-0.0)

pub returns-in_err-machine-clause-written : goal.returns-in_err-machine-clause-written
returns-in_err-machine-clause-written g c =
    let p = err_from_is_err_and c.from_residual-in_err-machine.result c.from_residual-in_err-machine.ensures.1 in
    rw (p.1, p.2) (unbegun_writes _ _ c.in_err-machine.field-0.0)

pub returns-clause-paid : goal.returns-clause-paid
returns-clause-paid g c =
    run_paid c.args.form (plan_of c.in_ok-script.script) (account g.W.Write.contents c.args.output.now) (account g.W.Write.contents c.answer_all.new.output) c.answer_all.result
    c.args.output.now.channel.in_budget c.answer_all.ensures.ok c.answer_all.ensures.err c.answer_all.ensures.ready

pub returns-clause-read : goal.returns-clause-read
returns-clause-read g c =
    run_reads c.args.form _ _ (plan_of c.in_ok-script.script) (account g.W.Write.contents c.args.output.now) (account g.W.Write.contents c.answer_all.new.output) c.answer_all.result
    c.answer_all.ensures.err

pub returns-clause-written : goal.returns-clause-written
returns-clause-written g c = c.answer_all.ensures.ended

pub returns-in_err-script-clause-paid : goal.returns-in_err-script-clause-paid
returns-in_err-script-clause-paid g c = Pays-none _ _

pub returns-in_err-waiting-clause-paid : goal.returns-in_err-waiting-clause-paid
returns-in_err-waiting-clause-paid g c = Pays-none _ _

pub returns-in_err-machine-clause-paid : goal.returns-in_err-machine-clause-paid
returns-in_err-machine-clause-paid g c = Pays-none _ _
