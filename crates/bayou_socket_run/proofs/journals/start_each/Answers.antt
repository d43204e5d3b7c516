use Rattle.std.proofs.Common.{◌+◌, arith, refl, rules}
use Rattle.std.proofs.lemmas.Result.{err_from_is_err_and}
use Rattle.bayou_print.specs.declared.fault.RunFault.TheVariants.{Memory}
use Rattle.bayou_socket_run.specs.Damage.{journal_name}
use Rattle.bayou_socket_run.proofs.Damaged.{entry_told, one_more_started, stopped}
use Rattle.bayou_streams.specs.Account.{account}
use Rattle.bayou_socket_run.proofs.journals.start_each.Goals as goal

pub returns-in_err-start_one-clause-told : goal.returns-in_err-start_one-clause-told
returns-in_err-start_one-clause-told g c =
    let at = account g.E.Write.contents in
    let p = err_from_is_err_and c.from_residual.result c.from_residual.ensures.1 in
    rw (p.1, p.2) (stopped c.in_err-start_one.field-0.0 c.args.folder.now c.loop-index.index c.args.servers.count (at c.args.told.now) (at c.loop-index.told) (at c.start_one.new.told)
    (omega (arith, c.loop-index-test.true)) c.loop-index.invariant.told c.in_err-start_one.ensures.told)

pub returns-in_err-push_back-clause-told : goal.returns-in_err-push_back-clause-told
returns-in_err-push_back-clause-told g c =
    let at = account g.E.Write.contents in
    let folder = c.args.folder.now in
    let server = c.loop-index.index in
    let p = err_from_is_err_and c.from_residual-in_err-push_back.result c.from_residual-in_err-push_back.ensures.1 in
    rw (p.1, p.2) (stopped Memory folder (server + 1) c.args.servers.count (at c.args.told.now) (at c.start_one.new.told) (at c.start_one.new.told)
    (omega (arith, c.loop-index-test.true))
    (one_more_started (journal_name folder server) folder server (at c.args.told.now) (at c.loop-index.told) (at c.start_one.new.told) refl c.loop-index.invariant.told (entry_told (journal_name folder server) _ (at c.loop-index.told) (at c.start_one.new.told) _ c.in_ok-start_one.ensures.told)) refl)

pub loop-index-preserved : goal.loop-index-preserved
loop-index-preserved g c =
    let at = account g.E.Write.contents in
    let folder = c.args.folder.now in
    let server = c.loop-index.index in
    record {
      told = one_more_started (journal_name folder server) folder server (at c.args.told.now) (at c.loop-index.told) (at c.start_one.new.told) refl c.loop-index.invariant.told (entry_told (journal_name folder server) _ (at c.loop-index.told) (at c.start_one.new.told) _ c.in_ok-start_one.ensures.told);
      number = search (rules, c.loop-index.invariant.number);
    }
