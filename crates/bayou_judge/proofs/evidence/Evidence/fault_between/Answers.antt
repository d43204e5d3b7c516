use Rattle.std.proofs.Common.{◌≡◌, Some, None, length, subst, arith}
use Rattle.bayou_judge.specs.Inner.Needs.{IsLeastAt}
use Rattle.bayou_judge.proofs.Faults.{least_server, none_at_all, none_to}
use Rattle.bayou_judge.proofs.evidence.Evidence.fault_between.Goals as goal

pub returns-in-Some : goal.returns-in-Some
returns-in-Some c =
    let dumps = c.args.self.now.dumps in
    least_server dumps c.args.first.now c.args.second.now c.loop-server.server c.in-Some.wid c.loop-server.invariant
    (subst (λ server. IsLeastAt dumps c.args.first.now c.args.second.now server (Some c.in-Some.wid)) c.from.ensures c.in-Some.ensures)

pub loop-server-preserved : goal.loop-server-preserved
loop-server-preserved c =
    let dumps = c.args.self.now.dumps in
    none_to dumps c.args.first.now c.args.second.now c.loop-server.server c.loop-server.invariant
    (subst (λ server. IsLeastAt dumps c.args.first.now c.args.second.now server None) c.from.ensures c.in_default.ensures)

pub returns : goal.returns
returns c =
    let dumps = c.args.self.now.dumps in
    let size : length dumps ≡ c.servers-server-end.result = c.servers-server-end.ensures.dumps in
    none_at_all dumps c.args.first.now c.args.second.now
    (λ other wid within. c.loop-server.invariant other wid (omega (arith, within, size, c.loop-server-test.false))) (omega (arith, size, c.requires.home))
