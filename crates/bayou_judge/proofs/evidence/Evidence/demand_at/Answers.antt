use Rattle.std.proofs.Common.{◌≡◌, Option, Some, None, sym, subst, arith}
use Rattle.bayou_judge.specs.declared.demand.Demand.{Demand}
use Rattle.bayou_judge.specs.History.{dump_of}
use Rattle.bayou_judge.specs.Inner.Needs.{IsDemandOf, IsServed}
use Rattle.bayou_judge.proofs.Demands.{read_demand, write_demand}
use Rattle.bayou_judge.proofs.evidence.Evidence.demand_at.Goals as goal

pub returns-in-Read : goal.returns-in-Read
returns-in-Read c =
    let dumps = c.args.self.now.dumps in
    let demand : Option Demand = Some (record { counts = c.in-Read.vector; next = None }) in
    let here : c.args.home.index ≡ c.args.server = omega (arith, c.from.ensures, c.if-from-server.true) in
    subst (λ what. IsDemandOf dumps c.args.home.index what c.args.server demand) (sym c.in-Read.is)
    (read_demand c.args.self.now.count dumps c.recall.ensures.evidence.dumps_are c.args.home.index c.args.server c.in-Read.field-0 c.in-Read.vector here
    (subst (IsServed (dump_of dumps c.args.home.index)) c.in-Read.is c.requires.served))

pub returns-in-Write : goal.returns-in-Write
returns-in-Write c =
    let dumps = c.args.self.now.dumps in
    subst (λ what. IsDemandOf dumps c.args.home.index what c.args.server c.write_demand.result) (sym c.in-Write.is)
    (write_demand c.args.self.now.count dumps c.recall.ensures.evidence.dumps_are c.args.home.index c.args.server c.in-Write.wid c.in-Write.stamp c.in-Write.field-2 c.write_demand.result
    (subst (IsServed (dump_of dumps c.args.home.index)) c.in-Write.is c.requires.served) c.write_demand.ensures)
