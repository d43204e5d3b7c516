use Rattle.bayou_judge.proofs.Good.{good_is_fitting}
use Rattle.bayou_judge.specs.History.{dump_of}
use Rattle.bayou_judge.proofs.evidence.Evidence.write_demand.Goals as goal

pub returns-in-Some : goal.returns-in-Some
returns-in-Some c =
    let dumps = c.args.self.now.dumps in
    c.demand_in.ensures c.args.self.now.count (dump_of dumps c.args.server)
    c.in-Some.ensures.there
    (good_is_fitting c.args.self.now.count dumps c.recall.ensures.evidence.dumps_are c.args.server)
