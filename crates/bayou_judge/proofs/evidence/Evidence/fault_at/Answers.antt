use Rattle.std.proofs.Common.{ap, ◌∙◌, subst}
use Rattle.bayou_judge.specs.History.{dump_of}
use Rattle.bayou_judge.specs.Inner.Needs.{IsLeastUnmet}
use Rattle.bayou_judge.proofs.Faults.{all_met, least_is, no_demand}
use Rattle.bayou_judge.proofs.evidence.Evidence.fault_at.Goals as goal

pub returns-in_default : goal.returns-in_default
returns-in_default c =
    let dumps = c.args.self.now.dumps in
    no_demand c.args.self.now.count dumps c.recall.ensures.evidence.dumps_are c.args.first.now c.args.second.now c.args.server c.in_default.ensures

pub returns-then-is_met_by_all : goal.returns-then-is_met_by_all
returns-then-is_met_by_all c =
    let dumps = c.args.self.now.dumps in
    all_met c.args.self.now.count dumps c.recall.ensures.evidence.dumps_are c.args.first.now c.args.second.now c.args.server c.in-Some.demand c.in-Some.ensures
    (λ write told. c.if-is_met_by_all.ensures write (c.need_of.ensures write told))

pub returns : goal.returns
returns c =
    let dumps = c.args.self.now.dumps in
    let dump = c.dump-dump.ensures ∙ ap (dump_of dumps) c.from.ensures in
    least_is c.args.self.now.count dumps c.recall.ensures.evidence.dumps_are c.args.first.now c.args.second.now c.args.server c.in-Some.demand c.in-Some.ensures c.requires.first c.least_unmet.result
    (subst (λ list. IsLeastUnmet list c.args.first.now.what c.in-Some.demand c.least_unmet.result) dump c.least_unmet.ensures)
