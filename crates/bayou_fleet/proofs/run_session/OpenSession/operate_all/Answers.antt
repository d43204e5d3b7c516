use Rattle.std.proofs.Common.{◌≡◌, ◌∙◌, ◌∷◌, arith, length, rules}
use Rattle.bayou_fleet.proofs.Answering.{answered_more}
use Rattle.bayou_fleet.proofs.run_session.OpenSession.operate_all.Goals as goal

pub loop-operation-preserved : goal.loop-operation-preserved
loop-operation-preserved g c =
    let (front, split, told) = c.loop-operation.invariant.told in
    let cut : c.loop-operation.operation-iterator.rest.items ≡ c.in-Some.operation ∷ c.next.new.self.rest.items = search rules in
    record {
      all = search (rules, c.loop-operation.invariant.all);
      room = search (rules, c.loop-operation.invariant.room);
      who = c.operate.ensures.1 ∙ c.loop-operation.invariant.who;
      told = answered_more c.args.self.now.who c.loop-operation.self.who c.args.operations.items front c.next.new.self.rest.items c.loop-operation.operation-iterator.rest.items c.in-Some.operation
          c.loop-operation.answers.items c.push_reserved.new.self.items c.operate.result c.loop-operation.self.client split cut told c.push_reserved.ensures.items c.loop-operation.invariant.who c.operate.ensures.0;
    }
