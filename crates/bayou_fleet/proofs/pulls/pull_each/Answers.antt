use Rattle.std.proofs.Common.{◌≡◌, refl, rules}
use Rattle.bayou_answers.specs.declared.answer.Answer.{Answer}
use Rattle.bayou_answers.specs.declared.answer.Answer.TheVariants.{Exchanged}
use Rattle.bayou_answers.specs.declared.answer.Transfer.{Transfer}
use Rattle.bayou_fleet.proofs.Answering.{All-push}
use Rattle.bayou_fleet.proofs.pulls.pull_each.Goals as goal

pub loop-pull-preserved : goal.loop-pull-preserved
loop-pull-preserved g c = record {
  all = search (rules, c.loop-pull.invariant.all);
  room = search (rules, c.loop-pull.invariant.room);
  told = All-push (λ (answer : Answer). (transfer : Transfer) × (answer ≡ Exchanged transfer)) c.loop-pull.answers.items c.push_reserved.new.self.items _ c.push_reserved.ensures.items
      c.loop-pull.invariant.told (c.pull_one-transfer.result, refl);
}
