use Rattle.bayou_greeting.specs.Laws.Digests.{equal_or_collide}
use Rattle.bayou_greeting.proofs.laws.equal_digests_are_of_equal_writes.Goals as goal

pub returns : goal.returns
returns c writes others sizes meet = equal_or_collide writes others sizes meet
