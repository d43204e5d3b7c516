use Rattle.bayou_greeting.specs.Laws.Digests.{fronts_or_collide}
use Rattle.bayou_greeting.proofs.laws.a_difference_stays.Goals as goal

pub returns : goal.returns
returns c writes others later later_others sizes laters meet = fronts_or_collide writes others later later_others sizes laters meet
