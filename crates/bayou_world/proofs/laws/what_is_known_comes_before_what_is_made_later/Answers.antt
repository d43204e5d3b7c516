use Rattle.bayou_world.proofs.Final.{holds_on, known_on, later_on}
use Rattle.bayou_world.proofs.laws.what_is_known_comes_before_what_is_made_later.Goals as goal

pub returns : goal.returns
returns c = record { known = known_on; had = holds_on; later = later_on }
