use Rattle.bayou_world.proofs.Collecting.{held_on, items_on, names_on}
use Rattle.bayou_world.proofs.laws.what_is_held_stays_held.Goals as goal

pub returns : goal.returns
returns c = record { held = held_on; items = items_on; names = names_on }
