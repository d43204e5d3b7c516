use Rattle.bayou_world.proofs.Final.{beginning_on, everywhere_on, final_beginning, some_beginning}
use Rattle.bayou_world.proofs.laws.a_known_beginning_is_final.Goals as goal

pub returns : goal.returns
returns c = record { longest = some_beginning; each = final_beginning; same = beginning_on; everywhere = everywhere_on }
