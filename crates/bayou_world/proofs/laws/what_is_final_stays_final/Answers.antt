use Rattle.bayou_world.proofs.Final.{final_on, own_on, same_on}
use Rattle.bayou_world.proofs.laws.what_is_final_stays_final.Goals as goal

pub returns : goal.returns
returns c = record { same = same_on; stays = final_on; held = own_on }
