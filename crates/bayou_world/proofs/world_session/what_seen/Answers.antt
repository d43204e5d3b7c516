use Rattle.std.proofs.Common.{rules}
use Rattle.bayou_world.proofs.world_session.what_seen.Goals as goal

pub returns-in-Err : goal.returns-in-Err
returns-in-Err c = search rules
