use Rattle.bayou_world.proofs.Running.{run_has_distinct_tags, run_is_tagged}
use Rattle.bayou_world.proofs.laws.a_tag_is_of_one_write.Goals as goal

pub returns : goal.returns
returns c = record { tagged = run_is_tagged; apart = run_has_distinct_tags }
