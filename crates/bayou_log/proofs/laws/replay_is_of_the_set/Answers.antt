use Rattle.std.proofs.Common.{ap}
use Rattle.bayou_lang.specs.Database.{empty}
use Rattle.bayou_log.specs.Replay.{after_writes}
use Rattle.bayou_lang.specs.Laws.SetOfWrites.{in_stamp_order-same}
use Rattle.bayou_log.proofs.laws.replay_is_of_the_set.Goals as goal

pub returns : goal.returns
returns c = λ xs ys s t same. ap (λ writes. after_writes writes empty) (in_stamp_order-same xs ys s t same)
