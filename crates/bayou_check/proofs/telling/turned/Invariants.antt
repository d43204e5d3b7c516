use Rattle.std.proofs.Common.{vec_len}
use Rattle.bayou_check.proofs.telling.turned.Given as goal

abbrev pub decreases-loop-step : goal.decreases-loop-step
decreases-loop-step l = vec_len l.path
