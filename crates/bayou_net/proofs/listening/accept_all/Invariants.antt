-- no desk is lost
use Rattle.std.proofs.Common.{◌≡◌, vec_len}
use Rattle.bayou_net.proofs.listening.accept_all.Given as goal

abbrev pub invariant-loop-desk : goal.invariant-loop-desk
invariant-loop-desk g l = l.hands.total ≡ l.initial.hands.total

abbrev pub decreases-loop-desk : goal.decreases-loop-desk
decreases-loop-desk g l = vec_len l.hands.idle
