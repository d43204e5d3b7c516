-- no slip is out of the shares so far
use Rattle.bayou_audit.proofs.Out.{NoneOut}
use Rattle.bayou_audit.proofs.book.first_out.Given as goal

abbrev pub invariant-loop-at : goal.invariant-loop-at
invariant-loop-at g l = record { none : NoneOut l.shares l.at }
