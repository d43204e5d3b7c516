-- the counts so far were written
use Rattle.std.specs.Fmt.{HasWritten, IsPlainFormatter}
use Rattle.bayou_print.specs.Printed.{counts_text}
use Rattle.bayou_print.proofs.printed.CountsDisplay.fmt.Given as goal

abbrev pub invariant-loop-index : goal.invariant-loop-index
invariant-loop-index g l =
    IsPlainFormatter l.initial.f
    → HasWritten g.W.Write.write_str_gives l.initial.f (counts_text l.index l.self.vector.now) l.f
