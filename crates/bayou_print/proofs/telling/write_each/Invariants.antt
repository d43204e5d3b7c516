-- what is gone from the lines was written or waits, and no fewer turns are left
use Rattle.std.proofs.Common.{◌≡◌, ◌≤◌, ℕ, List, [], ◌++◌, drop}
use Rattle.std.specs.Prelude.{flat_map}
use Rattle.bayou_print.specs.Waiting.{Gathers, stage}
use Rattle.bayou_print.proofs.telling.write_each.Given as goal

abbrev pub invariant-loop-part : goal.invariant-loop-part
invariant-loop-part g l =
    (front : List ℕ) × (flat_map (g.P.Printer.text l.printer) l.parts ≡ front ++ flat_map (g.P.Printer.text l.printer) (drop l.part-index l.parts))
    × Gathers (stage g.W.Write.contents l.initial.output l.initial.waiting) (stage g.W.Write.contents l.output l.waiting) front []
    × (l.initial.output.channel.turns_left ≤ l.output.channel.turns_left)
