-- the bytes that were taken so far, of which none is a line feed
use Rattle.std.proofs.Common.{◌≡◌, ◌+◌, ℕ, List, take}
use Rattle.bayou_base.specs.declared.limits.TheConstants.{MAX_LINE_BYTES}
use Rattle.bayou_connect.specs.Reader.{left_in}
use Rattle.bayou_connect.proofs.Lining.{HasTaken}
use Rattle.bayou_connect.proofs.lines.InputLines.take_line.Given as goal

abbrev pub invariant-loop : goal.invariant-loop
invariant-loop g l = (passed : List ℕ) × HasTaken (left_in g.R.Read.remaining l.fn.self) (left_in g.R.Read.remaining l.self) passed l.has_any
    × (l.line.items ≡ take (MAX_LINE_BYTES + 1) passed)
