-- nothing was read yet
use Rattle.std.proofs.Common.{◌≡◌, ◌≤◌, false}
use Rattle.std.specs.Io.KnownBytes.{Keeps}
use Rattle.bayou_connect.proofs.lines.InputLines.fill.Given as goal

abbrev pub invariant-loop : goal.invariant-loop
invariant-loop g l = Keeps (g.R.Read.remaining l.fn.self.reader) (g.R.Read.remaining l.self.reader) × (l.self.to ≤ l.self.from) × (l.self.has_ended ≡ false)
