-- no byte was read yet
use Rattle.std.proofs.Common.{◌≡◌, length}
use Rattle.std.specs.Io.KnownBytes.{Keeps}
use Rattle.bayou_web_serve.proofs.timed.LimitedStreamRead.read.Given as goal

abbrev pub invariant-loop : goal.invariant-loop
invariant-loop g l = (length l.buf ≡ length l.initial.buf) × Keeps (g.R.Read.remaining l.initial.self.stream) (g.R.Read.remaining l.self.stream)
