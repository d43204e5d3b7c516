-- no byte was written yet
use Rattle.std.specs.Io.KnownBytes.{Keeps}
use Rattle.bayou_web_serve.proofs.timed.LimitedStreamWrite.write.Given as goal

abbrev pub invariant-loop : goal.invariant-loop
invariant-loop g l = Keeps (g.W.Write.contents l.initial.self.stream) (g.W.Write.contents l.self.stream)
