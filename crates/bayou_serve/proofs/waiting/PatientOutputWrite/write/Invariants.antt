-- nothing was written yet
use Rattle.std.specs.Io.KnownBytes.{Keeps}
use Rattle.bayou_serve.proofs.waiting.PatientOutputWrite.write.Given as goal

abbrev pub invariant-loop : goal.invariant-loop
invariant-loop g l = Keeps (g.W.Write.contents l.initial.self.writer) (g.W.Write.contents l.self.writer)
