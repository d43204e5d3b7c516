-- no byte was read yet, and the reader was called once for each time that it was asked
use Rattle.std.proofs.Common.{◌≡◌, length}
use Rattle.std.specs.Io.KnownBytes.{Keeps}
use Rattle.bayou_streams.specs.Lines.{counted}
use Rattle.bayou_streams.proofs.patient.PatientRead.read.Given as goal

abbrev pub invariant-loop : goal.invariant-loop
invariant-loop g l = record {
  unread : (length l.buf ≡ length l.initial.buf) × Keeps (g.R.Read.remaining l.initial.self.reader.reader) (g.R.Read.remaining l.self.reader.reader);
  asked : g.P.Patience.asked l.self.patience ≡ counted (g.P.Patience.asked l.initial.self.patience) l.counter;
  called : l.self.reader.calls ≡ counted l.initial.self.reader.calls l.counter;
}
