-- One call, or two.
use Rattle.std.proofs.Common.{arith}
use Rattle.bayou_journal.proofs.restore.write_through.Goals as goal

pub returns-then-is_empty-clause-calls : goal.returns-then-is_empty-clause-calls
returns-then-is_empty-clause-calls g c = g.met.D.Device.goes_on 1 0 2 _ _ _ (omega arith) c.sync.ensures.calls (g.met.D.Device.stays 0 _)

pub returns-in_err-append-clause-calls : goal.returns-in_err-append-clause-calls
returns-in_err-append-clause-calls g c = g.met.D.Device.goes_on 1 0 2 _ _ _ (omega arith) c.append.ensures.calls (g.met.D.Device.stays 0 _)

pub returns-clause-calls : goal.returns-clause-calls
returns-clause-calls g c = g.met.D.Device.goes_on 1 1 2 _ _ _ (omega arith) c.append.ensures.calls c.sync-2.ensures.calls
