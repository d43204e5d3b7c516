-- Where nothing is cut, all that is kept stays.
use Rattle.std.proofs.Common.{sym, ap, length, arith, length-append, rules}
use Rattle.std.proofs.lemmas.List.{take_all}
use Rattle.bayou_journal.proofs.restore.drop_tail.Goals as goal

pub returns-then-end-total-clause-kept : goal.returns-then-end-total-clause-kept
returns-then-end-total-clause-kept g c = λ modelled.
    let keeps = g.met.D.Device.keeps c.args.device.now in
    let total = c.requires.total modelled in
    sym (take_all c.args.end (g.D.Device.kept c.args.device.now) (omega (arith, total, ap length keeps.1, length-append (g.D.Device.kept c.args.device.now) keeps.0)))

-- Where nothing stands behind, no call is made.
pub returns-clause-nothing : goal.returns-clause-nothing
returns-clause-nothing g c = search rules
