use Rattle.std.proofs.Common.{◌≡◌, ap, length, arith}
use Rattle.bayou_lang.specs.Laws.Fitting.{greatest_clock-most}
use Rattle.bayou_log.specs.Log.{Log}
use Rattle.bayou_log.proofs.write_log.WriteLog.clock.Goals as goal

pub returns-clause-within : goal.returns-clause-within
returns-clause-within c =
    let writes = c.self.inside.writes.items in
    let held : length writes ≡ length c.args.self.now.receipts = ap (λ (log : Log). length log.receipts) c.self.view_is in
    omega (arith, c.self.invariant.1.latest, greatest_clock-most c.self.inside.count writes c.self.invariant.0.fitting)
