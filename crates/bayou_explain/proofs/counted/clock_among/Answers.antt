use Rattle.std.proofs.Common.{◌∙◌, ap, sym, take}
use Rattle.bayou_lang.specs.Writes.{covered_by, greatest_clock}
use Rattle.bayou_explain.proofs.Counting.{one_more}
use Rattle.bayou_explain.proofs.counted.clock_among.Goals as goal

pub loop-write-preserved : goal.loop-write-preserved
loop-write-preserved c =
    let writes = c.args.writes.now in
    let at = c.loop-write.write-index in
    let item = c.write-item.result in
    c.clock_with-clock.ensures (take at writes) c.loop-write.invariant
    ∙ sym (ap (λ ws. greatest_clock (covered_by c.args.counts.now ws)) (one_more writes at item c.loop-write-test.true c.write-item.is))
