use Rattle.std.proofs.Common.{◌≡◌, ◌∙◌, ap, arith, length, sym}
use Rattle.std.proofs.lemmas.List.{ext_get_or}
use Rattle.bayou_base.specs.declared.limits.TheConstants.{SERVERS}
use Rattle.bayou_explain.proofs.counted.differing.Goals as goal

pub returns : goal.returns
returns c =
    let sized : length c.args.vector.now ≡ SERVERS = ap length (sym c.counts-counted.ensures.value) ∙ c.counts-counted.ensures.valid.one_each in
    ext_get_or 0 c.args.vector.now c.args.counts.now (sized ∙ sym c.told-counts)
    (λ at within. c.loop-server.invariant at (omega (arith, within, sized, c.loop-server-test.false)))
