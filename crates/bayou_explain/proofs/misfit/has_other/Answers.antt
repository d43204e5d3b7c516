use Rattle.std.proofs.Common.{arith, ◌≡◌, sym}
use Rattle.bayou_lang.specs.declared.write.Write.{Write}
use Rattle.bayou_explain.proofs.Found.{all_more, all_taken}
use Rattle.bayou_explain.proofs.misfit.has_other.Goals as goal

pub returns-then-is_other : goal.returns-then-is_other
returns-then-is_other c = (c.loop-held.held-index, c.held-item.result, c.loop-held-test.true, sym c.held-item.is, c.if-is_other.ensures)

pub loop-held-preserved : goal.loop-held-preserved
loop-held-preserved c =
    all_more (λ (held : Write). held.wid ≡ c.args.write.now.wid → held ≡ c.args.write.now) c.args.dump.now c.loop-held.held-index c.held-item.result c.loop-held-test.true c.held-item.is
    c.if-is_other.ensures c.loop-held.invariant

pub returns : goal.returns
returns c =
    all_taken (λ (held : Write). held.wid ≡ c.args.write.now.wid → held ≡ c.args.write.now) c.args.dump.now c.loop-held.held-index (omega (arith, c.loop-held-test.false)) c.loop-held.invariant
