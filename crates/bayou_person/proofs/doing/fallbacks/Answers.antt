use Rattle.bayou_person.proofs.Zipped.{AllZip-more}
use Rattle.bayou_person.proofs.doing.fallbacks.Goals as goal

pub loop-key-preserved : goal.loop-key-preserved
loop-key-preserved c =
    AllZip-more _ c.loop-key.alternatives.items _ c.in_ok-alternative.alternative c.args.keys.now c.loop-key.key-index c.key-item.result c.loop-key.invariant
    c.in_ok-push.ensures.items c.loop-key-test.true c.key-item.is c.in_ok-alternative.ensures
