use Rattle.std.proofs.Common.{◌≡◌, ◌≢◌, arith, rules}
use Rattle.bayou_serve.specs.Words.{IsApart}
use Rattle.bayou_serve.proofs.Named.{named_more}
use Rattle.bayou_serve.proofs.plan.unnamed.Goals as goal
use Rattle.bayou_serve.proofs.plan.unnamed.Goals.{else-ne-via-then-ne+else-not-is_named, else-ne-via-else-ne}

pub loop-index-preserved : goal.loop-index-preserved
loop-index-preserved c =
    let last : c.loop-index.index ≢ c.args.id.index → ¬ (IsApart c.args.peers.now c.args.left_out.now c.loop-index.index) = elim c.else-ne.branch [
      | else-ne-via-then-ne+else-not-is_named w ↦ λ _. w.is_named.ensures.named w.if-not-is_named.false
      | else-ne-via-else-ne w ↦
          let same : c.loop-index.index ≡ c.args.id.index = search rules in
          λ other. absurd (other same)
    ] in
    named_more c.args.id.index c.loop-index.index c.args.peers.now c.args.left_out.now c.loop-index.invariant last

pub returns-clause-none : goal.returns-clause-none
returns-clause-none c = λ number below other. c.loop-index.invariant number (omega (arith, below, c.loop-index-test.false)) other
