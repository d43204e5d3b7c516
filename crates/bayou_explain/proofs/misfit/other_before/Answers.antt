use Rattle.std.proofs.Common.{◌∙◌, ap, subst}
use Rattle.bayou_judge.specs.History.{dump_of, lent_lists}
use Rattle.bayou_lang.specs.declared.write.Write.{Write}
use Rattle.std.proofs.Common.{List}
use Rattle.bayou_explain.specs.Misfit.{HasOther}
use Rattle.bayou_explain.proofs.misfit.other_before.Goals as goal

pub returns-then-has_other : goal.returns-then-has_other
returns-then-has_other c = (
  c.loop-index-test.true,
  subst (λ (dump : List Write). HasOther dump c.args.write.now) (c.dump_at.ensures ∙ ap (dump_of (lent_lists c.args.dumps.now)) c.from.ensures) c.if-has_other.ensures,
)
