use Rattle.std.proofs.Common.{◌∙◌, ap, arith, slice_index, subst}
use Rattle.bayou_lang.specs.Writes.{AreFitting}
use Rattle.bayou_restore.proofs.Alike.{agree_more, agree_on_all}
use Rattle.bayou_restore.proofs.differing.first_difference.Goals as goal

pub returns-then-differ_at-clause-some : goal.returns-then-differ_at-clause-some
returns-then-differ_at-clause-some c = record {
  differ = c.differ_at.ensures.differ c.if-differ_at.true;
  first = λ smaller below. c.loop-behind.invariant smaller (omega (arith, below));
}

pub loop-behind-preserved : goal.loop-behind-preserved
loop-behind-preserved c =
    agree_more c.args.one.now.writes c.args.other.now.writes c.args.origin.index c.loop-behind.behind c.loop-behind.invariant (c.differ_at.ensures.agree c.if-differ_at.false)

pub returns-clause-none : goal.returns-clause-none
returns-clause-none c =
    let one = c.args.one.now.writes in
    let other = c.args.other.now.writes in
    let fitting = subst (AreFitting c.args.one.now.count) c.writes-writes.ensures.value c.writes-writes.ensures.fitting in
    let fits = subst (AreFitting c.args.other.now.count) c.writes-others.ensures.value c.writes-others.ensures.fitting in
    let server = c.args.origin.index in
    let of_one = c.get.ensures.value ∙ ap (λ counts. slice_index counts server) c.vector.ensures in
    let of_other = c.get-2.ensures.value ∙ ap (λ counts. slice_index counts server) c.vector-2.ensures in
    agree_on_all c.args.one.now.count c.args.other.now.count one other server c.loop-behind.behind c.min-both.result fitting fits
    (omega (arith, c.min-both.ensures, of_one, of_other)) (omega (arith, c.loop-behind-test.false)) c.loop-behind.invariant
