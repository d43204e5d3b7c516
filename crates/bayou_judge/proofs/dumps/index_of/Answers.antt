use Rattle.std.proofs.Common.{◌≡◌, ◌≤◌, true, false, length, take, ap, sym, ◌∙◌, subst, arith}
use Rattle.std.proofs.lemmas.List.{take_all}
use Rattle.bayou_lang.specs.Writes.{AreFitting}
use Rattle.bayou_judge.specs.History.{dump_of, lent_lists}
use Rattle.bayou_judge.specs.Inner.Index.{IsIndexOf}
use Rattle.bayou_judge.proofs.DumpsGood.{first_bad, good_front_fits, good_more, good_whole, index_more}
use Rattle.bayou_judge.proofs.dumps.index_of.Goals as goal

pub is_good-requires-clause-fitting : goal.is_good-requires-clause-fitting
is_good-requires-clause-fitting c =
    let dumps = lent_lists c.args.dumps.now in
    let same : c.dump_at-dump.result.now ≡ dump_of dumps c.args.server.index = c.dump_at-dump.ensures ∙ ap (dump_of dumps) (sym c.requires.next) in
    subst (λ list. AreFitting c.args.count (take c.loop-at.at list)) (sym same) (good_front_fits c.args.count dumps c.args.server.index c.loop-at.at c.loop-at.invariant.good)

pub returns-then-not-is_good : goal.returns-then-not-is_good
returns-then-not-is_good c =
    let dumps = lent_lists c.args.dumps.now in
    let same : c.dump_at-dump.result.now ≡ dump_of dumps c.args.server.index = c.dump_at-dump.ensures ∙ ap (dump_of dumps) (sym c.requires.next) in
    first_bad c.args.count dumps (length c.args.indexes.now) c.args.server.index c.dump_at-dump.result.now c.loop-at.at c.index-dump-at.result c.requires.next same c.loop-at-test.true c.index-dump-at.is
    (λ is. let both : true ≡ false = sym (c.is_good.ensures.1 is) ∙ c.if-not-is_good.true in cc)
    c.requires.read.good c.loop-at.invariant.good

pub loop-at-preserved : goal.loop-at-preserved
loop-at-preserved c =
    let dumps = lent_lists c.args.dumps.now in
    let same : c.dump_at-dump.result.now ≡ dump_of dumps c.args.server.index = c.dump_at-dump.ensures ∙ ap (dump_of dumps) (sym c.requires.next) in
    let good = c.is_good.ensures.0 c.if-not-is_good.false in
    record {
      good = good_more c.args.count dumps (length c.args.indexes.now) c.args.server.index c.dump_at-dump.result.now c.loop-at.at c.index-dump-at.result c.requires.next same c.loop-at-test.true c.index-dump-at.is
          good c.loop-at.invariant.good;
      indexed = index_more dumps c.args.server.index c.dump_at-dump.result.now c.loop-at.at c.index-dump-at.result same c.loop-at-test.true c.index-dump-at.is c.add.new.self
          (c.in_ok-add.ensures c.args.count (take c.loop-at.at c.dump_at-dump.result.now)
          (subst (λ list. IsIndexOf (take c.loop-at.at list) c.loop-at.index) (sym same) c.loop-at.invariant.indexed)
          (subst (λ list. AreFitting c.args.count (take c.loop-at.at list)) (sym same) (good_front_fits c.args.count dumps c.args.server.index c.loop-at.at c.loop-at.invariant.good)) good.fits);
    }

pub returns : goal.returns
returns c =
    let dumps = lent_lists c.args.dumps.now in
    let same : c.dump_at-dump.result.now ≡ dump_of dumps c.args.server.index = c.dump_at-dump.ensures ∙ ap (dump_of dumps) (sym c.requires.next) in
    let past : length (dump_of dumps c.args.server.index) ≤ c.loop-at.at = omega (arith, c.loop-at-test.false, ap length same) in (
      good_whole c.args.count dumps c.args.server.index c.loop-at.at past c.loop-at.invariant.good,
      subst (λ list. IsIndexOf list c.loop-at.index) (take_all c.loop-at.at (dump_of dumps c.args.server.index) past) c.loop-at.invariant.indexed,
    )
