use Rattle.std.proofs.Common.{length, sym, subst}
use Rattle.bayou_lang.specs.Writes.{AreFitting}
use Rattle.bayou_judge.specs.History.{lent_lists}
use Rattle.bayou_judge.specs.Inner.Index.{IsIndexOf}
use Rattle.bayou_judge.proofs.DumpsGood.{read_fits, read_index}
use Rattle.bayou_judge.proofs.dumps.is_same_before.Goals as goal

pub is_same_in-requires-clause-fitting : goal.is_same_in-requires-clause-fitting
is_same_in-requires-clause-fitting c =
    (c.args.count, subst (AreFitting c.args.count) (sym c.dump_at.ensures) (read_fits c.args.count (lent_lists c.args.dumps.now) (length c.args.indexes.now) c.args.indexes.now c.loop-other.other c.requires c.loop-other-test.true))

pub is_same_in-requires-clause-indexed : goal.is_same_in-requires-clause-indexed
is_same_in-requires-clause-indexed c =
    subst (λ list. IsIndexOf list c.index-indexes-other.result) (sym c.dump_at.ensures)
    (read_index c.args.count (lent_lists c.args.dumps.now) (length c.args.indexes.now) c.args.indexes.now c.loop-other.other c.index-indexes-other.result c.requires c.loop-other-test.true c.index-indexes-other.is)
