use Rattle.std.proofs.Common.{◌≡◌, List, true, false, ap, sym, ◌∙◌, subst, arith}
use Rattle.std.specs.Borrow.{Bor}
use Rattle.std.proofs.lemmas.List.{length-map}
use Rattle.bayou_lang.specs.declared.write.Write.{Write}
use Rattle.bayou_lang.specs.Writes.{AreFitting}
use Rattle.bayou_judge.specs.Evidence.{IsTrueOf}
use Rattle.bayou_judge.specs.History.{dump_of, lent_lists}
use Rattle.bayou_judge.specs.Inner.Index.{IsIndexOf}
use Rattle.bayou_judge.proofs.DumpsFound.{item_there}
use Rattle.bayou_judge.proofs.DumpsGood.{good_fits}
use Rattle.bayou_judge.proofs.entries.is_genuine.Goals as goal

pub is_true-requires-clause-fitting : goal.is_true-requires-clause-fitting
is_true-requires-clause-fitting c =
    (c.args.count, subst (AreFitting c.args.count) (sym c.dump_at.ensures) (good_fits c.args.count (lent_lists c.args.dumps.now) c.from-server.result (λ place. c.requires.good c.from-server.result place)))

pub is_true-requires-clause-indexed : goal.is_true-requires-clause-indexed
is_true-requires-clause-indexed c =
    let there = item_there c.args.indexes.now c.from-server.result c.in-Some.index c.in-Some.ensures.lookup in
    subst (λ list. IsIndexOf list c.in-Some.index.now) (sym c.dump_at.ensures) (c.requires.indexed.each c.from-server.result c.in-Some.index.now there.1)

pub returns-then-follows : goal.returns-then-follows
returns-then-follows c earlier told heard =
    let entry = c.args.entry.now in
    let dumps = lent_lists c.args.dumps.now in
    let there = item_there c.args.indexes.now c.from-server.result c.in-Some.index c.in-Some.ensures.lookup in
    let many = length-map c.args.dumps.now (λ (dump : Bor (List Write)). dump.now) in
    let same : c.dump_at.result.now ≡ dump_of dumps entry.server.index = c.dump_at.ensures ∙ ap (dump_of dumps) c.from-server.ensures in
    let follows = (c.follows.ensures earlier heard).0 c.if-follows.true in
    let truth = c.is_true.ensures earlier told in (
      λ is. record {
        server = omega (arith, there.0, c.requires.indexed.as_many, many, c.requires.dumps, c.from-server.ensures);
        place = follows.0;
        asks = follows.1;
        what = subst (λ dump. IsTrueOf dump entry.server earlier entry.what) same (truth.0 is);
      },
      λ genuine. truth.1 (subst (λ dump. IsTrueOf dump entry.server earlier entry.what) (sym same) genuine.what),
    )

pub returns-else-follows : goal.returns-else-follows
returns-else-follows c earlier told heard = (
  λ is. absurd (let both : true ≡ false = sym is ∙ c.if-follows.false in cc),
  λ genuine. (c.follows.ensures earlier heard).1 (genuine.place, genuine.asks),
)
