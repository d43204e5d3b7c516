use Rattle.std.proofs.Common.{◌≡◌, ◌∷◌, [], ◌++◌, Ok, sym, ◌∙◌, ap, arith, append_assoc, length}
use Rattle.std.specs.Vec.Iter.{into_iter_items}
use Rattle.bayou_restore.specs.Gathering.{Gathers, gathering_of}
use Rattle.bayou_server.specs.Laws.TakesAll.{hads_push, news_push, takes_push}
use Rattle.bayou_server.specs.TakesAll.{hads, news}
use Rattle.bayou_server.specs.declared.answer.Took.{Took}
use Rattle.bayou_restore.proofs.gathering.gather_all.Goals as goal

pub loop-write-preserved-in-Ok-New : goal.loop-write-preserved-in-Ok-New
loop-write-preserved-in-Ok-New c =
    let (front, tooks, split, each, taken, had) = c.loop-write.invariant.took in
    let write = c.in-Some.write in
    let took = c.in-Ok-New.field-0 in
    let old = gathering_of c.args.log.now in
    let mid = gathering_of c.loop-write.log in
    let new = gathering_of c.gather.new.log in
    let last : Gathers mid write (Ok took) new = c.in-Ok-New.ensures in
    let more = news_push tooks took in
    let others = hads_push tooks took in
    let one_more : news (took ∷ []) ≡ 1 = ap (λ (t : Took). news (t ∷ [])) c.in-Ok-New.field-0-is in
    let one_had : hads (took ∷ []) ≡ 0 = ap (λ (t : Took). hads (t ∷ [])) c.in-Ok-New.field-0-is in
    record {
      took = (
        front ++ write ∷ [],
        tooks ++ took ∷ [],
        split ∙ ap (λ rest. front ++ rest) c.in-Some.ensures.items ∙ sym (append_assoc front (write ∷ []) (into_iter_items c.next.new.self)),
        takes_push Gathers old mid new front tooks write took each last,
        omega (arith, taken, more, one_more),
        omega (arith, had, others, one_had),
      );
      none = c.loop-write.invariant.none;
      few = omega (arith, c.loop-write.invariant.few, ap length c.in-Some.ensures.items);
    }

pub loop-write-preserved : goal.loop-write-preserved
loop-write-preserved c =
    let (front, tooks, split, each, taken, had) = c.loop-write.invariant.took in
    let write = c.in-Some.write in
    let took = c.in-Ok-Had.field-0 in
    let old = gathering_of c.args.log.now in
    let mid = gathering_of c.loop-write.log in
    let new = gathering_of c.gather.new.log in
    let last : Gathers mid write (Ok took) new = c.in-Ok-Had.ensures in
    let more = news_push tooks took in
    let others = hads_push tooks took in
    let one_more : news (took ∷ []) ≡ 0 = ap (λ (t : Took). news (t ∷ [])) c.in-Ok-Had.field-0-is in
    let one_had : hads (took ∷ []) ≡ 1 = ap (λ (t : Took). hads (t ∷ [])) c.in-Ok-Had.field-0-is in
    record {
      took = (
        front ++ write ∷ [],
        tooks ++ took ∷ [],
        split ∙ ap (λ rest. front ++ rest) c.in-Some.ensures.items ∙ sym (append_assoc front (write ∷ []) (into_iter_items c.next.new.self)),
        takes_push Gathers old mid new front tooks write took each last,
        omega (arith, taken, more, one_more),
        omega (arith, had, others, one_had),
      );
      none = c.loop-write.invariant.none;
      few = omega (arith, c.loop-write.invariant.few, ap length c.in-Some.ensures.items);
    }

pub returns-in-Err-clause-gathers : goal.returns-in-Err-clause-gathers
returns-in-Err-clause-gathers c =
    let (front, tooks, split, each, taken, had) = c.loop-write.invariant.took in
    record {
      front = front;
      tooks = tooks;
      mid = gathering_of c.loop-write.log;
      each = each;
      taken = taken;
      had = had;
      ends = (c.in-Some.write, split ∙ ap (λ rest. front ++ rest) c.in-Some.ensures.items, c.in-Err.ensures, c.wid-wid.ensures);
    }
