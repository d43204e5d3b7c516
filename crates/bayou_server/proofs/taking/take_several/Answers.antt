use Rattle.std.proofs.Common.{◌≡◌, ◌∷◌, [], ◌++◌, Ok, refl, sym, ◌∙◌, ap, subst, arith, append_assoc}
use Rattle.std.specs.Vec.Iter.{into_iter_items}
use Rattle.bayou_server.specs.Inner.Fields.{server_of}
use Rattle.bayou_server.specs.Laws.TakesAll.{hads_push, news_push, takes_push}
use Rattle.bayou_server.specs.TakesAll.{TakesAt, TakingEnds, hads, news}
use Rattle.bayou_server.specs.declared.answer.Took.{Took}
use Rattle.bayou_server.proofs.taking.take_several.Goals as goal

pub returns-in_default-clause-takes : goal.returns-in_default-clause-takes
returns-in_default-clause-takes g c =
    let (front, tooks, split, each, taken, had) = c.loop-told.invariant.took in
    let mid = server_of c.loop-told.journal c.loop-told.holding c.args.id.index in
    record {
      front = front;
      tooks = tooks;
      mid = mid;
      each = each;
      taken = taken;
      had = had;
      ends = subst (λ fault. TakingEnds (TakesAt g.D.Device) mid (into_iter_items c.args.writes.now) front (into_iter_items c.next.new.self) fault mid) (sym c.loop-told.invariant.none)
          (split ∙ ap (λ rest. front ++ rest) c.in_default.ensures.items, refl);
    }

pub loop-told-preserved-in-Ok-New : goal.loop-told-preserved-in-Ok-New
loop-told-preserved-in-Ok-New g c =
    let (front, tooks, split, each, taken, had) = c.loop-told.invariant.took in
    let write = c.in-Some.write in
    let took = c.in-Ok-New.field-0 in
    let old = server_of c.args.journal.now c.args.holding.now c.args.id.index in
    let mid = server_of c.loop-told.journal c.loop-told.holding c.args.id.index in
    let new = server_of c.take_one.new.journal c.take_one.new.holding c.args.id.index in
    let last : TakesAt g.D.Device mid write (Ok took) new = c.in-Ok-New.ensures.takes in
    let more = news_push tooks took in
    let others = hads_push tooks took in
    let one_more : news (took ∷ []) ≡ 1 = ap (λ (t : Took). news (t ∷ [])) c.in-Ok-New.field-0-is in
    let one_had : hads (took ∷ []) ≡ 0 = ap (λ (t : Took). hads (t ∷ [])) c.in-Ok-New.field-0-is in
    record {
      took = (
        front ++ write ∷ [],
        tooks ++ took ∷ [],
        split ∙ ap (λ rest. front ++ rest) c.in-Some.ensures.items ∙ sym (append_assoc front (write ∷ []) (into_iter_items c.next.new.self)),
        takes_push (TakesAt g.D.Device) old mid new front tooks write took each last,
        omega (arith, taken, more, one_more),
        omega (arith, had, others, one_had),
      );
      none = c.loop-told.invariant.none;
      together = c.take_one.ensures.together;
      few = omega (arith, c.loop-told-test.true);
    }

pub loop-told-preserved : goal.loop-told-preserved
loop-told-preserved g c =
    let (front, tooks, split, each, taken, had) = c.loop-told.invariant.took in
    let write = c.in-Some.write in
    let took = c.in-Ok-Had.field-0 in
    let old = server_of c.args.journal.now c.args.holding.now c.args.id.index in
    let mid = server_of c.loop-told.journal c.loop-told.holding c.args.id.index in
    let new = server_of c.take_one.new.journal c.take_one.new.holding c.args.id.index in
    let last : TakesAt g.D.Device mid write (Ok took) new = c.in-Ok-Had.ensures.takes in
    let more = news_push tooks took in
    let others = hads_push tooks took in
    let one_more : news (took ∷ []) ≡ 0 = ap (λ (t : Took). news (t ∷ [])) c.in-Ok-Had.field-0-is in
    let one_had : hads (took ∷ []) ≡ 1 = ap (λ (t : Took). hads (t ∷ [])) c.in-Ok-Had.field-0-is in
    record {
      took = (
        front ++ write ∷ [],
        tooks ++ took ∷ [],
        split ∙ ap (λ rest. front ++ rest) c.in-Some.ensures.items ∙ sym (append_assoc front (write ∷ []) (into_iter_items c.next.new.self)),
        takes_push (TakesAt g.D.Device) old mid new front tooks write took each last,
        omega (arith, taken, more, one_more),
        omega (arith, had, others, one_had),
      );
      none = c.loop-told.invariant.none;
      together = c.take_one.ensures.together;
      few = omega (arith, c.loop-told-test.true);
    }

pub returns-in-Err-clause-takes : goal.returns-in-Err-clause-takes
returns-in-Err-clause-takes g c =
    let (front, tooks, split, each, taken, had) = c.loop-told.invariant.took in
    record {
      front = front;
      tooks = tooks;
      mid = server_of c.loop-told.journal c.loop-told.holding c.args.id.index;
      each = each;
      taken = taken;
      had = had;
      ends = (c.in-Some.write, split ∙ ap (λ rest. front ++ rest) c.in-Some.ensures.items, c.in-Err.ensures.takes, c.wid-wid.ensures);
    }

pub returns-clause-takes : goal.returns-clause-takes
returns-clause-takes g c =
    let (front, tooks, split, each, taken, had) = c.loop-told.invariant.took in
    let mid = server_of c.loop-told.journal c.loop-told.holding c.args.id.index in
    record {
      front = front;
      tooks = tooks;
      mid = mid;
      each = each;
      taken = taken;
      had = had;
      ends = subst (λ fault. TakingEnds (TakesAt g.D.Device) mid (into_iter_items c.args.writes.now) front (into_iter_items c.loop-told.writes) fault mid) (sym c.loop-told.invariant.none)
          (split, refl);
    }
