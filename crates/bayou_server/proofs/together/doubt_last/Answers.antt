use Rattle.std.proofs.Common.{◌≡◌, ◌+◌, ◌-◌, List, [], ◌∷◌, ◌++◌, Option, None, Some, length, replicate, refl, sym, ◌∙◌, ap, arith, append_assoc}
use Rattle.std.proofs.lemmas.List.{append-nil}
use Rattle.bayou_base.specs.declared.tag.Tag.{Tag}
use Rattle.bayou_lang.specs.declared.write.Write.{Write}
use Rattle.bayou_log.specs.Log.{Log}
use Rattle.bayou_tags.specs.Tags.{TagList}
use Rattle.bayou_server.proofs.TakingBack.{last_untagged, same_split}
use Rattle.bayou_server.proofs.together.doubt_last.Goals as goal

pub take_back-requires-clause-last : goal.take_back-requires-clause-last
take_back-requires-clause-last c =
    let (front, was, are) = c.loop.invariant.untagged in
    (front ++ replicate (c.args.number - (c.loop.counter + 1)) None, last_untagged front c.loop.holding.tags.tags c.args.number c.loop.counter (omega (arith, c.loop-test.true)) are)

pub loop-preserved : goal.loop-preserved
loop-preserved c =
    let old = c.args.holding.now in
    let (front, was, are) = c.loop.invariant.untagged in
    let write = c.take_back-write.result in
    let log = c.take_back-write.new.self in
    let tags = c.take_back.new.self in
    let taking = c.loop.holding.taking.items in
    let before = front ++ replicate (c.args.number - (c.loop.counter + 1)) None in
    record {
      held = c.loop.invariant.held ∙ ap (λ (l : List Write). l ++ taking) c.take_back-write.ensures.held ∙ append_assoc log.receipts (write ∷ []) taking
          ∙ ap (λ (l : List Write). log.receipts ++ l) (sym c.push_front_reserved.ensures.items);
      many = omega (arith, ap length c.push_front_reserved.ensures.items, c.loop.invariant.many);
      within = omega (arith, c.loop-test.true);
      log = c.take_back-write.ensures.same
          ∙ ap (λ (l : Log). record l { receipts = log.receipts; room = log.room; waiting = l.waiting - 1 }) c.loop.invariant.log
          ∙ ap (λ n. record old.log { receipts = log.receipts; room = log.room; waiting = n }) (omega arith);
      untagged = (
        front,
        was,
        (same_split tags.tags (None ∷ []) before (None ∷ [])
            (sym c.take_back.ensures.value ∙ last_untagged front c.loop.holding.tags.tags c.args.number c.loop.counter (omega (arith, c.loop-test.true)) are) refl).0,
      );
      tags = c.take_back.ensures.same
          ∙ ap (λ n. record c.loop.holding.tags { tags = tags.tags; room = n }) (sym (ap (λ (t : TagList). t.room) c.take_back.ensures.same))
          ∙ ap (λ (t : TagList). record t { tags = tags.tags; room = tags.room }) c.loop.invariant.tags;
      places = c.push_front_reserved.ensures.capacity ∙ c.loop.invariant.places;
    }

pub returns-clause-back : goal.returns-clause-back
returns-clause-back c =
    let old = c.args.holding.now in
    let (front, was, are) = c.loop.invariant.untagged in
    let holding = c.loop.holding in
    let all : c.loop.counter ≡ c.args.number = omega (arith, c.loop-test.false, c.loop.invariant.within) in
    let nothing : c.args.number - c.loop.counter ≡ 0 = omega (arith, all) in
    let left : holding.tags.tags ≡ front = are ∙ ap (λ n. front ++ replicate n None) nothing ∙ append-nil front in
    record {
      first = c.in-Some.first;
      doubt = refl;
      together = refl;
      held = c.loop.invariant.held ∙ ap (λ (l : List Write). holding.log.receipts ++ l) c.in-Some.ensures.items;
      many = omega (arith, ap length c.in-Some.ensures.items, c.loop.invariant.many, all);
      log = c.loop.invariant.log ∙ ap (λ n. record old.log { receipts = holding.log.receipts; room = holding.log.room; waiting = old.log.waiting - n }) all;
      untagged = was ∙ ap (λ (l : List (Option Tag)). l ++ replicate c.args.number None) (sym left);
      tags = c.loop.invariant.tags;
    }
