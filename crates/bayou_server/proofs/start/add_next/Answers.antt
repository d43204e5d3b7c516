use Rattle.std.proofs.Common.{◌+◌, [], ◌∷◌, ◌++◌, Option, None, ap, sym, ◌∙◌, refl}
use Rattle.bayou_base.specs.declared.tag.Tag.{Tag}
use Rattle.bayou_log.specs.Log.{Log}
use Rattle.bayou_tags.specs.Tags.{TagList}
use Rattle.bayou_server.proofs.start.add_next.Goals as goal

pub returns : goal.returns
returns c =
    let old = c.args.holding.now in
    let stored = c.in_ok-write.field-0 in
    let write = stored.write in
    let waits = c.place.ensures ∙ ap (λ (log : Log). record log { receipts = log.receipts ++ write ∷ []; room = c.place.new.self.room; waiting = log.waiting + 1 }) c.reserve.ensures.same in
    let room = ap (λ (t : TagList). t.room) c.settle.ensures.value in
    let told = c.settle.ensures.value ∙ ap (λ n. record c.reserve-2.new.self { tags = c.reserve-2.new.self.tags ++ c.reserve-2.new.self.coming ∷ []; coming = None; room = n }) (sym room)
    ∙ ap (λ (t : TagList). record t { tags = t.tags ++ t.coming ∷ []; coming = None; room = c.settle.new.self.room }) c.in_ok-reserve-2.ensures.ok in
    record {
      stored = stored;
      admitted = c.in_ok-write.ensures;
      log = waits ∙ ap (λ n. record old.log { receipts = old.log.receipts ++ write ∷ []; room = c.place.new.self.room; waiting = n }) (sym (ap (λ (log : Log). log.waiting) waits));
      tags = told
          ∙ ap (λ (t : Option Tag). record old.tags { tags = old.tags.tags ++ stored.tag ∷ []; coming = t; room = c.settle.new.self.room }) (sym c.requires.nothing_comes);
      doubt = refl;
      taking = refl;
      together = refl;
    }
