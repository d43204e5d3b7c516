use Rattle.std.proofs.Common.{◌≡◌, ◌+◌, None, [], ◌∷◌, ◌++◌, length, ap, sym, ◌∙◌, subst, arith}
use Rattle.std.proofs.lemmas.List.{map_push}
use Rattle.bayou_lang.specs.declared.write.Write.{Write}
use Rattle.bayou_log.specs.Log.{Log}
use Rattle.bayou_tags.specs.Tags.{TagList}
use Rattle.bayou_wire.specs.Laws.Records.{record_is}
use Rattle.bayou_wire.specs.Records.{SpellsRecord}
use Rattle.bayou_wire.specs.declared.record.Form.TheVariants.{Wide}
use Rattle.bayou_server.specs.Inner.Gathering.{bytes_of}
use Rattle.bayou_server.proofs.Beside.{no_tag}
use Rattle.bayou_server.proofs.Gathering.{gathered_one, many_bytes_of, same_first}
use Rattle.bayou_server.proofs.together.gather_next.Goals as goal

pub returns : goal.returns
returns c =
    let ready = c.in-Some.ensures.ready in
    let roomier = c.in-Some.ensures.same in
    let given = c.args.writes.now.items in
    let left = c.pop_front.new.self.items in
    let write = c.in-Some-pop_front.write in
    let body = c.in-Some.body.items in
    let is : given ≡ write ∷ left = c.in-Some-pop_front.ensures.items in
    let spelling = subst (λ (w : Write). SpellsRecord Wide body (record { write = w; tag = None })) (same_first given left ready.rest ready.write write ready.split is) ready.spelling in
    gathered_one c.args.id.index c.args.holding.now c.next_body.new.holding given left (c.len.result + 1) c.args.room body write c.place.new.self c.settle.new.self
    (bytes_of c.args.bodies.now.items) (bytes_of c.push_reserved.new.self.items) _ roomier ready is c.requires.nothing_comes
    (c.place.ensures ∙ ap (λ n. record c.next_body.new.holding.log { receipts = c.next_body.new.holding.log.receipts ++ write ∷ []; room = c.place.new.self.room; waiting = n }) (sym (ap (λ (l : Log). l.waiting) c.place.ensures) ∙ ap (λ (l : Log). l.waiting) c.place.ensures))
    (c.settle.ensures.value ∙ ap (λ n. record c.next_body.new.holding.tags { tags = c.next_body.new.holding.tags.tags ++ c.next_body.new.holding.tags.coming ∷ []; coming = None; room = n }) (sym (ap (λ (t : TagList). t.room) c.settle.ensures.value)))
    (ap bytes_of (c.push_reserved.ensures.items ∙ ap (λ l. l ++ c.in-Some.body ∷ []) c.in-Ok.ensures.items) ∙ map_push (λ b. b.items) c.args.bodies.now.items c.in-Some.body)
    (omega (arith, c.len-2.ensures, c.in-Some.body.ok.0))
    (omega (arith, c.len.ensures, c.args.bodies.now.ok.0, many_bytes_of c.args.bodies.now.items))
    (λ takable. record {
      spelled = spelling;
      tagged = (λ some. absurd (no_tag some), λ own. absurd (takable.fit.foreign.foreign own));
    })
    (record_is Wide body (record { write = write; tag = None }) spelling)
