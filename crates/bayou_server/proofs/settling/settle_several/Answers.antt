use Rattle.std.proofs.Common.{◌≡◌, ◌-◌, ◌<◌, take, sym, ◌∙◌, subst}
use Rattle.bayou_server.specs.Inner.Fields.{core_of}
use Rattle.bayou_server.proofs.Adopting.{are_some, made_anew, recovers_all, some_doubt}
use Rattle.bayou_server.proofs.Beside.{one_each}
use Rattle.bayou_server.proofs.settling.settle_several.Goals as goal

pub count_adopted-requires-clause-tags : goal.count_adopted-requires-clause-tags
count_adopted-requires-clause-tags c =
    let holding = c.args.holding.now in
    one_each c.args.id.index holding.log.receipts holding.tags.tags c.requires.sound.tagged

pub returns : goal.returns
returns c =
    let old = c.args.holding.now in
    let id = c.args.id.index in
    let again = c.in-Ok.again in
    let bodies = c.args.opened.now.bodies in
    let number = c.in_ok-number.number in
    let taking = old.taking.items in
    let (doubt, is) = some_doubt old.doubt c.requires.doubt in
    let some = are_some (core_of old id) doubt taking bodies number (c.in_ok-number.ensures doubt is) (λ none. c.if-number-eq0.false none) in
    let made = made_anew c.bytes_are_of_one_record.ensures id c.count.result c.limit.result old again doubt (take (number - 1) taking) bodies
    (subst (λ n. id < n) (sym c.count.ensures.value) c.requires.sound.known) c.count.ensures.value c.limit.ensures.value
    (one_each id old.log.receipts old.tags.tags c.requires.sound.tagged) some.1 c.in-Ok.ensures in
    record {
      recovers = recovers_all (core_of old id) (core_of again id) doubt taking (number - 1) c.last_adopted-last.result is some.0 (c.last_adopted-last.ensures doubt is) made.0;
      sound = made.1;
      whole = c.in-Ok.ensures.whole;
      no_doubt = c.in-Ok.ensures.no_doubt;
      none_behind = c.in-Ok.ensures.none_behind;
      alone = c.in-Ok.ensures.alone;
      same_limit = c.in-Ok.ensures.same_limit ∙ c.limit.ensures.value;
      caught_up = c.in-Ok.ensures.caught_up;
    }
