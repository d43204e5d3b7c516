use Rattle.std.proofs.Common.{◌≡◌, ◌≢◌, ◌<◌, Some, length, get_or, ap, sym, ◌∙◌, subst, arith}
use Rattle.std.proofs.lemmas.List.{get_or_default}
use Rattle.bayou_base.specs.declared.wid.Wid.{Wid}
use Rattle.bayou_lang.specs.declared.write.Write.{Write}
use Rattle.bayou_log.specs.declared.listing.Listed.{Listed}
use Rattle.bayou_log.specs.Inner.Beside.{listed_with}
use Rattle.bayou_log.specs.Inner.Fields.{picked}
use Rattle.bayou_log.specs.Listing.{TellsOf}
use Rattle.bayou_log.proofs.Named.{is_other_name, is_same_name, listed_as, none_named, tells_at, tells_none}
use Rattle.bayou_log.proofs.Picked.{get_or-picked, length-picked}
use Rattle.bayou_log.proofs.listing.listed_of.Goals as goal

pub returns-then-place-order : goal.returns-then-place-order
returns-then-place-order c =
    let writes = c.args.writes.now in
    let order = c.args.order.now in
    let place = c.number_before-place.result in
    let many : length (picked writes order) ≡ length order = length-picked writes order c.requires.inside in
    tells_none (picked writes order) c.args.outcomes.now c.args.name (c.requires.as_many ∙ sym many)
    (none_named (picked writes order) c.args.name c.args.stamp place c.requires.ordered c.requires.stamped c.number_before-place.ensures.before
    (λ k d from within. c.number_before-place.ensures.behind k d from (omega (arith, within, many))) (λ d within. absurd (omega (arith, within, many, c.if-place-order.true))))

pub returns-then-ne : goal.returns-then-ne
returns-then-ne c =
    let writes = c.args.writes.now in
    let order = c.args.order.now in
    let place = c.number_before-place.result in
    let write : Write = c.index-writes-order.result in
    let inside : place < length order = omega (arith, c.if-place-order.false) in
    let there : get_or order place 0 < length writes = c.requires.inside place 0 inside in
    let at : (d : Write) → get_or (picked writes order) place d ≡ write = λ d.
    get_or-picked writes order place d c.requires.inside inside ∙ get_or_default writes (get_or order place 0) d write there ∙ sym c.index-writes-order.is in
    let other : write.wid ≢ c.args.name =
    subst (λ (wid : Wid). wid ≢ c.args.name) c.wid.ensures (is_other_name c.wid.result c.args.name (sym c.ne.ensures ∙ c.if-ne.true)) in
    let many : length (picked writes order) ≡ length order = length-picked writes order c.requires.inside in
    tells_none (picked writes order) c.args.outcomes.now c.args.name (c.requires.as_many ∙ sym many)
    (none_named (picked writes order) c.args.name c.args.stamp place c.requires.ordered c.requires.stamped c.number_before-place.ensures.before
    (λ k d from within. c.number_before-place.ensures.behind k d from (omega (arith, within, many)))
    (λ d within same. other (ap (λ (w : Write). w.wid) (sym (at d)) ∙ same)))

pub returns : goal.returns
returns c =
    let writes = c.args.writes.now in
    let order = c.args.order.now in
    let place = c.number_before-place.result in
    let write : Write = c.index-writes-order.result in
    let inside : place < length order = omega (arith, c.if-place-order.false) in
    let there : get_or order place 0 < length writes = c.requires.inside place 0 inside in
    let at : (d : Write) → get_or (picked writes order) place d ≡ write = λ d.
    get_or-picked writes order place d c.requires.inside inside ∙ get_or_default writes (get_or order place 0) d write there ∙ sym c.index-writes-order.is in
    let many : length (picked writes order) ≡ length order = length-picked writes order c.requires.inside in
    let named : write.wid ≡ c.args.name = sym c.wid.ensures ∙ is_same_name c.wid.result c.args.name (sym c.ne.ensures ∙ c.if-ne.false) in
    let told = tells_at (picked writes order) c.args.outcomes.now c.args.name place write c.outcome_at.result (c.requires.as_many ∙ sym many) (omega (arith, many, inside))
    (ap (λ (w : Write). w.wid) (at write) ∙ named) in
    let same : listed_as (get_or (picked writes order) place write) (get_or c.args.outcomes.now place c.outcome_at.result)
    ≡ record { wid = c.wid-2.result; stamp = c.stamp.result; outcome = c.outcome_at.result } =
    λ i. record {
      wid = (ap (λ (w : Write). w.wid) (at write) ∙ sym c.wid-2.ensures) i;
      stamp = (ap (λ (w : Write). w.stamp) (at write) ∙ sym c.stamp.ensures) i;
      outcome = sym (c.outcome_at.ensures c.outcome_at.result) i;
    } in
    subst (λ (listed : Listed). TellsOf (listed_with (picked writes order) c.args.outcomes.now) c.args.name (Some listed)) same told
