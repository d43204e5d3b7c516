use Rattle.std.proofs.Common.{◌+◌, ◌<◌, ◌++◌, ◌∷◌, [], drop, length, get_or, ap, sym, ◌∙◌, append_assoc, arith}
use Rattle.std.proofs.lemmas.List.{at_drop_more}
use Rattle.bayou_lang.specs.declared.write.Write.{Write}
use Rattle.bayou_log.specs.Inner.Beside.{listed_with}
use Rattle.bayou_log.specs.Inner.Fields.{picked}
use Rattle.bayou_log.specs.declared.listing.Listed.{Listed}
use Rattle.bayou_log.proofs.Became.{listed_with-more}
use Rattle.bayou_log.proofs.Picked.{picked-cons}
use Rattle.bayou_log.proofs.listing.listed_in_turn.Goals as goal

pub loop-place-preserved : goal.loop-place-preserved
loop-place-preserved c =
    let place = c.loop-place.place in
    let order = c.args.order.now in
    let outcomes = c.args.outcomes.now in
    let writes = c.args.writes.now in
    let at = get_or order place 0 in
    let rest = drop (place + 1) order in
    let later = drop (place + 1) outcomes in
    let write = c.index-writes-at.result in
    let done = c.loop-place.list.items in
    let within : at < length writes = c.requires.inside place 0 c.loop-place-test.true in
    let outcome = c.outcome_at-outcome.result in
    let told : Listed = record { wid = c.wid.result; stamp = c.stamp.result; outcome = outcome } in
    record {
      target = ap (λ items. items ++ listed_with (picked writes rest) later) c.in_ok-push.ensures.items
          ∙ append_assoc done (told ∷ []) (listed_with (picked writes rest) later)
          ∙ ap (λ wid. done ++ record { wid = wid; stamp = c.stamp.result; outcome = outcome } ∷ listed_with (picked writes rest) later) c.wid.ensures
          ∙ ap (λ stamp. done ++ record { wid = write.wid; stamp = stamp; outcome = outcome } ∷ listed_with (picked writes rest) later) c.stamp.ensures
          ∙ ap (λ became. done ++ record { wid = write.wid; stamp = write.stamp; outcome = became } ∷ listed_with (picked writes rest) later) (c.outcome_at-outcome.ensures outcome)
          ∙ ap (λ items. done ++ items) (sym (listed_with-more write (picked writes rest) outcomes place outcome (omega (arith, c.loop-place-test.true, c.requires.as_many))))
          ∙ ap (λ (shown : Write). done ++ listed_with (shown ∷ picked writes rest) (drop place outcomes)) c.index-writes-at.is
          ∙ sym (ap (λ those. done ++ listed_with those (drop place outcomes)) (picked-cons writes at rest write within))
          ∙ sym (at_drop_more (λ order. done ++ listed_with (picked writes order) (drop place outcomes)) order place 0 c.loop-place-test.true)
          ∙ c.loop-place.invariant.target;
    }
