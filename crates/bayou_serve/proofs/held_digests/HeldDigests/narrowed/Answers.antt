use Rattle.std.proofs.Common.{◌≡◌, ◌≤◌, ◌<◌, ◌+◌, ◌∙◌, ◌∷◌, Some, ap, arith, get_or, length, slice_index, suc, sym, subst}
use Rattle.std.proofs.lemmas.List.{get_or_default, get_or_past}
use Rattle.bayou_serve.specs.HeldDigests.{TellsAt}
use Rattle.bayou_serve.proofs.Digesting.{found_other, found_same, one_same, told_other}
use Rattle.bayou_serve.proofs.held_digests.HeldDigests.narrowed.Goals as goal

pub loop-place-preserved : goal.loop-place-preserved
loop-place-preserved c =
    let counts = c.args.counts.now in
    let told = c.args.told.now in
    let at = c.loop-place.place in
    let (before, low, high, known) = c.loop-place.invariant in
    let within : at < length counts = c.loop-place-test.true in
    let told_within : at < length told = omega (arith, within, c.if-told-counts.false) in
    let next : suc at ≡ at + 1 = omega arith in (
      omega (arith, within),
      ap (slice_index (c.args.span.low ∷ counts)) next,
      high,
      λ writes has.
          let (all, is) = known writes has in
          let same = found_same c.at.result (get_or told at 0) (sym c.if-ne.false ∙ c.ne.ensures) in
          one_same writes counts told at within told_within (subst (TellsAt writes (get_or counts at 0)) same (c.at.ensures writes has)) all is,
    )

pub returns-after-loop-place-clause-narrows : goal.returns-after-loop-place-clause-narrows
returns-after-loop-place-clause-narrows c writes has =
    let (before, low, high, known) = c.loop-place.invariant in
    let (all, is) = known writes has in
    record {
      same = c.loop-place.place;
      within = before;
      held = all;
      as_told = is;
      differs = λ below enough. absurd (omega (arith, below, c.loop-place-test.false));
      low = low;
      high = high ∙ sym (get_or_past c.args.counts.now c.loop-place.place c.args.span.high c.loop-place-test.false);
    }

pub returns-then-ne-clause-narrows : goal.returns-then-ne-clause-narrows
returns-then-ne-clause-narrows c writes has =
    let counts = c.args.counts.now in
    let at = c.loop-place.place in
    let (before, low, high, known) = c.loop-place.invariant in
    let (all, is) = known writes has in
    let other = found_other c.at.result (get_or c.args.told.now at 0) (sym c.if-ne.true ∙ c.ne.ensures) in
    record {
      same = at;
      within = before;
      held = all;
      as_told = is;
      differs = λ below enough. told_other writes (get_or counts at 0) (get_or c.args.told.now at 0) c.at.result (c.at.ensures writes has) other enough;
      low = low;
      high = get_or_default counts at 0 c.args.span.high c.loop-place-test.true;
    }
