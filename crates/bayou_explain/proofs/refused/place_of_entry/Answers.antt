use Rattle.std.proofs.Common.{rules, ◌≡◌, ◌∙◌, refl, sym, true}
use Rattle.std.proofs.lemmas.Option.{slice_get_read}
use Rattle.bayou_explain.specs.Located.{tells_entry}
use Rattle.bayou_explain.proofs.refused.place_of_entry.Goals as goal

pub returns-then-seen-number : goal.returns-then-seen-number
returns-then-seen-number c =
    let told : tells_entry c.index-lines-at.result ≡ true = search rules in (
      c.index-lines-at.result,
      slice_get_read c.args.lines.now _ c.loop-at.at c.index-lines-at.result refl c.loop-at-test.true c.index-lines-at.is,
      told,
      sym c.loop-at.invariant.0 ∙ c.if-seen-number.true,
    )
