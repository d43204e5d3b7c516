use Rattle.std.proofs.Common.{rules, ◌≡◌, ◌∙◌, refl, sym, true}
use Rattle.std.proofs.lemmas.Option.{slice_get_read}
use Rattle.bayou_explain.specs.Dumped.{tells_held}
use Rattle.bayou_explain.proofs.dumped.held_at.Goals as goal

pub returns-then-seen-place : goal.returns-then-seen-place
returns-then-seen-place c =
    let told : tells_held c.args.server.index c.line-item.result ≡ true = search rules in (
      c.loop-line.line-index,
      c.line-item.result,
      slice_get_read c.args.lines.now _ c.loop-line.line-index c.line-item.result refl c.loop-line-test.true c.line-item.is,
      told,
      sym c.loop-line.invariant.0 ∙ c.if-seen-place.true,
      c.shown_as.ensures,
    )
