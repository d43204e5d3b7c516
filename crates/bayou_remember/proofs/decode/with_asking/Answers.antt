use Rattle.bayou_client.specs.Operating.{Asking}
use Rattle.std.proofs.Common.{◌≡◌, ◌∙◌, ℕ, List, ◌∷◌, [], ◌++◌, ap, sym, subst}
use Rattle.std.specs.Prelude.{MatchOption}
use Rattle.bayou_wire.specs.declared.frame.Frame.{Frame}
use Rattle.bayou_wire.specs.declared.frame.Frame.TheVariants.{Write as WriteFrame}
use Rattle.bayou_remember.specs.Inner.Reading.{IsKeptBy}
use Rattle.bayou_remember.specs.Spelling.{in_run}
use Rattle.bayou_remember.proofs.decode.with_asking.Goals as goal

pub returns : goal.returns
returns c =
    let need = c.in_ok-tag.ensures.0 in
    let split : c.args.frames.items ≡ c.deref.result.now ++ WriteFrame c.in_ok-tag.tag need c.in_ok-tag.program ∷ [] =
    c.in_ok-last.ensures.items ∙ ap (λ f. c.pop.new.self.items ++ f ∷ []) c.in_ok-tag.ensures.1
    ∙ ap (λ fs. fs ++ WriteFrame c.in_ok-tag.tag need c.in_ok-tag.program ∷ []) (sym c.deref.ensures.value) in
    subst (λ (all : List Frame). MatchOption c.asking.result ((kept : Asking) → IsKeptBy c.args.head all kept → ⊥) (λ kept. IsKeptBy c.args.head all kept × ((run : ℕ) → in_run run kept ≡ kept)))
    (sym split) (c.asking.ensures need)
