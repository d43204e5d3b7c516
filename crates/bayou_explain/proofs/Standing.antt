-- A line that was read stands at its place.
use Rattle.std.proofs.Common.{◌≡◌, ◌∙◌, ◌<◌, ℕ, List, Option, Some, IfSome, ap, get_or, length, refl, subst, sym}
use Rattle.std.proofs.lemmas.Option.{slice_get-map, slice_get_read}
use Rattle.std.specs.Borrow.{Bor}
use Rattle.std.specs.List.{slice_get}
use Rattle.std.specs.Prelude.{option_map}
use Rattle.bayou_text.specs.Said.{audit_said}
use Rattle.bayou_text.specs.Table.{Spells}
use Rattle.bayou_explain.specs.declared.line.Located.{Located}
use Rattle.bayou_explain.specs.Located.{StandsIn, bytes_of}

pub stands : (lines : List (Bor (List ℕ))) (found : Option Located) (line : Located) (at : ℕ) (bytes : Bor (List ℕ)) → found ≡ Some line
    → IfSome found (λ l. (l.at ≡ at) × (l.bytes.now ≡ bytes.now)) → IfSome found (λ l. Spells l.bytes.now (audit_said l.told))
    → at < length lines → bytes ≡ get_or lines at bytes → StandsIn (bytes_of lines) line
stands lines found line at bytes is place told within item =
    let p = subst (λ (o : Option Located). IfSome o (λ l. (l.at ≡ at) × (l.bytes.now ≡ bytes.now))) is place in
    let here : slice_get (bytes_of lines) at ≡ Some bytes.now =
    slice_get-map (λ l. l.now) lines at ∙ ap (option_map (λ l. l.now)) (slice_get_read lines _ at bytes refl within item) in (
      ap (slice_get (bytes_of lines)) p.0 ∙ here ∙ ap Some (sym p.1),
      subst (λ (o : Option Located). IfSome o (λ l. Spells l.bytes.now (audit_said l.told))) is told,
    )
