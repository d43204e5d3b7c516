use Rattle.std.proofs.Common.{◌≡◌, ℕ, List, Some, arith, eqb-true, slice_index, subst, sym}
use Rattle.std.proofs.lemmas.List.Quantifiers.{position-Some}
use Rattle.std.specs.List.{position}
use Rattle.bayou_person.specs.Wishes.{is_quote}
use Rattle.bayou_person.proofs.words.words_in.Goals as goal

pub split_at-requires : goal.split_at-requires
split_at-requires c =
    let text = c.args.text.now in
    let at = c.in-Some.at in
    let there = subst (λ (bytes : List ℕ). position is_quote bytes ≡ Some at) c.as_bytes.ensures.value (sym c.in-Some.ensures) in
    let found = position-Some is_quote text at 0 there in
    (omega (arith, found.0), λ within high. absurd (omega (arith, high, eqb-true (slice_index text at) 34 found.1)))
