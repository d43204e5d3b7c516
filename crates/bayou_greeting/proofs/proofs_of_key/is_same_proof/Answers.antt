use Rattle.std.proofs.Common.{◌≡◌, ◌∙◌, ap, sym, get_or, inl, inr, arith}
use Rattle.std.specs.Prelude.{bit_or, bit_xor}
use Rattle.std.specs.Int.Bits.{xor_self}
use Rattle.std.proofs.lemmas.Bool.{cases_lt}
use Rattle.std.proofs.lemmas.Bool.Decides.{Decides-eqb}
use Rattle.std.proofs.lemmas.Grind.{same_number_lists}
use Rattle.bayou_greeting.specs.Laws.Bits.{or_zero, xor_zero}
use Rattle.bayou_greeting.proofs.proofs_of_key.is_same_proof.Goals as goal

pub loop-place-preserved : goal.loop-place-preserved
loop-place-preserved c =
    let found = c.bytes-found.result.now in
    let wanted = c.bytes-wanted.result.now in
    let place = c.loop-place.place in
    let here = bit_xor (get_or found place 0) (get_or wanted place 0) in
    record {
      same = λ none k within.
          let parts = or_zero c.loop-place.difference here none in
          elim (cases_lt k place) [
            | inl lt ↦ c.loop-place.invariant.same parts.0 k lt
            | inr le ↦ let last : k ≡ place = omega (arith, le, within) in rw last (xor_zero (get_or found place 0) (get_or wanted place 0) parts.1)
          ];
      none = λ same.
          let none : here ≡ 0 = ap (λ list. bit_xor (get_or list place 0) (get_or wanted place 0)) same ∙ xor_self (get_or wanted place 0) in
          ap (λ d. bit_or d here) (c.loop-place.invariant.none same) ∙ ap (bit_or 0) none;
    }

pub returns : goal.returns
returns c =
    let decides = Decides-eqb c.loop-place.difference 0 in
    let found = c.bytes-found.ensures in
    let wanted = c.bytes-wanted.ensures in (
      λ yes.
          sym found.value
          ∙ same_number_lists _ _ (found.size ∙ sym wanted.size) (λ k within. c.loop-place.invariant.same (decides.0 yes) k (omega (arith, within, found.size, c.loop-place-test.false)))
          ∙ wanted.value,
      λ same. decides.1 (c.loop-place.invariant.none (found.value ∙ same ∙ sym wanted.value)),
    )
