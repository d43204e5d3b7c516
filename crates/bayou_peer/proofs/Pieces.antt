-- Bytes that are fed a piece at a time give what they would give at once.
use Rattle.std.proofs.Common.{◌≡◌, ◌⊎◌, ℕ, Bool, true, false, List, [], ◌++◌, Option, Some, inl, inr, refl, sym, ap, subst, ◌∙◌, append_assoc}
use Rattle.std.proofs.lemmas.List.{append-nil}
use Rattle.bayou_frames.specs.Framing.{Comes}
use Rattle.bayou_wire.specs.Laws.Frames.{faulty_on}
use Rattle.bayou_wire.specs.declared.frame.Frame.{Frame}
use Rattle.bayou_wire.specs.Spelling.{IsFrame}
use Rattle.bayou_wire.specs.Stream.{IsPartial, spellings}
use Rattle.bayou_peer.proofs.Received.{spellings-append}
use Rattle.bayou_peer.proofs.Items.{all-append}

-- a piece more, where no fault came
pub comes_more : (held fed piece : List ℕ) (frames more : List Frame) (is_bad : Bool) (now new : Option (List ℕ)) → Comes held fed frames false now
    → ((rest : List ℕ) → IsPartial rest → now ≡ Some rest → Comes rest piece more is_bad new) → Comes held (fed ++ piece) (frames ++ more) is_bad new
comes_more held fed piece frames more is_bad now new before next =
    let (partial, waits) = before.waits refl in
    let after = next before.rest partial waits in
    record {
      rest = after.rest;
      whole = sym (append_assoc held fed piece) ∙ ap (λ l. l ++ piece) before.whole ∙ append_assoc (spellings frames) before.rest piece ∙ ap (λ l. spellings frames ++ l) after.whole
          ∙ sym (append_assoc (spellings frames) (spellings more) after.rest) ∙ ap (λ l. l ++ after.rest) (sym (spellings-append frames more));
      each = all-append IsFrame frames more before.each after.each;
      waits = after.waits;
      bad = after.bad;
    }

-- Nothing more is fed: all was, or there was a fault, which stays whatever stands behind it.
pub comes_whole : (held fed left bytes : List ℕ) (frames : List Frame) (is_bad : Bool) (now : Option (List ℕ)) → bytes ≡ fed ++ left → (is_bad ≡ true) ⊎ (left ≡ [])
    → Comes held fed frames is_bad now → Comes held bytes frames is_bad now
comes_whole held fed left bytes frames true now all done before =
    subst (λ (l : List ℕ). Comes held l frames true now) (sym all)
    (record {
      rest = before.rest ++ left;
      whole = sym (append_assoc held fed left) ∙ ap (λ l. l ++ left) before.whole ∙ append_assoc (spellings frames) before.rest left;
      each = before.each;
      waits = λ none. let both : true ≡ false = none in absurd (cc);
      bad = λ is. let (fault, faulty) = before.bad refl in (fault, faulty_on before.rest left fault faulty);
    })
comes_whole held fed left bytes frames false now all (inl none) before = let both : false ≡ true = none in absurd (cc)
comes_whole held fed left bytes frames false now all (inr nothing) before =
    subst (λ (l : List ℕ). Comes held l frames false now) (sym (all ∙ ap (λ l. fed ++ l) nothing ∙ append-nil fed)) before
