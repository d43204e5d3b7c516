use Rattle.std.proofs.Common.{rules, w64, ◌∷◌, ◌++◌, [], None, Some, ap, sym, ◌∙◌, arith}
use mir.Val.{SFits}
use Rattle.std.proofs.lemmas.Int.{to_z-of_z}
use Rattle.std.proofs.lemmas.List.{append-nil}
use Rattle.bayou_base.specs.declared.value.Value.TheVariants.{Num, Text}
use Rattle.bayou_log.specs.Inner.ChangeList.{numbers_in, put_together, texts_in, Listed}
use Rattle.bayou_log.proofs.ChangeList.{numbers_in-append, put_together-push, texts_in-append, AreApart-pop}
use Rattle.bayou_log.proofs.change_list.ChangeList.pop.Goals as goal
use Rattle.bayou_log.proofs.change_list.ChangeList.pop.Goals.{in-Nothing, in-OfNumber+in-Some-pop, in-OfText+in-Some-pop-2}

pub invariant_of-self-in-Nothing : goal.invariant_of-self-in-Nothing
invariant_of-self-in-Nothing c =
    let l = c.self.inside in
    AreApart-pop c.pop.new.self.items l.keys.items c.pop-2.new.self.items l.kinds.items l.numbers.items l.numbers.items l.texts.items l.texts.items c.in_ok-key.key c.in-Some.kind [] []
    c.in_ok-key.ensures.items c.in-Some.ensures.items (sym (append-nil l.numbers.items)) (sym (append-nil l.texts.items)) (ap (λ kind. numbers_in (kind ∷ [])) c.in-Nothing.is) (ap (λ kind. texts_in (kind ∷ [])) c.in-Nothing.is) c.self.invariant

pub unreachable-requires-in_default-pop : goal.unreachable-requires-in_default-pop
unreachable-requires-in_default-pop c =
    omega (
      arith,
      c.self.invariant.counted,
      ap numbers_in c.in-Some.ensures.items,
      numbers_in-append c.pop-2.new.self.items (c.in-Some.kind ∷ []),
      ap (λ kind. numbers_in (kind ∷ [])) c.in-OfNumber.is,
      c.in_default-pop.ensures.cases,
      c.self.inside.numbers.ok.0,
    )

pub invariant_of-self-in-OfNumber : goal.invariant_of-self-in-OfNumber
invariant_of-self-in-OfNumber c =
    let l = c.self.inside in
    AreApart-pop c.pop.new.self.items l.keys.items c.pop-2.new.self.items l.kinds.items c.pop-in-OfNumber.new.self.items l.numbers.items l.texts.items l.texts.items c.in_ok-key.key c.in-Some.kind (c.in-Some-pop.number ∷ []) []
    c.in_ok-key.ensures.items c.in-Some.ensures.items c.in-Some-pop.ensures.items (sym (append-nil l.texts.items)) (ap (λ kind. numbers_in (kind ∷ [])) c.in-OfNumber.is) (ap (λ kind. texts_in (kind ∷ [])) c.in-OfNumber.is) c.self.invariant

pub unreachable-requires-in_default-pop-2 : goal.unreachable-requires-in_default-pop-2
unreachable-requires-in_default-pop-2 c =
    omega (
      arith,
      c.self.invariant.told,
      ap texts_in c.in-Some.ensures.items,
      texts_in-append c.pop-2.new.self.items (c.in-Some.kind ∷ []),
      ap (λ kind. texts_in (kind ∷ [])) c.in-OfText.is,
      c.in_default-pop-2.ensures.cases,
      c.self.inside.texts.ok.0,
    )

pub invariant_of-self-in-OfText : goal.invariant_of-self-in-OfText
invariant_of-self-in-OfText c =
    let l = c.self.inside in
    AreApart-pop c.pop.new.self.items l.keys.items c.pop-2.new.self.items l.kinds.items l.numbers.items l.numbers.items c.pop-in-OfText.new.self.items l.texts.items c.in_ok-key.key c.in-Some.kind [] (c.in-Some-pop-2.text ∷ [])
    c.in_ok-key.ensures.items c.in-Some.ensures.items (sym (append-nil l.numbers.items)) c.in-Some-pop-2.ensures.items (ap (λ kind. numbers_in (kind ∷ [])) c.in-OfText.is) (ap (λ kind. texts_in (kind ∷ [])) c.in-OfText.is) c.self.invariant

pub returns-clause-items : goal.returns-clause-items
returns-clause-items c =
    let l = c.self.inside in
    let was = sym (ap (λ (list : Listed). list.items) c.self.view_is) in
    elim c.match-kind.branch [
      | in-Nothing w ↦
          let left = put_together c.pop.new.self.items c.pop-2.new.self.items l.numbers.items l.texts.items in
          was
          ∙ put_together-push c.pop.new.self.items l.keys.items c.pop-2.new.self.items l.kinds.items l.numbers.items l.numbers.items l.texts.items l.texts.items c.in_ok-key.key c.in-Some.kind [] []
          c.in_ok-key.ensures.items c.in-Some.ensures.items (sym (append-nil l.numbers.items)) (sym (append-nil l.texts.items))
          (AreApart-pop c.pop.new.self.items l.keys.items c.pop-2.new.self.items l.kinds.items l.numbers.items l.numbers.items l.texts.items l.texts.items c.in_ok-key.key c.in-Some.kind [] []
          c.in_ok-key.ensures.items c.in-Some.ensures.items (sym (append-nil l.numbers.items)) (sym (append-nil l.texts.items)) (ap (λ kind. numbers_in (kind ∷ [])) w.in-Nothing.is) (ap (λ kind. texts_in (kind ∷ [])) w.in-Nothing.is) c.self.invariant)
          ∙ ap (λ kind. left ++ put_together (c.in_ok-key.key ∷ []) (kind ∷ []) [] []) w.in-Nothing.is
          ∙ ap (λ (list : Listed). list.items ++ record { key = c.in_ok-key.key; value = None } ∷ []) (sym w.self-is)
          ∙ ap (λ value. c.match-kind.self.items ++ record { key = c.in_ok-key.key; value = value } ∷ []) (sym w.value-is)
      | in-OfNumber+in-Some-pop w ↦
          let fits : SFits w64 w.in-Some-pop.number = search rules in
          let left = put_together c.pop.new.self.items c.pop-2.new.self.items w.pop-in-OfNumber.new.self.items l.texts.items in
          was
          ∙ put_together-push c.pop.new.self.items l.keys.items c.pop-2.new.self.items l.kinds.items w.pop-in-OfNumber.new.self.items l.numbers.items l.texts.items l.texts.items c.in_ok-key.key c.in-Some.kind (w.in-Some-pop.number ∷ []) []
          c.in_ok-key.ensures.items c.in-Some.ensures.items w.in-Some-pop.ensures.items (sym (append-nil l.texts.items))
          (AreApart-pop c.pop.new.self.items l.keys.items c.pop-2.new.self.items l.kinds.items w.pop-in-OfNumber.new.self.items l.numbers.items l.texts.items l.texts.items c.in_ok-key.key c.in-Some.kind (w.in-Some-pop.number ∷ []) []
          c.in_ok-key.ensures.items c.in-Some.ensures.items w.in-Some-pop.ensures.items (sym (append-nil l.texts.items)) (ap (λ kind. numbers_in (kind ∷ [])) w.in-OfNumber.is) (ap (λ kind. texts_in (kind ∷ [])) w.in-OfNumber.is) c.self.invariant)
          ∙ ap (λ kind. left ++ put_together (c.in_ok-key.key ∷ []) (kind ∷ []) (w.in-Some-pop.number ∷ []) []) w.in-OfNumber.is
          ∙ ap (λ (list : Listed). list.items ++ record { key = c.in_ok-key.key; value = Some (Num w.in-Some-pop.number) } ∷ []) (sym w.self-is)
          ∙ ap (λ number. c.match-kind.self.items ++ record { key = c.in_ok-key.key; value = Some (Num number) } ∷ []) (sym (to_z-of_z w64 w.in-Some-pop.number fits))
          ∙ ap (λ value. c.match-kind.self.items ++ record { key = c.in_ok-key.key; value = value } ∷ []) (sym w.value-is)
      | in-OfText+in-Some-pop-2 w ↦
          let left = put_together c.pop.new.self.items c.pop-2.new.self.items l.numbers.items w.pop-in-OfText.new.self.items in
          was
          ∙ put_together-push c.pop.new.self.items l.keys.items c.pop-2.new.self.items l.kinds.items l.numbers.items l.numbers.items w.pop-in-OfText.new.self.items l.texts.items c.in_ok-key.key c.in-Some.kind [] (w.in-Some-pop-2.text ∷ [])
          c.in_ok-key.ensures.items c.in-Some.ensures.items (sym (append-nil l.numbers.items)) w.in-Some-pop-2.ensures.items
          (AreApart-pop c.pop.new.self.items l.keys.items c.pop-2.new.self.items l.kinds.items l.numbers.items l.numbers.items w.pop-in-OfText.new.self.items l.texts.items c.in_ok-key.key c.in-Some.kind [] (w.in-Some-pop-2.text ∷ [])
          c.in_ok-key.ensures.items c.in-Some.ensures.items (sym (append-nil l.numbers.items)) w.in-Some-pop-2.ensures.items (ap (λ kind. numbers_in (kind ∷ [])) w.in-OfText.is) (ap (λ kind. texts_in (kind ∷ [])) w.in-OfText.is) c.self.invariant)
          ∙ ap (λ kind. left ++ put_together (c.in_ok-key.key ∷ []) (kind ∷ []) [] (w.in-Some-pop-2.text ∷ [])) w.in-OfText.is
          ∙ ap (λ (list : Listed). list.items ++ record { key = c.in_ok-key.key; value = Some (Text w.in-Some-pop-2.text) } ∷ []) (sym w.self-is)
          ∙ ap (λ value. c.match-kind.self.items ++ record { key = c.in_ok-key.key; value = value } ∷ []) (sym w.value-is)
    ]
