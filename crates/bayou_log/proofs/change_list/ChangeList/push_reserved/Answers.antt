use Rattle.std.proofs.Common.{rules, w64, ◌∷◌, ◌++◌, [], Some, length, ap, sym, ◌∙◌, refl, arith}
use mir.Val.{SFits}
use Rattle.std.proofs.lemmas.Int.{to_z-of_z}
use Rattle.std.proofs.lemmas.List.{append-nil}
use Rattle.bayou_log.specs.declared.change_list.Kind.TheVariants.{Nothing, OfNumber, OfText}
use Rattle.bayou_log.specs.Inner.ChangeList.{put_together, Listed}
use Rattle.bayou_log.proofs.ChangeList.{few-kinds, length-put_together, put_together-push, same_list, AreApart-push}
use Rattle.bayou_log.proofs.change_list.ChangeList.push_reserved.Goals as goal

pub push_reserved-requires : goal.push_reserved-requires
push_reserved-requires c =
    let l = c.self.inside in
    omega (
      arith,
      c.requires,
      length-put_together l.keys.items l.kinds.items l.numbers.items l.texts.items c.self.invariant.one_each c.self.invariant.counted c.self.invariant.told,
      ap (λ (list : Listed). length list.items) c.self.view_is,
      ap (λ (list : Listed). list.room) c.self.view_is,
      l.keys.ok.0,
    )

pub push_reserved-requires-in-None : goal.push_reserved-requires-in-None
push_reserved-requires-in-None c =
    let l = c.self.inside in
    omega (
      arith,
      c.requires,
      length-put_together l.keys.items l.kinds.items l.numbers.items l.texts.items c.self.invariant.one_each c.self.invariant.counted c.self.invariant.told,
      ap (λ (list : Listed). length list.items) c.self.view_is,
      ap (λ (list : Listed). list.room) c.self.view_is,
      l.kinds.ok.0,
      c.self.invariant.one_each,
    )

pub push_reserved-requires-in-Some-Num : goal.push_reserved-requires-in-Some-Num
push_reserved-requires-in-Some-Num c =
    let l = c.self.inside in
    omega (
      arith,
      c.requires,
      length-put_together l.keys.items l.kinds.items l.numbers.items l.texts.items c.self.invariant.one_each c.self.invariant.counted c.self.invariant.told,
      ap (λ (list : Listed). length list.items) c.self.view_is,
      ap (λ (list : Listed). list.room) c.self.view_is,
      l.kinds.ok.0,
      c.self.invariant.one_each,
    )

pub push_reserved-requires-in-Some-Num-2 : goal.push_reserved-requires-in-Some-Num-2
push_reserved-requires-in-Some-Num-2 c =
    let l = c.self.inside in
    omega (
      arith,
      c.requires,
      length-put_together l.keys.items l.kinds.items l.numbers.items l.texts.items c.self.invariant.one_each c.self.invariant.counted c.self.invariant.told,
      ap (λ (list : Listed). length list.items) c.self.view_is,
      ap (λ (list : Listed). list.room) c.self.view_is,
      l.numbers.ok.0,
      few-kinds l.kinds.items,
      c.self.invariant.one_each,
      c.self.invariant.counted,
      c.self.invariant.told,
    )

pub push_reserved-requires-in-Some-Text : goal.push_reserved-requires-in-Some-Text
push_reserved-requires-in-Some-Text c =
    let l = c.self.inside in
    omega (
      arith,
      c.requires,
      length-put_together l.keys.items l.kinds.items l.numbers.items l.texts.items c.self.invariant.one_each c.self.invariant.counted c.self.invariant.told,
      ap (λ (list : Listed). length list.items) c.self.view_is,
      ap (λ (list : Listed). list.room) c.self.view_is,
      l.kinds.ok.0,
      c.self.invariant.one_each,
    )

pub push_reserved-requires-in-Some-Text-2 : goal.push_reserved-requires-in-Some-Text-2
push_reserved-requires-in-Some-Text-2 c =
    let l = c.self.inside in
    omega (
      arith,
      c.requires,
      length-put_together l.keys.items l.kinds.items l.numbers.items l.texts.items c.self.invariant.one_each c.self.invariant.counted c.self.invariant.told,
      ap (λ (list : Listed). length list.items) c.self.view_is,
      ap (λ (list : Listed). list.room) c.self.view_is,
      l.texts.ok.0,
      few-kinds l.kinds.items,
      c.self.invariant.one_each,
      c.self.invariant.counted,
      c.self.invariant.told,
    )

pub invariant_of-self : goal.invariant_of-self
invariant_of-self c =
    let l = c.self.inside in
    AreApart-push l.keys.items c.push_reserved.new.self.items l.kinds.items c.push_reserved-in-None.new.self.items l.numbers.items l.numbers.items l.texts.items l.texts.items c.args.change.key Nothing [] []
    c.push_reserved.ensures.items c.push_reserved-in-None.ensures.items (sym (append-nil l.numbers.items)) (sym (append-nil l.texts.items)) refl refl c.self.invariant

pub returns-in-None : goal.returns-in-None
returns-in-None c =
    let l = c.self.inside in
    let pushed = put_together-push l.keys.items c.push_reserved.new.self.items l.kinds.items c.push_reserved-in-None.new.self.items l.numbers.items l.numbers.items l.texts.items l.texts.items c.args.change.key Nothing [] []
    c.push_reserved.ensures.items c.push_reserved-in-None.ensures.items (sym (append-nil l.numbers.items)) (sym (append-nil l.texts.items)) c.self.invariant in
    let added = ap (λ value. record { key = c.args.change.key; value = value } ∷ []) (sym c.in-None.is) in
    same_list _ _ _ _ (pushed ∙ ap (λ changes. changes ++ put_together (c.args.change.key ∷ []) (Nothing ∷ []) [] []) (ap (λ (list : Listed). list.items) c.self.view_is) ∙ ap (λ changes. c.args.self.now.items ++ changes) added)
    (omega (arith, ap (λ (list : Listed). list.room) c.self.view_is, c.push_reserved.ensures.capacity, c.push_reserved-in-None.ensures.capacity))

pub invariant_of-self-in-Some-Num : goal.invariant_of-self-in-Some-Num
invariant_of-self-in-Some-Num c =
    let l = c.self.inside in
    let fits : SFits w64 c.in-Some-Num.number = search rules in
    let same = c.push_reserved-in-Some-Num-2.ensures.items ∙ ap (λ n. l.numbers.items ++ n ∷ []) (to_z-of_z w64 c.in-Some-Num.number fits) in
    AreApart-push l.keys.items c.push_reserved.new.self.items l.kinds.items c.push_reserved-in-Some-Num.new.self.items l.numbers.items c.push_reserved-in-Some-Num-2.new.self.items l.texts.items l.texts.items c.args.change.key OfNumber (c.in-Some-Num.number ∷ []) []
    c.push_reserved.ensures.items c.push_reserved-in-Some-Num.ensures.items same (sym (append-nil l.texts.items)) refl refl c.self.invariant

pub returns-in-Some-Num : goal.returns-in-Some-Num
returns-in-Some-Num c =
    let l = c.self.inside in
    let fits : SFits w64 c.in-Some-Num.number = search rules in
    let same = c.push_reserved-in-Some-Num-2.ensures.items ∙ ap (λ n. l.numbers.items ++ n ∷ []) (to_z-of_z w64 c.in-Some-Num.number fits) in
    let pushed = put_together-push l.keys.items c.push_reserved.new.self.items l.kinds.items c.push_reserved-in-Some-Num.new.self.items l.numbers.items c.push_reserved-in-Some-Num-2.new.self.items l.texts.items l.texts.items c.args.change.key OfNumber (c.in-Some-Num.number ∷ []) []
    c.push_reserved.ensures.items c.push_reserved-in-Some-Num.ensures.items same (sym (append-nil l.texts.items)) c.self.invariant in
    let added = ap (λ value. record { key = c.args.change.key; value = value } ∷ []) (sym (c.in-Some-Num.is ∙ ap Some c.in-Some-Num.field-0-is)) in
    same_list _ _ _ _ (pushed ∙ ap (λ changes. changes ++ put_together (c.args.change.key ∷ []) (OfNumber ∷ []) (c.in-Some-Num.number ∷ []) []) (ap (λ (list : Listed). list.items) c.self.view_is) ∙ ap (λ changes. c.args.self.now.items ++ changes) added)
    (omega (arith, ap (λ (list : Listed). list.room) c.self.view_is, c.push_reserved.ensures.capacity, c.push_reserved-in-Some-Num.ensures.capacity, c.push_reserved-in-Some-Num-2.ensures.capacity))

pub invariant_of-self-in-Some-Text : goal.invariant_of-self-in-Some-Text
invariant_of-self-in-Some-Text c =
    let l = c.self.inside in
    AreApart-push l.keys.items c.push_reserved.new.self.items l.kinds.items c.push_reserved-in-Some-Text.new.self.items l.numbers.items l.numbers.items l.texts.items c.push_reserved-in-Some-Text-2.new.self.items c.args.change.key OfText [] (c.in-Some-Text.text ∷ [])
    c.push_reserved.ensures.items c.push_reserved-in-Some-Text.ensures.items (sym (append-nil l.numbers.items)) c.push_reserved-in-Some-Text-2.ensures.items refl refl c.self.invariant

pub returns-in-Some-Text : goal.returns-in-Some-Text
returns-in-Some-Text c =
    let l = c.self.inside in
    let pushed = put_together-push l.keys.items c.push_reserved.new.self.items l.kinds.items c.push_reserved-in-Some-Text.new.self.items l.numbers.items l.numbers.items l.texts.items c.push_reserved-in-Some-Text-2.new.self.items c.args.change.key OfText [] (c.in-Some-Text.text ∷ [])
    c.push_reserved.ensures.items c.push_reserved-in-Some-Text.ensures.items (sym (append-nil l.numbers.items)) c.push_reserved-in-Some-Text-2.ensures.items c.self.invariant in
    let added = ap (λ value. record { key = c.args.change.key; value = value } ∷ []) (sym (c.in-Some-Text.is ∙ ap Some c.in-Some-Text.field-0-is)) in
    same_list _ _ _ _ (pushed ∙ ap (λ changes. changes ++ put_together (c.args.change.key ∷ []) (OfText ∷ []) [] (c.in-Some-Text.text ∷ [])) (ap (λ (list : Listed). list.items) c.self.view_is) ∙ ap (λ changes. c.args.self.now.items ++ changes) added)
    (omega (arith, ap (λ (list : Listed). list.room) c.self.view_is, c.push_reserved.ensures.capacity, c.push_reserved-in-Some-Text.ensures.capacity, c.push_reserved-in-Some-Text-2.ensures.capacity))
