use Rattle.std.proofs.Common.{◌≡◌, ◌≤◌, ◌<◌, ◌∙◌, ℕ, List, length, map, get_or, ap, sym, arith}
use Rattle.std.proofs.lemmas.List.{get_or-map, length-map}
use Rattle.bayou_lang.specs.declared.program.Alt.{Alt}
use Rattle.bayou_lang.specs.Changes.{most_ops}
use Rattle.bayou_lang.proofs.ChangeLists.{ChangeOnly-alternative, ChangeOnly-none, most_ops-one}
use Rattle.bayou_lang.proofs.eval.merge_changes.Goals as goal

-- an alternative that one of the list stands for is among those that they stand for
form_at : {A : Type 0} (form : A → Alt) (list : List A) (index : ℕ) (item : A) → index < length list → item ≡ get_or list index item
    → form item ≡ get_or (map form list) index (form item)
form_at form list index item within is = sym (get_or-map form list index item (form item) within ∙ ap form (sym is))

pub returns-in-Some-clause-only : goal.returns-in-Some-clause-only
returns-in-Some-clause-only g c =
    let form = g.A.Alternative.alternative in
    let list = c.args.alternatives.now in
    let index = c.loop-alternative.alternative-index in
    let within : index < length (map form list) = omega (arith, length-map list form, c.loop-alternative-test.true) in
    ChangeOnly-alternative (map form list) index (form c.alternative-item.result) c.alternative_changes.new.changes.items within
    (form_at form list index c.alternative-item.result c.loop-alternative-test.true c.alternative-item.is) c.in-Some.ensures.only

pub returns-clause-only : goal.returns-clause-only
returns-clause-only g c = rw c.clear.ensures (ChangeOnly-none _)

pub returns-in-Some-clause-few : goal.returns-in-Some-clause-few
returns-in-Some-clause-few g c =
    let form = g.A.Alternative.alternative in
    let list = c.args.alternatives.now in
    let index = c.loop-alternative.alternative-index in
    let within : index < length (map form list) = omega (arith, length-map list form, c.loop-alternative-test.true) in
    let few : length (form c.alternative-item.result).ops.items ≤ most_ops (map form list) =
    most_ops-one (map form list) index (form c.alternative-item.result) within
    (form_at form list index c.alternative-item.result c.loop-alternative-test.true c.alternative-item.is) in
    omega (arith, few, c.in-Some.ensures.few)
