use Rattle.std.proofs.Common.{rules, ◌≡◌, ◌∙◌, ◌+◌, ◌++◌, ◌∷◌, ℕ, List, [], ap, subst, sym, take}
use Rattle.std.proofs.lemmas.List.{map_push, take_more}
use Rattle.std.specs.Prelude.{string_bytes}
use Rattle.bayou_judge.specs.declared.breach.Breach.{Breach}
use Rattle.bayou_explain.specs.Explained.{breaches_told}
use Rattle.bayou_explain.specs.Json.{TellEachAsJson}
use Rattle.bayou_explain.proofs.Each.{tell_more_json}
use Rattle.bayou_explain.proofs.json.explanation_objects.Goals as goal

pub loop-explained-preserved : goal.loop-explained-preserved
loop-explained-preserved c =
    let items = c.as_slice-explained-items.result.now in
    let at = c.loop-explained.explained-index in
    let item = c.explained-item.result in
    let before = breaches_told (take at items) in
    let is : breaches_told (take (at + 1) items) ≡ before ++ item.breach ∷ [] =
    ap breaches_told (take_more items at item c.loop-explained-test.true ∙ ap (λ y. take at items ++ y ∷ []) (sym c.explained-item.is))
    ∙ map_push (λ explained. explained.breach) (take at items) item in
    let told = tell_more_json before (string_bytes c.loop-explained.text) item.breach (string_bytes c.in_ok-told.told) c.loop-explained.invariant c.in_ok-told.ensures in
    let pushed : string_bytes c.push_str.new.self ≡ string_bytes c.loop-explained.text ++ string_bytes c.in_ok-told.told = search rules in
    subst (λ (bs : List Breach). TellEachAsJson bs (string_bytes c.push_str.new.self)) (sym is) (subst (TellEachAsJson (before ++ item.breach ∷ [])) (sym pushed) told)
