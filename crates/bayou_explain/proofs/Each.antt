-- One breach more is told.
use Rattle.std.proofs.Common.{◌≡◌, ◌∙◌, ◌++◌, ◌∷◌, ℕ, List, [], ap, append-nil, append_assoc, refl, sym}
use Rattle.bayou_judge.specs.declared.breach.Breach.{Breach}
use Rattle.bayou_explain.specs.Explanation.{TellEach, TellsBreach}
use Rattle.bayou_explain.specs.Json.{TellEachAsJson, TellsBreachAsJson}

pub tell_more : (breaches : List Breach) (text : List ℕ) (breach : Breach) (told : List ℕ) → TellEach breaches text → TellsBreach breach told
    → TellEach (breaches ++ breach ∷ []) (text ++ told)
tell_more [] text breach told none one = (told, [], one, refl, ap (λ s. s ++ told) none ∙ sym (append-nil told))
tell_more (other ∷ breaches) text breach told (first, rest, is_first, each, made) one =
    (first, rest ++ told, is_first, tell_more breaches rest breach told each one, ap (λ s. s ++ told) made ∙ append_assoc first rest told)

pub tell_more_json : (breaches : List Breach) (text : List ℕ) (breach : Breach) (told : List ℕ) → TellEachAsJson breaches text → TellsBreachAsJson breach told
    → TellEachAsJson (breaches ++ breach ∷ []) (text ++ told)
tell_more_json [] text breach told none one = (told, [], one, refl, ap (λ s. s ++ told) none ∙ sym (append-nil told))
tell_more_json (other ∷ breaches) text breach told (first, rest, is_first, each, made) one =
    (first, rest ++ told, is_first, tell_more_json breaches rest breach told each one, ap (λ s. s ++ told) made ∙ append_assoc first rest told)
