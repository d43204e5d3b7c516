-- What a command more makes of what was said.
use Rattle.std.proofs.Common.{◌≡◌, inl, inr, ℕ, ◌<◌, ◌==◌, ◌||◌, ◌∷◌, ◌++◌, Bool, IsTrue, true, false, List, [], Option, None, Some, length, get_or, set, refl, sym, ap, ◌∙◌, subst}
use Rattle.std.specs.List.{list_any}
use Rattle.std.proofs.lemmas.Bool.{cases_eq, eq-eqb, ne_eqb}
use Rattle.std.proofs.lemmas.List.{get_or-set_other, get_or-set_same}
use Rattle.std.proofs.lemmas.List.Folds.{list_any-append}
use Rattle.bayou_text.specs.Said.{Said}
use Rattle.bayou_script.specs.Inner.Stage.{Begins, Flags}
use Rattle.bayou_script.specs.declared.script.Servers.{Servers}
use Rattle.bayou_script.specs.Script.{is_behind, is_open, opens, use_of}

or_neither : (b : Bool) → (b || false) ≡ b
or_neither true = refl
or_neither false = refl

or_there : (b : Bool) → (b || true) ≡ true
or_there true = refl
or_there false = refl

-- a session is open behind this where it was open, or is opened
open_more : (who : ℕ) (front : List Said) (told : Said) (opened : List ℕ) → (use_of told).opens ≡ opened
    → is_open who (front ++ told ∷ []) ≡ (is_open who front || (list_any (λ other. other == who) opened || false))
open_more who front told opened is =
    list_any-append (opens who) front (told ∷ []) ∙ ap (λ (l : List ℕ). is_open who front || (list_any (λ other. other == who) l || false)) is

pub flags_same : (flags : List Bool) (front : List Said) (told : Said) → (use_of told).opens ≡ [] → Flags flags front → Flags flags (front ++ told ∷ [])
flags_same flags front told none known who within =
    known who within ∙ sym (open_more who front told [] none ∙ or_neither (is_open who front))

pub flags_more : (flags : List Bool) (front : List Said) (told : Said) (number : ℕ) → number < length flags → (use_of told).opens ≡ number ∷ [] → Flags flags front
    → Flags (set flags number true) (front ++ told ∷ [])
flags_more flags front told number room is known who within = elim (cases_eq number who) as (λ _. get_or (set flags number true) who false ≡ is_open who (front ++ told ∷ [])) [
  | inl same ↦
      let here : get_or (set flags number true) who false ≡ true = subst (λ n. get_or (set flags number true) n false ≡ true) same (get_or-set_same flags number true false room) in
      here ∙ sym (open_more who front told (number ∷ []) is ∙ ap (λ (b : Bool). is_open who front || ((b || false) || false)) (eq-eqb number who same) ∙ or_there (is_open who front))
  | inr other ↦
      get_or-set_other flags number who true false (λ e. other (sym e)) ∙ known who within
      ∙ sym (open_more who front told (number ∷ []) is ∙ ap (λ (b : Bool). is_open who front || ((b || false) || false)) (ne_eqb number who other) ∙ or_neither (is_open who front))
]

-- ---- what was said begins as it did

pub begins_more : (begun : Option Servers) (others front : List Said) (told : Said) → IsTrue (is_behind front (use_of told)) → Begins begun others front
    → Begins begun (others ++ told ∷ []) (front ++ told ∷ [])
begins_more None others front told behind (none, rest) =
    let here : IsTrue false = subst (λ (l : List Said). IsTrue (is_behind l (use_of told))) none behind in absurd (cc)
begins_more (Some started) others front told behind (most, all, limit) = (most, ap (λ (l : List Said). l ++ told ∷ []) all, limit)
