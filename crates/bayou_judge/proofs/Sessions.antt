-- The survey, session by session.
use Rattle.std.proofs.Common.{◌≡◌, inl, inr, ℕ, ◌+◌, ◌<◌, ◌≤◌, List, [], ◌∷◌, ◌++◌, length, get_or, take, All, Any, Some, ap, sym, ◌∙◌, subst, arith}
use Rattle.std.specs.List.{slice_get}
use Rattle.std.proofs.lemmas.Bool.{cases_lt}
use Rattle.std.proofs.lemmas.List.{get_or-take, length-take-le, take_all, take_more}
use Rattle.std.proofs.lemmas.List.Elements.{All-push, Contains-append_left}
use Rattle.std.proofs.lemmas.List.Quantifiers.{Any-push, all_pairs_push}
use Rattle.std.proofs.lemmas.Option.{slice_get-get_or, slice_get_within, get_or_from_slice_get}
use Rattle.bayou_base.specs.declared.entry.Entry.{Entry}
use Rattle.bayou_base.specs.declared.limits.TheConstants.{SESSIONS}
use Rattle.bayou_base.specs.declared.session.SessionId.{SessionId}
use Rattle.bayou_judge.specs.declared.verdict.Surveyed.{Surveyed}
use Rattle.bayou_judge.specs.Answers.{IsSurvey, IsSurveyed}
use Rattle.bayou_judge.specs.History.{History}
use Rattle.bayou_judge.specs.Inner.Verdicts.{IsSurveyTo}
use Rattle.bayou_judge.proofs.Least.{session-ext}

pub none_any : {X : Type 0} (P : X → Type 0) (xs : List X) → All (λ x. P x → ⊥) xs → Any P xs → ⊥
none_any P xs none any = none any.0 any.1 any.2 (subst P (sym any.3) any.4)

pub all_taken : {X : Type 0} (P : X → Type 0) (xs : List X) (k : ℕ) → length xs ≤ k → All P (take k xs) → All P xs
all_taken P xs k past all = subst (All P) (take_all k xs past) all

pub all_more : {X : Type 0} (P : X → Type 0) (xs : List X) (k : ℕ) (x : X) → k < length xs → x ≡ get_or xs k x → P x → All P (take k xs) → All P (take (k + 1) xs)
all_more P xs k x within is here all = subst (All P) (sym (take_more xs k x within ∙ ap (λ y. take k xs ++ y ∷ []) (sym is))) (All-push P (take k xs) x all here)

pub all_before : {X : Type 0} (P : X → Type 0) (xs : List X) (k place : ℕ) (x : X) → All P (take k xs) → k ≤ length xs → place < k → slice_get xs place ≡ Some x → P x
all_before P xs k place x all within before got =
    let size : length (take k xs) ≡ k = length-take-le k xs within in
    subst P (get_or-take k xs place x before ∙ get_or_from_slice_get xs place x x got) (all place x (omega arith))

pub all_at : {X : Type 0} (P : X → Type 0) (xs : List X) (place : ℕ) (x : X) → All P xs → slice_get xs place ≡ Some x → P x
all_at P xs place x all got = subst P (get_or_from_slice_get xs place x x got) (all place x (slice_get_within xs place x got))

-- of the same session by its index
pub any_session : (entries : List Entry) (session : SessionId) → Any (λ (entry : Entry). entry.session.index ≡ session.index) entries → Any (λ (entry : Entry). entry.session ≡ session) entries
any_session entries session any = (any.0, any.1, any.2, any.3, session-ext any.1.session session any.4)

any_front : (P : Surveyed → Type 0) (xs ys : List Surveyed) → Any P xs → Any P (xs ++ ys)
any_front P xs ys any =
    let there = Contains-append_left xs ys any.1 (any.0, any.2, any.3) in
    (there.0, any.1, there.1, there.2, any.4)

-- with the session of this index, which has an entry
pub survey_more : (history : History) (entries : List Entry) (upto : ℕ) (list : List Surveyed) (surveyed : Surveyed) → IsSurveyTo history entries upto list → surveyed.session.index ≡ upto
    → Any (λ (entry : Entry). entry.session.index ≡ upto) entries → IsSurveyed history surveyed → IsSurveyTo history entries (upto + 1) (list ++ surveyed ∷ [])
survey_more history entries upto list surveyed old at any is =
    let all = list ++ surveyed ∷ [] in
    record {
      in_order = all_pairs_push (λ a b. a.session.index < b.session.index) list surveyed old.in_order
          (λ k d within. let below = old.below k d within in omega (arith, below, at));
      below = All-push (λ one. one.session.index < upto + 1) list surveyed (λ k d within. let below = old.below k d within in omega (arith, below)) (omega arith);
      every = λ k d within less.
          let entry = get_or entries k d in
          elim (cases_lt entry.session.index upto) as (λ _. Any (λ (one : Surveyed). one.session ≡ entry.session) all) [
            | inl before ↦ any_front (λ one. one.session ≡ entry.session) list (surveyed ∷ []) (old.every k d within before)
            | inr above ↦ Any-push (λ one. one.session ≡ entry.session) list surveyed (session-ext surveyed.session entry.session (omega (arith, at, above, less)))
          ];
      only = All-push (λ one. Any (λ (entry : Entry). entry.session ≡ one.session) entries) list surveyed old.only
          (any_session entries surveyed.session (subst (λ n. Any (λ (entry : Entry). entry.session.index ≡ n) entries) (sym at) any));
      each = All-push (IsSurveyed history) list surveyed old.each is;
    }

-- with that of this index, which has none
pub survey_none : (history : History) (entries : List Entry) (upto : ℕ) (list : List Surveyed) → IsSurveyTo history entries upto list → (Any (λ (entry : Entry). entry.session.index ≡ upto) entries → ⊥) → IsSurveyTo history entries (upto + 1) list
survey_none history entries upto list old none = record {
  in_order = old.in_order;
  below = λ k d within. let below = old.below k d within in omega (arith, below);
  every = λ k d within less.
      let entry = get_or entries k d in
      elim (cases_lt entry.session.index upto) as (λ _. Any (λ (one : Surveyed). one.session ≡ entry.session) list) [
        | inl before ↦ old.every k d within before
        | inr above ↦
            let at : entry.session.index ≡ upto = omega (arith, above, less) in
            let got = slice_get-get_or entries k d within in
            absurd (none (k, entry, within, get_or_from_slice_get entries k entry entry got, at))
      ];
  only = old.only;
  each = old.each;
}

-- of all sessions
pub survey_all_of : (history : History) (entries : List Entry) (upto : ℕ) (list : List Surveyed) → SESSIONS ≤ upto → IsSurveyTo history entries upto list → IsSurvey history entries list
survey_all_of history entries upto list past is = record {
  in_order = is.in_order;
  every = λ k d within. let known = (get_or entries k d).session.in_range in is.every k d within (omega (arith, known, past));
  only = is.only;
  each = is.each;
}
