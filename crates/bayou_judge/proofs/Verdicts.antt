-- The first breach of a survey that is asked for is the least, and where there is none each session has what it asks for.
use Rattle.std.proofs.Common.{◌≡◌, inl, inr, ℕ, ◌<◌, ◌≤◌, true, false, List, [], ◌∷◌, length, get_or, All, Any, Option, Some, None, ap, sym, ◌∙◌, refl, subst, arith}
use Rattle.std.specs.List.{slice_get}
use Rattle.std.proofs.lemmas.Bool.{cases_lt}
use Rattle.std.proofs.lemmas.Option.{slice_get-get_or, slice_get_within, get_or_from_slice_get}
use Rattle.bayou_base.specs.declared.entry.Entry.{Entry}
use Rattle.bayou_base.specs.declared.wid.Wid.{Wid}
use Rattle.bayou_base.specs.declared.session.SessionId.{SessionId}
use Rattle.bayou_judge.specs.declared.breach.Breach.{Breach}
use Rattle.bayou_judge.specs.declared.breach.Guarantee.{Guarantee}
use Rattle.bayou_judge.specs.declared.breach.Guarantee.TheVariants as guarantees
use Rattle.bayou_judge.specs.declared.verdict.Surveyed.{Surveyed}
use Rattle.bayou_judge.specs.Answers.{AreKept, IsAskedFor, IsLeastBreach, IsSurvey, IsSurveyed, Surveys}
use Rattle.bayou_judge.specs.Breaches.{is_asked, is_less, rank, Holds, IsBreach, IsLeastOf, Violates}
use Rattle.bayou_judge.specs.History.{History}
use Rattle.bayou_judge.specs.Inner.Known.{found_of}
use Rattle.bayou_judge.specs.Inner.Verdicts.{AreUnasked, IsAskedAt, IsFirstOf, IsTheFirst, IsUnasked}
use Rattle.bayou_judge.proofs.Faults.{less-later}
use Rattle.bayou_judge.proofs.Least.{session-ext}
use Rattle.bayou_judge.proofs.Sessions.{all_at}

-- where the guarantee holds, nothing violates it
pub holds_none : (history : History) (guarantee : Guarantee) (session first second server : ℕ) (wid : Wid) → first < second → Holds history guarantee session → Violates history guarantee session first second server wid → ⊥
holds_none history guarantees.ReadYourWrites session first second server wid before holds (write, database, wrote, read, named, lacks) =
    lacks (holds first second server write database before wrote read)
holds_none history guarantees.MonotonicReads session first second server wid before holds (other, earlier, later, write, saw, read, has, named, lacks) =
    lacks (holds first second other server earlier later before saw read write has)
holds_none history guarantees.WritesFollowReads session first second server wid before holds (other, database, write, earlier, saw, wrote, has, named, fails) =
    fails.2 (holds first second other database write before saw wrote earlier has server fails.0 fails.1)
holds_none history guarantees.MonotonicWrites session first second server wid before holds (earlier, later, one, two, named, fails) =
    fails.2 (holds first second earlier later before one two server fails.0 fails.1)

found_is : (history : History) (surveyed : Surveyed) → IsSurveyed history surveyed → (guarantee : Guarantee) → Surveys history guarantee surveyed.session.index (found_of surveyed guarantee)
found_is history surveyed is guarantees.ReadYourWrites = is.ryw
found_is history surveyed is guarantees.MonotonicReads = is.mr
found_is history surveyed is guarantees.WritesFollowReads = is.wfr
found_is history surveyed is guarantees.MonotonicWrites = is.mw

unasked_of : (entries : List Entry) (surveyed : Surveyed) → AreUnasked entries surveyed → (guarantee : Guarantee) → IsUnasked entries (found_of surveyed guarantee)
unasked_of entries surveyed none guarantees.ReadYourWrites = none.ryw
unasked_of entries surveyed none guarantees.MonotonicReads = none.mr
unasked_of entries surveyed none guarantees.WritesFollowReads = none.wfr
unasked_of entries surveyed none guarantees.MonotonicWrites = none.mw

-- asked for, by the number of the session and by the guarantee
abbrev pub AsksFor : List Entry → ℕ → Guarantee → Type 0
AsksFor entries session guarantee = Any (λ entry. (entry.session.index ≡ session) × (is_asked entry.asks guarantee ≡ true)) entries

-- where what was found isn't asked for, but the guarantee is, there was none
none_found : (history : History) (entries : List Entry) (guarantee : Guarantee) (session : ℕ) (found : Option Breach) → Surveys history guarantee session found → IsUnasked entries found → AsksFor entries session guarantee → Holds history guarantee session
none_found history entries guarantee session None holds unasked asked = holds
none_found history entries guarantee session (Some breach) least unasked asked =
    absurd (unasked (asked.0, asked.1, asked.2, asked.3, (asked.4.0 ∙ sym least.session_is, subst (λ g. is_asked asked.1.asks g ≡ true) (sym least.guarantee_is) asked.4.1)))

-- nothing that is asked for is broken in a session where no breach is asked for
pub unasked_holds : (history : History) (entries : List Entry) (surveyed : Surveyed) → IsSurveyed history surveyed → AreUnasked entries surveyed → (guarantee : Guarantee) → AsksFor entries surveyed.session.index guarantee
    → Holds history guarantee surveyed.session.index
unasked_holds history entries surveyed is none guarantee asked =
    none_found history entries guarantee surveyed.session.index (found_of surveyed guarantee) (found_is history surveyed is guarantee) (unasked_of entries surveyed none guarantee) asked

-- the survey of the entry's session
surveyed_of : (history : History) (entries : List Entry) (list : List Surveyed) → IsSurvey history entries list → (k : ℕ) (entry : Entry) → k < length entries → get_or entries k entry ≡ entry
    → (at : ℕ) × ((surveyed : Surveyed) × (slice_get list at ≡ Some surveyed) × (surveyed.session ≡ entry.session) × IsSurveyed history surveyed)
surveyed_of history entries list is k entry within here =
    let any = subst (λ (e : Entry). Any (λ (surveyed : Surveyed). surveyed.session ≡ e.session) list) here (is.every k entry within) in
    let got : slice_get list any.0 ≡ Some any.1 = slice_get-get_or list any.0 any.1 any.2 ∙ ap Some any.3 in
    (any.0, (any.1, got, any.4, all_at (IsSurveyed history) list any.0 any.1 is.each got))

-- where no breach is asked for, each session has what it asks for
pub all_kept : (history : History) (entries : List Entry) (list : List Surveyed) → IsSurvey history entries list → All (AreUnasked entries) list → AreKept history entries
all_kept history entries list is none k d within =
    let entry = get_or entries k d in
    let here : get_or entries k entry ≡ entry = get_or_from_slice_get entries k entry entry (slice_get-get_or entries k d within) in
    let found = surveyed_of history entries list is k entry within here in
    let surveyed = found.1.0 in
    let holds : (guarantee : Guarantee) → is_asked entry.asks guarantee ≡ true → Holds history guarantee entry.session.index = λ guarantee asked.
    subst (λ (s : SessionId). Holds history guarantee s.index) found.1.2
    (unasked_holds history entries surveyed found.1.3 (all_at (AreUnasked entries) list found.0 surveyed none found.1.1) guarantee
    (k, entry, within, here, (ap (λ (s : SessionId). s.index) (sym found.1.2), asked))) in
    record {
      ryw = holds guarantees.ReadYourWrites;
      mr = holds guarantees.MonotonicReads;
      wfr = holds guarantees.WritesFollowReads;
      mw = holds guarantees.MonotonicWrites;
    }

-- what the first breach that is asked for in a session comes to
pub record IsFirstHere (history : History) (entries : List Entry) (surveyed : Surveyed) (breach : Breach) : Type 0 where
  pub guarantee : Guarantee
  pub least : IsLeastOf history guarantee surveyed.session.index breach
  pub unasked : (other : Guarantee) → rank other < rank guarantee → IsUnasked entries (found_of surveyed other)

first_here : (history : History) (entries : List Entry) (surveyed : Surveyed) (breach : Breach) → IsSurveyed history surveyed → IsTheFirst entries surveyed breach → IsFirstHere history entries surveyed breach
first_here history entries surveyed breach is (IsTheFirst.ryw here) = record {
  guarantee = guarantees.ReadYourWrites;
  least = subst (Surveys history guarantees.ReadYourWrites surveyed.session.index) here is.ryw;
  unasked = λ other less. absurd (omega arith);
}
first_here history entries surveyed breach is (IsTheFirst.mr here ryw) = record {
  guarantee = guarantees.MonotonicReads;
  least = subst (Surveys history guarantees.MonotonicReads surveyed.session.index) here is.mr;
  unasked = λ other. elim other as (λ g. rank g < 1 → IsUnasked entries (found_of surveyed g)) [
    | guarantees.ReadYourWrites ↦ λ less. ryw
    | guarantees.MonotonicReads ↦ λ less. absurd (omega arith)
    | guarantees.WritesFollowReads ↦ λ less. absurd (omega arith)
    | guarantees.MonotonicWrites ↦ λ less. absurd (omega arith)
  ];
}
first_here history entries surveyed breach is (IsTheFirst.wfr here ryw mr) = record {
  guarantee = guarantees.WritesFollowReads;
  least = subst (Surveys history guarantees.WritesFollowReads surveyed.session.index) here is.wfr;
  unasked = λ other. elim other as (λ g. rank g < 2 → IsUnasked entries (found_of surveyed g)) [
    | guarantees.ReadYourWrites ↦ λ less. ryw
    | guarantees.MonotonicReads ↦ λ less. mr
    | guarantees.WritesFollowReads ↦ λ less. absurd (omega arith)
    | guarantees.MonotonicWrites ↦ λ less. absurd (omega arith)
  ];
}
first_here history entries surveyed breach is (IsTheFirst.mw here ryw mr wfr) = record {
  guarantee = guarantees.MonotonicWrites;
  least = subst (Surveys history guarantees.MonotonicWrites surveyed.session.index) here is.mw;
  unasked = λ other. elim other as (λ g. rank g < 3 → IsUnasked entries (found_of surveyed g)) [
    | guarantees.ReadYourWrites ↦ λ less. ryw
    | guarantees.MonotonicReads ↦ λ less. mr
    | guarantees.WritesFollowReads ↦ λ less. wfr
    | guarantees.MonotonicWrites ↦ λ less. absurd (omega arith)
  ];
}

-- a guarantee is its rank
pub same_rank : (a b : Guarantee) → rank a ≡ rank b → a ≡ b
same_rank guarantees.ReadYourWrites guarantees.ReadYourWrites same = refl
same_rank guarantees.ReadYourWrites guarantees.MonotonicReads same = absurd (omega arith)
same_rank guarantees.ReadYourWrites guarantees.WritesFollowReads same = absurd (omega arith)
same_rank guarantees.ReadYourWrites guarantees.MonotonicWrites same = absurd (omega arith)
same_rank guarantees.MonotonicReads guarantees.ReadYourWrites same = absurd (omega arith)
same_rank guarantees.MonotonicReads guarantees.MonotonicReads same = refl
same_rank guarantees.MonotonicReads guarantees.WritesFollowReads same = absurd (omega arith)
same_rank guarantees.MonotonicReads guarantees.MonotonicWrites same = absurd (omega arith)
same_rank guarantees.WritesFollowReads guarantees.ReadYourWrites same = absurd (omega arith)
same_rank guarantees.WritesFollowReads guarantees.MonotonicReads same = absurd (omega arith)
same_rank guarantees.WritesFollowReads guarantees.WritesFollowReads same = refl
same_rank guarantees.WritesFollowReads guarantees.MonotonicWrites same = absurd (omega arith)
same_rank guarantees.MonotonicWrites guarantees.ReadYourWrites same = absurd (omega arith)
same_rank guarantees.MonotonicWrites guarantees.MonotonicReads same = absurd (omega arith)
same_rank guarantees.MonotonicWrites guarantees.WritesFollowReads same = absurd (omega arith)
same_rank guarantees.MonotonicWrites guarantees.MonotonicWrites same = refl

-- a breach of what is asked for contradicts that the guarantee holds
pub broken_holds : (history : History) (breach : Breach) → IsBreach history breach → Holds history breach.guarantee breach.session.index → ⊥
broken_holds history breach is holds = holds_none history breach.guarantee breach.session.index breach.first breach.second breach.server.index breach.wid is.in_order holds is.violates

-- in a smaller session, or of a smaller guarantee, no breach is asked for
unasked_breach : (history : History) (entries : List Entry) (surveyed : Surveyed) (breach : Breach) → IsBreach history breach → AsksFor entries breach.session.index breach.guarantee → breach.session.index ≡ surveyed.session.index
    → IsSurveyed history surveyed → IsUnasked entries (found_of surveyed breach.guarantee) → ⊥
unasked_breach history entries surveyed breach broken asked same is unasked =
    broken_holds history breach broken
    (subst (Holds history breach.guarantee) (sym same)
    (none_found history entries breach.guarantee surveyed.session.index (found_of surveyed breach.guarantee) (found_is history surveyed is breach.guarantee) unasked
    (subst (λ s. AsksFor entries s breach.guarantee) same asked)))

equal_le : (a b : ℕ) → a ≡ b → b ≤ a
equal_le a b same = omega arith

lt_le : (a b : ℕ) → a < b → a ≤ b
lt_le a b less = omega arith

both_le : (a b : ℕ) → a ≤ b → b ≤ a → a ≡ b
both_le a b here there = omega arith

not_lt : (a b c d : ℕ) → a < b → c < d → a ≡ d → b ≡ c → ⊥
not_lt a b c d one two here there = omega arith

-- the places of a survey are in the order of sessions
survey_order : (history : History) (entries : List Entry) (list : List Surveyed) → IsSurvey history entries list → (i j : ℕ) (a b : Surveyed) → slice_get list i ≡ Some a → slice_get list j ≡ Some b
    → a.session.index < b.session.index → i < j
survey_order history entries list is i j a b at_i at_j less =
    let within_i = slice_get_within list i a at_i in
    let within_j = slice_get_within list j b at_j in
    elim (cases_lt i j) as (λ _. i < j) [
      | inl before ↦ before
      | inr above ↦ elim (cases_lt j i) as (λ _. i < j) [
        | inl after ↦
            let order = is.in_order j i a after within_i in
            let is_j : (get_or list j a).session.index ≡ b.session.index = ap (λ (s : Surveyed). s.session.index) (get_or_from_slice_get list j b a at_j) in
            let is_i : (get_or list i a).session.index ≡ a.session.index = ap (λ (s : Surveyed). s.session.index) (get_or_from_slice_get list i a a at_i) in
            absurd (not_lt a.session.index b.session.index (get_or list j a).session.index (get_or list i a).session.index less order (sym is_i) (sym is_j))
        | inr equal ↦
            let one : i ≡ j = both_le i j equal above in
            let both : Some a ≡ Some b = sym at_i ∙ ap (slice_get list) one ∙ at_j in
            let same : a.session.index ≡ b.session.index = ap (λ (s : Surveyed). s.session.index) (let e : a ≡ b = cc in e) in
            absurd (not_lt a.session.index b.session.index a.session.index b.session.index less less same (sym same))
      ]
    ]

-- keys of breaches of which the other isn't less, by session and guarantee
keys_by_rank : (s t q r : ℕ) (xs ys : List ℕ) → s ≤ t → (t ≡ s → q ≤ r) → (t ≡ s → r ≡ q → is_less (t ∷ r ∷ xs) (s ∷ q ∷ ys) ≡ false) → is_less (t ∷ r ∷ xs) (s ∷ q ∷ ys) ≡ false
keys_by_rank s t q r xs ys sessions ranks same =
    elim (cases_lt s t) as (λ _. is_less (t ∷ r ∷ xs) (s ∷ q ∷ ys) ≡ false) [
      | inl more ↦ less-later s t (r ∷ xs) (q ∷ ys) sessions (λ equal. absurd (omega arith))
      | inr less ↦
          let one : t ≡ s = omega arith in
          elim (cases_lt q r) as (λ _. is_less (t ∷ r ∷ xs) (s ∷ q ∷ ys) ≡ false) [
            | inl greater ↦ less-later s t (r ∷ xs) (q ∷ ys) sessions (λ equal. less-later q r xs ys (lt_le q r greater) (λ e. absurd (omega arith)))
            | inr smaller ↦ same one (both_le r q smaller (ranks one))
          ]
    ]

-- the first breach that is asked for is the least
pub first_is_least : (history : History) (entries : List Entry) (list : List Surveyed) → IsSurvey history entries list → (breach : Breach) → IsFirstOf entries list (Some breach) → IsLeastBreach history entries breach
first_is_least history entries list is breach found =
    let at = found.0 in
    let surveyed = found.1 in
    let own = all_at (IsSurveyed history) list at surveyed is.each found.2 in
    let here = first_here history entries surveyed breach own found.3 in
    let asked : IsAskedAt entries breach = found.4 in
    let asked_by = asked.1 in
    let to_index : (other : Breach) → IsAskedFor entries other → AsksFor entries other.session.index other.guarantee =
    λ other any. (any.0, any.1, any.2, any.3, (ap (λ (s : SessionId). s.index) any.4.0, any.4.1)) in
    record {
      is = here.least.is;
      asked = (asked.0, asked.1, asked.2, asked.3, (session-ext asked_by.session breach.session asked.4.0, asked.4.1));
      least = λ other other_is other_asked.
          let asks = to_index other other_asked in
          let place = surveyed_of history entries list is other_asked.0 other_asked.1 other_asked.2 other_asked.3 in
          let there = place.1.0 in
          let same_session : other.session.index ≡ there.session.index = ap (λ (s : SessionId). s.index) (sym other_asked.4.0 ∙ sym place.1.2) in
          let sessions : breach.session.index ≤ other.session.index = elim (cases_lt other.session.index breach.session.index) as (λ _. breach.session.index ≤ other.session.index) [
            | inl less ↦
                let before = survey_order history entries list is place.0 at there surveyed place.1.1 found.2 (subst (λ n. n < surveyed.session.index) same_session (subst (λ n. other.session.index < n) here.least.session_is less)) in
                absurd (unasked_breach history entries there other other_is asks same_session place.1.3 (unasked_of entries there (found.5 place.0 there before place.1.1) other.guarantee))
            | inr above ↦ above
          ] in
          keys_by_rank breach.session.index other.session.index (rank breach.guarantee) (rank other.guarantee)
          (other.second ∷ other.first ∷ other.server.index ∷ other.wid.origin.index ∷ other.wid.seq ∷ [])
          (breach.second ∷ breach.first ∷ breach.server.index ∷ breach.wid.origin.index ∷ breach.wid.seq ∷ []) sessions
          (λ same. elim (cases_lt (rank other.guarantee) (rank breach.guarantee)) as (λ _. rank breach.guarantee ≤ rank other.guarantee) [
            | inl less ↦ absurd (unasked_breach history entries surveyed other other_is asks (same ∙ here.least.session_is) own
                (here.unasked other.guarantee (subst (λ g. rank other.guarantee < rank g) here.least.guarantee_is less)))
            | inr above ↦ above
          ])
          (λ same ranks. here.least.least other (same_rank other.guarantee here.guarantee (ranks ∙ ap rank here.least.guarantee_is)) (same ∙ here.least.session_is) other_is);
    }
