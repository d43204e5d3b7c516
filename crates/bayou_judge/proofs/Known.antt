-- What is known of sessions while the entries are gone through.
use Rattle.std.proofs.Common.{◌≡◌, inl, inr, ℕ, ◌+◌, ◌<◌, ◌≤◌, List, [], ◌∷◌, ◌++◌, length, get_or, replicate, set, take, All, Any, Option, Some, None, ap, sym, ◌∙◌, refl, subst, arith}
use Rattle.std.specs.List.{slice_get}
use Rattle.std.proofs.lemmas.Bool.{cases_eq}
use Rattle.std.proofs.lemmas.List.{get_or-replicate, get_or-set_other, get_or-set_same, take_more}
use Rattle.std.proofs.lemmas.List.Elements.{All-push}
use Rattle.std.proofs.lemmas.Option.{slice_get_within, get_or_from_slice_get}
use Rattle.bayou_base.specs.declared.entry.Entry.{Entry}
use Rattle.bayou_base.specs.declared.limits.TheConstants.{SESSIONS}
use Rattle.bayou_lang.specs.declared.write.Write.{Write}
use Rattle.bayou_judge.specs.declared.breach.Breach.{Breach}
use Rattle.bayou_judge.specs.declared.breach.Guarantee.{Guarantee}
use Rattle.bayou_judge.specs.declared.breach.Guarantee.TheVariants as guarantees
use Rattle.bayou_judge.specs.declared.passes.Progress.{Progress}
use Rattle.bayou_judge.specs.Answers.{IsSurveyed, Surveys}
use Rattle.bayou_judge.specs.History.{history_of}
use Rattle.bayou_judge.specs.Inner.Index.{Tables}
use Rattle.bayou_judge.specs.Inner.Needs.{AreKeptTo, IsBreachFor, IsChecked, IsFirstBreach}
use Rattle.bayou_judge.specs.Inner.Known.{found_of, need_for, IsKnown, IsProgress}
use Rattle.bayou_judge.proofs.Kept.{some_at, AreKeptTo-more, IsNeedOf-more}
use Rattle.bayou_judge.proofs.Least.{surveys}
use Rattle.bayou_judge.proofs.Sessions.{all_before, all_taken, none_any}

-- the first breach, with what was found at one more entry
pub first_more : (dumps : List (List Write)) (entries : List Entry) (guarantee : Guarantee) (session at : ℕ) → AreKeptTo dumps entries guarantee session at → at < length entries → (result : Option Breach)
    → ((second : Entry) → slice_get entries at ≡ Some second → IsBreachFor dumps entries guarantee session at second result) → IsFirstBreach dumps entries guarantee session (at + 1) result
first_more dumps entries guarantee session at kept within None here = AreKeptTo-more dumps entries guarantee session at kept here
first_more dumps entries guarantee session at kept within (Some breach) here =
    let found = some_at entries at within in
    (at, kept, here found.0 found.1)

-- an entry of another session changes nothing of what was found
first_other : (dumps : List (List Write)) (entries : List Entry) (guarantee : Guarantee) (session at : ℕ) (entry : Entry) → slice_get entries at ≡ Some entry → (entry.session.index ≡ session → ⊥) → (found : Option Breach)
    → IsFirstBreach dumps entries guarantee session at found → IsFirstBreach dumps entries guarantee session (at + 1) found
first_other dumps entries guarantee session at entry got other None kept =
    AreKeptTo-more dumps entries guarantee session at kept (λ second there is_second.
    let one : entry ≡ second = let both : Some entry ≡ Some second = sym got ∙ there in cc in
    absurd (other (ap (λ (e : Entry). e.session.index) one ∙ is_second.session_is)))
first_other dumps entries guarantee session at entry got other (Some breach) is = is

-- nor of what is needed, nor of whether there is one
pub known_other : (dumps : List (List Write)) (entries : List Entry) (session at : ℕ) (entry : Entry) → slice_get entries at ≡ Some entry → (entry.session.index ≡ session → ⊥) → (known : Option Progress)
    → IsKnown dumps entries session at known → IsKnown dumps entries session (at + 1) known
known_other dumps entries session at entry got other None none =
    let P : Entry → Type 0 = λ one. one.session.index ≡ session → ⊥ in
    let within : at < length entries = slice_get_within entries at entry got in
    let is : get_or entries at entry ≡ entry = get_or_from_slice_get entries at entry entry got in
    subst (All P) (sym (take_more entries at entry within ∙ ap (λ one. take at entries ++ one ∷ []) is)) (All-push P (take at entries) entry none other)
known_other dumps entries session at entry got other (Some progress) (any, is) = (
  any,
  record {
    session_is = is.session_is;
    needs = λ guarantee. IsNeedOf-more dumps guarantee session entries at entry (need_for progress.needs guarantee) (need_for progress.needs guarantee) got (is.needs guarantee) (λ write needed. needed)
        (λ is_first. absurd (other is_first.session_is));
    found = λ guarantee. first_other dumps entries guarantee session at entry got other (found_of progress.surveyed guarantee) (is.found guarantee);
  },
)

-- where the session has no entry yet
pub starts : (dumps : List (List Write)) (entries : List Entry) (session at : ℕ) (progress : Progress) → at ≤ length entries → All (λ (entry : Entry). entry.session.index ≡ session → ⊥) (take at entries)
    → progress.surveyed.session.index ≡ session → ((guarantee : Guarantee) → found_of progress.surveyed guarantee ≡ None) → IsProgress dumps entries session at progress
starts dumps entries session at progress within none session_is nothing = record {
  session_is = session_is;
  needs = λ guarantee k d inside is_first. absurd (none k d inside is_first.session_is);
  found = λ guarantee. subst (IsFirstBreach dumps entries guarantee session at) (sym (nothing guarantee))
      (λ place second before got is_second. absurd (all_before (λ (entry : Entry). entry.session.index ≡ session → ⊥) entries at place second none within before got is_second.session_is));
}

-- once all entries were gone through, each guarantee is surveyed
pub surveyed_all : (count : ℕ) (entries : List Entry) (dumps : List (List Write)) (indexes : List Tables) → IsChecked count entries dumps indexes → (session : ℕ) (progress : Progress)
    → IsProgress dumps entries session (length entries) progress → IsSurveyed (history_of entries dumps) progress.surveyed
surveyed_all count entries dumps indexes checked session progress is =
    let each : (guarantee : Guarantee) → Surveys (history_of entries dumps) guarantee progress.surveyed.session.index (found_of progress.surveyed guarantee) = λ guarantee.
    surveys count entries dumps indexes checked guarantee progress.surveyed.session.index (found_of progress.surveyed guarantee)
    (subst (λ s. IsFirstBreach dumps entries guarantee s (length entries) (found_of progress.surveyed guarantee)) (sym is.session_is) (is.found guarantee)) in
    record {
      ryw = each guarantees.ReadYourWrites;
      mr = each guarantees.MonotonicReads;
      wfr = each guarantees.WritesFollowReads;
      mw = each guarantees.MonotonicWrites;
    }

-- before the first entry
pub none_known : (dumps : List (List Write)) (entries : List Entry) (session : ℕ) → session < SESSIONS → IsKnown dumps entries session 0 (get_or (replicate SESSIONS None) session None)
none_known dumps entries session within =
    let none : Option Progress = None in
    subst (IsKnown dumps entries session 0) (sym (get_or-replicate SESSIONS session none none within)) (λ k d inside. absurd (omega arith))

-- with one more entry only its own session's progress is another
pub known_more : (dumps : List (List Write)) (entries : List Entry) (at : ℕ) (entry : Entry) → slice_get entries at ≡ Some entry → (slots : List (Option Progress)) (progress : Progress) (own : ℕ) → own ≡ entry.session.index
    → length slots ≡ SESSIONS → IsProgress dumps entries entry.session.index (at + 1) progress → ((session : ℕ) → session < SESSIONS → IsKnown dumps entries session at (get_or slots session None))
    → (session : ℕ) → session < SESSIONS → IsKnown dumps entries session (at + 1) (get_or (set slots own (Some progress)) session None)
known_more dumps entries at entry got slots progress own own_is sized is before session within =
    elim (cases_eq session own) as (λ _. IsKnown dumps entries session (at + 1) (get_or (set slots own (Some progress)) session None)) [
      | inl here ↦
          let there : own < length slots = omega (arith, here, sized, within) in
          let slot : get_or (set slots own (Some progress)) session None ≡ Some progress = ap (λ k. get_or (set slots own (Some progress)) k None) here ∙ get_or-set_same slots own (Some progress) None there in
          subst (IsKnown dumps entries session (at + 1)) (sym slot) (
            (at, entry, slice_get_within entries at entry got, get_or_from_slice_get entries at entry entry got, sym own_is ∙ sym here),
            subst (λ s. IsProgress dumps entries s (at + 1) progress) (sym (here ∙ own_is)) is,
          )
      | inr other ↦
          subst (IsKnown dumps entries session (at + 1)) (sym (get_or-set_other slots own session (Some progress) None other))
          (known_other dumps entries session at entry got (λ e. other (sym e ∙ sym own_is)) (get_or slots session None) (before session within))
    ]

-- where no progress is known the session has no entry
pub unknown : (dumps : List (List Write)) (entries : List Entry) (session : ℕ) (known : Option Progress) → IsKnown dumps entries session (length entries) known → ((progress : Progress) → known ≡ Some progress → ⊥)
    → Any (λ (entry : Entry). entry.session.index ≡ session) entries → ⊥
unknown dumps entries session None none missing any =
    let P : Entry → Type 0 = λ entry. entry.session.index ≡ session in
    none_any P entries (all_taken (λ entry. P entry → ⊥) entries (length entries) (omega arith) none) any
unknown dumps entries session (Some progress) is missing any = missing progress refl
