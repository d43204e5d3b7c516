-- Entries that were gone through.
use Rattle.std.proofs.Common.{◌≡◌, ℕ, ◌+◌, ◌<◌, ◌≤◌, List, [], ◌∷◌, ◌++◌, Option, Some, None, get_or, length, replicate, set, take, ap, sym, ◌∙◌, subst, arith, inl, inr}
use Rattle.std.proofs.lemmas.Bool.{cases_eq, cases_lt}
use Rattle.std.proofs.lemmas.List.{get_or-replicate, get_or-set_other, get_or-set_same, get_or_default, take_more}
use Rattle.std.proofs.lemmas.Option.{get_or_from_slice_get, slice_get-get_or, slice_get_within}
use Rattle.bayou_base.specs.declared.entry.Entry.{Entry}
use Rattle.bayou_base.specs.declared.limits.TheConstants.{SESSIONS}
use Rattle.bayou_lang.specs.declared.write.Write.{Write}
use Rattle.bayou_judge.specs.declared.entries.Latest.{Latest}
use Rattle.bayou_judge.specs.Evidence.{AreGenuine, IsFirstForged, IsGenuine, IsGenuineAt}
use Rattle.bayou_judge.specs.Inner.Heard.{IsLatest}
use Rattle.bayou_judge.proofs.EntriesHeard.{IsLatest-other, IsLatest-own}

-- one more entry that is genuine
pub genuine_more : (count : ℕ) (dumps : List (List Write)) (entries : List Entry) (at : ℕ) (entry : Entry) → at < length entries → entry ≡ get_or entries at entry
    → IsGenuine count dumps (take at entries) entry → ((place : ℕ) → place < at → IsGenuineAt count dumps entries place) → (place : ℕ) → place < at + 1 → IsGenuineAt count dumps entries place
genuine_more count dumps entries at entry within is genuine before place less other got =
    elim (cases_lt place at) as (λ _. IsGenuine count dumps (take place entries) other) [
      | inl earlier ↦ before place earlier other got
      | inr last ↦
          let here : place ≡ at = omega (arith, last, less) in
          let one : entry ≡ other = is ∙ sym (get_or_default entries at other entry within) ∙ ap (λ k. get_or entries k other) (sym here) ∙ get_or_from_slice_get entries place other other got in
          subst (IsGenuine count dumps (take place entries)) one (subst (λ k. IsGenuine count dumps (take k entries) entry) (sym here) genuine)
    ]

-- one that isn't, behind those that are
pub first_forged_is : (count : ℕ) (dumps : List (List Write)) (entries : List Entry) (at : ℕ) (entry : Entry) → at < length entries → entry ≡ get_or entries at entry
    → ¬ IsGenuine count dumps (take at entries) entry → ((place : ℕ) → place < at → IsGenuineAt count dumps entries place) → IsFirstForged count dumps entries at
first_forged_is count dumps entries at entry within is forged before = record {
  forged = λ genuine. forged (genuine entry (slice_get-get_or entries at entry within ∙ ap Some (sym is)));
  none_before = before;
}

pub genuine_whole : (count : ℕ) (dumps : List (List Write)) (entries : List Entry) (at : ℕ) → length entries ≤ at → ((place : ℕ) → place < at → IsGenuineAt count dumps entries place) → AreGenuine count dumps entries
genuine_whole count dumps entries at past before place entry got = before place (omega (arith, past, slice_get_within entries place entry got)) entry got

-- the entries so far with one more
pub longer : (entries : List Entry) (at : ℕ) (entry : Entry) → at < length entries → entry ≡ get_or entries at entry → take at entries ++ entry ∷ [] ≡ take (at + 1) entries
longer entries at entry within is = ap (λ e. take at entries ++ e ∷ []) is ∙ sym (take_more entries at entry within)

-- of no entry nothing was heard
pub none_heard : (session : ℕ) → session < SESSIONS → IsLatest [] session (get_or (replicate SESSIONS None) session None)
none_heard session within =
    let none : Option Latest = None in
    subst (IsLatest [] session) (sym (get_or-replicate SESSIONS session none none within)) (λ k d inside. absurd (omega arith))

-- what was heard last of each session, with one more entry
pub latest_more : (count : ℕ) (dumps : List (List Write)) (earlier : List Entry) (entry : Entry) (slots : List (Option Latest)) (latest : Latest) (at : ℕ) → at ≡ entry.session.index
    → latest.place ≡ entry.place → latest.asks ≡ entry.asks → length slots ≡ SESSIONS → IsGenuine count dumps earlier entry
    → ((session : ℕ) → session < SESSIONS → IsLatest earlier session (get_or slots session None))
    → (session : ℕ) → session < SESSIONS → IsLatest (earlier ++ entry ∷ []) session (get_or (set slots at (Some latest)) session None)
latest_more count dumps earlier entry slots latest at own place asks sized genuine before session within =
    let new = earlier ++ entry ∷ [] in
    elim (cases_eq session at) as (λ _. IsLatest new session (get_or (set slots at (Some latest)) session None)) [
      | inl here ↦
          let there : at < length slots = omega (arith, here, sized, within) in
          let slot : get_or (set slots at (Some latest)) session None ≡ Some latest = ap (λ k. get_or (set slots at (Some latest)) k None) here ∙ get_or-set_same slots at (Some latest) None there in
          subst (IsLatest new session) (sym slot)
          (subst (λ s. IsLatest new s (Some latest)) (sym (here ∙ own)) (IsLatest-own earlier entry latest (λ k d inside same. (genuine.place k d inside same, genuine.asks k d inside same)) place asks))
      | inr other ↦
          subst (IsLatest new session) (sym (get_or-set_other slots at session (Some latest) None other))
          (IsLatest-other earlier entry session (get_or slots session None) (λ e. other (sym e ∙ sym own)) (before session within))
    ]
