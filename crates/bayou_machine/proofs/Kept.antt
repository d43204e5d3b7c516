-- What is filed, and the shares that it is filed on.
use Rattle.std.proofs.Common.{◌≡◌, ◌⊎◌, inl, inr, ℕ, ◌<◌, ◌≤◌, List, [], ◌∷◌, ◌++◌, Option, Some, set, get_or, refl, sym, ap, subst, ◌∙◌, arith, length-set}
use Rattle.std.proofs.lemmas.Bool.{cases_lt}
use Rattle.std.proofs.lemmas.List.{get_or-set_other, get_or-set_same}
use Rattle.std.proofs.lemmas.Option.{get_or_from_slice_get, slice_get-get_or, slice_get_within}
use Rattle.std.specs.List.{slice_get}
use Rattle.bayou_audit.specs.declared.totals.Totals.{Totals}
use Rattle.bayou_audit.specs.Totals.{Booked, Shared, counted, with_claim, with_entry, without_slip}
use Rattle.bayou_base.specs.declared.entry.Entry.{Entry}
use Rattle.bayou_base.specs.declared.entry.What.{What}
use Rattle.bayou_base.specs.declared.entry.What.TheVariants as whats
use Rattle.bayou_base.specs.declared.limits.TheConstants.{SESSIONS}
use Rattle.bayou_session.specs.Needs.{Told}
use Rattle.bayou_machine.specs.Filed.{Files, Filings, IsEntryOf}
use Rattle.bayou_machine.specs.Inner.Shares.{AreOfSessions}

-- the entry is what is filed
pub filed_entry : (who place : ℕ) (told : Told) (what : What) (known : Option What) (entry : Entry) (before after : Booked) → after ≡ with_entry before entry
    → IsEntryOf who place told what entry → known ≡ Some what → (filed : List Entry) × (after.entries ≡ before.entries ++ filed) × Files who place told known filed
filed_entry who place told what known entry before after is of some = (
  entry ∷ [],
  ap (λ (book : Booked). book.entries) is,
  subst (λ (w : Option What). Files who place told w (entry ∷ [])) (sym some) (entry, refl, of),
)

-- the share that is found at its place is of the session of that number
pub of_session : (shares : List Shared) (at : ℕ) (share : Shared) → AreOfSessions shares → at < SESSIONS → share ≡ get_or shares at share → share.session.index ≡ at
of_session shares at share are within found =
    are.in_order at share (slice_get-get_or shares at share (omega (arith, are.one_each)) ∙ ap Some (sym found))

same_place : (shares : List Shared) (at i : ℕ) (new share : Shared) → AreOfSessions shares → at < SESSIONS → new.session.index ≡ at
    → slice_get (set shares at new) i ≡ Some share → (i < at) ⊎ (at ≤ i) → (at < i) ⊎ (i ≤ at) → share.session.index ≡ i
same_place shares at i new share are within named is (inl before) more =
    let inside = slice_get_within (set shares at new) i share is in
    let reads = get_or_from_slice_get (set shares at new) i share share is in
    are.in_order i share (slice_get-get_or shares i share (omega (arith, length-set shares at new))
    ∙ ap Some (sym (get_or-set_other shares at i new share (λ same. absurd (omega arith))) ∙ reads))
same_place shares at i new share are within named is (inr past) (inl behind) =
    let inside = slice_get_within (set shares at new) i share is in
    let reads = get_or_from_slice_get (set shares at new) i share share is in
    are.in_order i share (slice_get-get_or shares i share (omega (arith, length-set shares at new))
    ∙ ap Some (sym (get_or-set_other shares at i new share (λ same. absurd (omega arith))) ∙ reads))
same_place shares at i new share are within named is (inr past) (inr most) =
    let here : at ≡ i = omega arith in
    let reads = get_or_from_slice_get (set shares at new) i share share is in
    let same : new ≡ share = sym (get_or-set_same shares at new share (omega (arith, are.one_each)))
    ∙ ap (λ j. get_or (set shares at new) j share) here ∙ reads in
    subst (λ (s : Shared). s.session.index ≡ i) same (named ∙ here)

-- a share that is put back where it was is still of that session
pub put_back_share : (shares : List Shared) (at : ℕ) (old new : Shared) → AreOfSessions shares → at < SESSIONS → old ≡ get_or shares at old → new.session ≡ old.session
    → AreOfSessions (set shares at new)
put_back_share shares at old new are within found same = record {
  one_each = length-set shares at new ∙ are.one_each;
  in_order = λ i share is. same_place shares at i new share are within (ap (λ session. session.index) same ∙ of_session shares at old are within found) is
      (cases_lt i at) (cases_lt at i);
}

slips_counted : (what : What) (totals : Totals) → (counted what totals).slips ≡ totals.slips
slips_counted (whats.Read key vector) totals = refl
slips_counted (whats.Write wid stamp deps) totals = refl
slips_counted whats.Refused totals = refl

-- a slip that was claimed and spent on an entry is out no more
pub no_slip_out : (inside claimed spent : Booked) (entry : Entry) → inside.totals.slips ≡ 0 → claimed ≡ with_claim inside → spent ≡ with_entry claimed entry
    → spent.totals.slips ≡ 0
no_slip_out inside claimed spent entry none claim filed =
    let slips = ap (λ (book : Booked). book.totals.slips) filed ∙ slips_counted entry.what (without_slip claimed.totals) in
    omega (arith, none, slips, ap (λ (book : Booked). book.totals.slips) claim)

-- the entries are all that changed
pub same_book : (old : Filings) (inside claimed spent : Booked) (filed : List Entry) → record { capacity = inside.capacity; entries = inside.entries } ≡ old
    → claimed ≡ with_claim inside → spent.capacity ≡ claimed.capacity → spent.entries ≡ claimed.entries ++ filed
    → record { capacity = spent.capacity; entries = spent.entries } ≡ record old { entries = old.entries ++ filed }
same_book old inside claimed spent filed view claim capacity entries =
    let p = capacity ∙ ap (λ (book : Booked). book.capacity) claim in
    let e = entries ∙ ap (λ (book : Booked). book.entries ++ filed) claim in
    ap (λ n. record { capacity = n; entries = spent.entries }) p
    ∙ ap (λ list. record { capacity = inside.capacity; entries = list }) e
    ∙ ap (λ (book : Filings). record book { entries = book.entries ++ filed }) view
