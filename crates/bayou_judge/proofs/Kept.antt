-- The pass over one session's operations.
use Rattle.std.proofs.Common.{◌≡◌, inl, inr, ℕ, zero, suc, ◌+◌, ◌<◌, List, [], ◌∷◌, ◌++◌, length, get_or, take, All, Option, Some, None, ap, sym, ◌∙◌, refl, subst, arith}
use Rattle.std.specs.List.{slice_get}
use Rattle.std.proofs.lemmas.Bool.{cases_lt}
use Rattle.std.proofs.lemmas.List.{take_more}
use Rattle.std.proofs.lemmas.List.Elements.{All-push, All-weaker}
use Rattle.std.proofs.lemmas.Option.{slice_get_within, get_or_from_slice_get}
use Rattle.bayou_base.specs.declared.entry.Entry.{Entry}
use Rattle.bayou_lang.specs.declared.write.Write.{Write}
use Rattle.bayou_judge.specs.declared.breach.Breach.{Breach}
use Rattle.bayou_judge.specs.declared.breach.Guarantee.{Guarantee}
use Rattle.bayou_judge.specs.declared.needs.Need.{Need}
use Rattle.bayou_judge.specs.Evidence.{AreGood}
use Rattle.bayou_judge.specs.History.{dump_of}
use Rattle.bayou_judge.specs.Inner.Needs.{AreKeptTo, IsBreachFor, IsBreachOf, IsFirst, IsHeld, IsKept, IsNeeded, IsNeedOf, Lacks, Tells}
use Rattle.bayou_judge.proofs.Faults.{told_is}

-- where all that is needed is there, no entry before this one has a fault with it
pub content_is_kept : (count : ℕ) (dumps : List (List Write)) → AreGood count dumps → (guarantee : Guarantee) (session : ℕ) (earlier : List Entry) (second : Entry) (need : Need)
    → IsNeedOf dumps guarantee session earlier need
    → ((write : Write) (server : ℕ) → IsHeld dumps write → IsNeeded need write → Lacks dumps second.server.index second.what server write → ⊥)
    → IsKept dumps guarantee session earlier second
content_is_kept count dumps good guarantee session earlier second need needs content k d within first_is server wid fails =
    let first = get_or earlier k d in
    let told = told_is count dumps good first.server.index first.what fails.0 fails.1 in
    content fails.0 server (first.server.index, told.0) (needs k d within first_is fails.0 fails.1) fails.3

-- the need of one more entry
pub IsNeedOf-more : (dumps : List (List Write)) (guarantee : Guarantee) (session : ℕ) (entries : List Entry) (at : ℕ) (entry : Entry) (old new : Need) → slice_get entries at ≡ Some entry
    → IsNeedOf dumps guarantee session (take at entries) old → ((write : Write) → IsNeeded old write → IsNeeded new write)
    → (IsFirst guarantee session entry → (write : Write) → Tells (dump_of dumps entry.server.index) entry.what write → IsNeeded new write)
    → IsNeedOf dumps guarantee session (take (at + 1) entries) new
IsNeedOf-more dumps guarantee session entries at entry old new got needs grows own =
    let Needs : Need → Entry → Type 0 = λ need first. IsFirst guarantee session first → (write : Write) → Tells (dump_of dumps first.server.index) first.what write → IsNeeded need write in
    let within : at < length entries = slice_get_within entries at entry got in
    let is : get_or entries at entry ≡ entry = get_or_from_slice_get entries at entry entry got in
    subst (All (Needs new)) (sym (take_more entries at entry within ∙ ap (λ one. take at entries ++ one ∷ []) is))
    (All-push (Needs new) (take at entries) entry (All-weaker (Needs old) (Needs new) (λ first needed is_first write told. grows write (needed is_first write told)) (take at entries) needs) own)

-- with one more entry that breaks nothing
pub AreKeptTo-more : (dumps : List (List Write)) (entries : List Entry) (guarantee : Guarantee) (session at : ℕ) → AreKeptTo dumps entries guarantee session at
    → ((second : Entry) → slice_get entries at ≡ Some second → IsBreachFor dumps entries guarantee session at second None) → AreKeptTo dumps entries guarantee session (at + 1)
AreKeptTo-more dumps entries guarantee session at kept here place second within got is_second =
    elim (cases_lt place at) as (λ _. IsKept dumps guarantee session (take place entries) second) [
      | inl before ↦ kept place second before got is_second
      | inr above ↦
          let same : at ≡ place = omega arith in
          subst (λ p. IsKept dumps guarantee session (take p entries) second) same (here second (ap (slice_get entries) same ∙ got) is_second)
    ]

pub breach_for : (dumps : List (List Write)) (entries : List Entry) (guarantee : Guarantee) (session at : ℕ) (second : Entry) (result : Option Breach) → IsBreachOf dumps entries guarantee session at second result → IsBreachFor dumps entries guarantee session at second result
breach_for dumps entries guarantee session at second None kept = λ is. kept
breach_for dumps entries guarantee session at second (Some breach) is = is

pub some_at : {X : Type 0} (xs : List X) (k : ℕ) → k < length xs → (x : X) × (slice_get xs k ≡ Some x)
some_at [] k within = absurd (omega arith)
some_at (x ∷ xs) zero within = (x, refl)
some_at (x ∷ xs) (suc k) within = some_at xs k (omega arith)
