-- The shares of a book, and what is entered.
use Rattle.std.proofs.Common.{◌≡◌, ◌≢◌, inl, inr, true, false, not, ◌==◌, ℕ, ◌+◌, ◌<◌, ◌≤◌, List, [], ◌∷◌, ◌++◌, None, Some, set, length, get_or, refl, sym, ap, subst, ◌∙◌, arith}
use Rattle.std.proofs.lemmas.Bool.{cases_lt}
use Rattle.std.proofs.lemmas.Bool.Decides.{nat_tests}
use Rattle.std.proofs.lemmas.List.{get_or-set_other, get_or-set_same, length-set}
use Rattle.std.proofs.lemmas.Option.{get_or_from_slice_get, slice_get-get_or, slice_get_within}
use Rattle.bayou_audit.specs.Totals.{Booked, IsExact, Shared, counted, with_claim, with_entry, with_void}
use Rattle.bayou_audit.specs.declared.totals.Totals.{Totals}
use Rattle.bayou_base.specs.declared.entry.What.{What}
use Rattle.bayou_base.specs.declared.entry.What.TheVariants as whats
use Rattle.bayou_base.specs.declared.entry.Entry.{Entry}
use Rattle.bayou_base.specs.declared.limits.TheConstants.{SESSIONS}
use Rattle.bayou_base.specs.declared.session.SessionId.{SessionId}
use Rattle.bayou_world.specs.declared.reply.Reply.TheVariants as replies
use Rattle.bayou_world.specs.declared.state.State.{State}
use Rattle.bayou_world.specs.Inner.WorldBooks.{AreOfSessions, Booking, IsBookOf, TakesOldest}
use Rattle.bayou_world.specs.Inner.Good.{IsGoodMachine}
use Rattle.bayou_world.specs.Inner.Tie.{IsOf}
use Rattle.bayou_world.specs.Machine.{Machine, with_session}
use Rattle.bayou_world.specs.Steps.{FileStep}
use Rattle.bayou_world.specs.Tags.{AreTagged}
use Rattle.bayou_world.proofs.Lists.{same_number}

-- the share that is found at its place is of the session of that number
pub of_session : (shares : List Shared) (at : ℕ) (share : Shared) → AreOfSessions shares → at < SESSIONS → share ≡ get_or shares at share → share.session.index ≡ at
of_session shares at share are within found =
    are.in_order at share (slice_get-get_or shares at share (omega (arith, are.one_each)) ∙ ap Some (sym found))

-- a share that is put back where it was is still of that session
pub put_back : (shares : List Shared) (at : ℕ) (old new : Shared) → AreOfSessions shares → at < SESSIONS → old ≡ get_or shares at old → new.session ≡ old.session → AreOfSessions (set shares at new)
put_back shares at old new are within found same = record {
  one_each = length-set shares at new ∙ are.one_each;
  in_order = λ i share is.
      let reads = get_or_from_slice_get (set shares at new) i share share is in
      elim (same_number i at) as (λ _. share.session.index ≡ i) [
        | inl here ↦
            let one : new ≡ share = sym (get_or-set_same shares at new share (omega (arith, are.one_each, within))) ∙ ap (λ j. get_or (set shares at new) j share) (sym here) ∙ reads in
            subst (λ (s : Shared). s.session.index ≡ i) one (ap (λ (s : SessionId). s.index) same ∙ of_session shares at old are within found ∙ sym here)
        | inr differs ↦
            let inside = slice_get_within (set shares at new) i share is in
            are.in_order i share (slice_get-get_or shares i share (omega (arith, inside, length-set shares at new))
            ∙ ap Some (sym (get_or-set_other shares at i new share (λ same_place. differs (same_place))) ∙ reads))
      ];
}

-- an entry is entered
pub files : (old new : State) (who : ℕ) (entry : Entry) (booking : Booking) (inside claimed filed : Booked) → TakesOldest old who (Some entry) new → record { capacity = inside.capacity; entries = inside.entries } ≡ booking
    → inside.totals.slips ≡ 0 → IsExact inside → ¬ (length inside.entries + inside.totals.slips ≡ inside.capacity) → claimed ≡ with_claim inside → filed ≡ with_entry claimed entry
    → (machine : Machine) → IsGoodMachine machine → AreTagged machine → IsOf old machine → IsBookOf booking machine
    → (next : Machine) × FileStep machine who replies.Filed next × IsOf new next × IsBookOf (record { capacity = filed.capacity; entries = filed.entries }) next
files old new who entry booking inside claimed filed takes view none exact not_full claims is machine good tagged tied book =
    let there = takes machine good tied in
    let session = there.0 in
    let later = there.1 in
    let capacity : inside.capacity ≡ machine.capacity = ap (λ (b : Booking). b.capacity) view ∙ book.capacity in
    let entries : inside.entries ≡ machine.filed = ap (λ (b : Booking). b.entries) view ∙ book.entries in
    let less : length inside.entries < inside.capacity = less_than (length inside.entries) inside.capacity (omega (arith, exact.room, none)) (λ same. not_full (omega (arith, same, none))) in
    let room : length machine.filed < machine.capacity = omega (arith, less, capacity, ap length entries) in (
      record (with_session machine who (record session { waiting = later })) { filed = machine.filed ++ entry ∷ [] },
      FileStep.filed session entry later (record { there = there.2; waits = there.3; room = room }) refl refl,
      of_filed (with_session machine who (record session { waiting = later })) there.5,
      record {
        capacity = ap (λ (b : Booked). b.capacity) is ∙ ap (λ (b : Booked). b.capacity) claims ∙ capacity;
        entries = ap (λ (b : Booked). b.entries) is ∙ ap (λ (b : Booked). b.entries ++ entry ∷ []) claims ∙ ap (λ list. list ++ entry ∷ []) entries;
      },
    )
  where
    less_than : (a b : ℕ) → a ≤ b → a ≢ b → a < b
    less_than a b most differs = elim (cases_lt a b) as (λ _. a < b) [
      | inl less ↦ less
      | inr not_less ↦ absurd (differs (omega (arith, most, not_less)))
    ]

    of_filed : (m : Machine) → IsOf new m → IsOf new (record m { filed = machine.filed ++ entry ∷ [] })
    of_filed m is_of = record {
      many = is_of.many;
      servers_are = is_of.servers_are;
      seats = is_of.seats;
      sessions_are = is_of.sessions_are;
      offers_are = is_of.offers_are;
      items_are = is_of.items_are;
      served_are = is_of.served_are;
    }

-- nothing waits, and the book is as it was
pub none_files : (old new : State) (who : ℕ) (booking : Booking) (inside claimed voided : Booked) → TakesOldest old who None new → record { capacity = inside.capacity; entries = inside.entries } ≡ booking
    → claimed ≡ with_claim inside → voided ≡ with_void claimed
    → (machine : Machine) → IsGoodMachine machine → AreTagged machine → IsOf old machine → IsBookOf booking machine
    → (next : Machine) × FileStep machine who replies.Skipped next × IsOf new next × IsBookOf (record { capacity = voided.capacity; entries = voided.entries }) next
none_files old new who booking inside claimed voided takes view claims is machine good tagged tied book =
    let there = takes machine good tied in (
      machine,
      FileStep.skipped (λ session entry later may. there.0 session entry later may.there may.waits) refl refl,
      there.1,
      record {
        capacity = ap (λ (b : Booked). b.capacity) is ∙ ap (λ (b : Booked). b.capacity) claims ∙ ap (λ (b : Booking). b.capacity) view ∙ book.capacity;
        entries = ap (λ (b : Booked). b.entries) is ∙ ap (λ (b : Booked). b.entries) claims ∙ ap (λ (b : Booking). b.entries) view ∙ book.entries;
      },
    )

-- the book is full, and as it was
pub full_files : (state : State) (who : ℕ) (booking : Booking) (inside claimed : Booked) → record { capacity = inside.capacity; entries = inside.entries } ≡ booking
    → length inside.entries + inside.totals.slips ≡ inside.capacity → inside.totals.slips ≡ 0 → claimed ≡ inside → (machine : Machine) → IsOf state machine → IsBookOf booking machine
    → (next : Machine) × FileStep machine who replies.Skipped next × IsOf state next × IsBookOf (record { capacity = claimed.capacity; entries = claimed.entries }) next
full_files state who booking inside claimed view full none same machine tied book =
    let capacity : inside.capacity ≡ machine.capacity = ap (λ (b : Booking). b.capacity) view ∙ book.capacity in
    let entries : inside.entries ≡ machine.filed = ap (λ (b : Booking). b.entries) view ∙ book.entries in (
      machine,
      FileStep.skipped (λ session entry later may. omega (arith, full, none, may.room, capacity, ap length entries)) refl refl,
      tied,
      record { capacity = ap (λ (b : Booked). b.capacity) same ∙ capacity; entries = ap (λ (b : Booked). b.entries) same ∙ entries },
    )

-- what waits is the session's own
pub never : (old new : State) (who : ℕ) (entry : Entry) (id : SessionId) → TakesOldest old who (Some entry) new → id.index ≡ who → true ≡ not (entry.session.index == id.index)
    → (machine : Machine) → IsGoodMachine machine → IsOf old machine → ⊥
never old new who entry id takes named differs machine good tied =
    let there = takes machine good tied in
    let same : entry.session.index ≡ id.index = there.4 ∙ sym named in
    let is : (entry.session.index == id.index) ≡ true = grind (arith, nat_tests) in
    let both : true ≡ false = differs ∙ ap not is in
    absurd (cc)

-- an entry that is counted changes no number of slips
pub counted_slips : (what : What) (totals : Totals) → (counted what totals).slips ≡ totals.slips
counted_slips (whats.Read key vector) totals = refl
counted_slips (whats.Write wid stamp deps) totals = refl
counted_slips whats.Refused totals = refl
