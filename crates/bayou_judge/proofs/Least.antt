-- The first breach that a pass meets is the least, and where it meets none the guarantee holds.
use Rattle.std.proofs.Common.{◌≡◌, ◌⊎◌, inl, inr, ℕ, ◌<◌, ◌≤◌, true, false, List, ◌∷◌, length, get_or, take, slice_index, Contains, Option, Some, None, ap, sym, ◌∙◌, refl, subst, arith}
use Rattle.std.specs.Coded.{le_prop}
use Rattle.std.specs.List.{slice_get}
use Rattle.std.proofs.lemmas.Bool.{cases_lt}
use Rattle.std.proofs.lemmas.List.{get_or-take, length-take-le}
use Rattle.std.proofs.lemmas.Option.{slice_get-get_or, slice_get_within, get_or_from_slice_get}
use Rattle.bayou_base.specs.Order.{is_before}
use Rattle.bayou_base.specs.declared.entry.Entry.{Entry}
use Rattle.bayou_base.specs.declared.entry.What.{What}
use Rattle.bayou_base.specs.declared.entry.What.TheVariants as whats
use Rattle.bayou_base.specs.declared.limits.TheConstants.{SESSIONS}
use Rattle.bayou_base.specs.declared.session.SessionId.{SessionId}
use Rattle.bayou_base.specs.declared.wid.Wid.{Wid}
use Rattle.bayou_lang.specs.declared.write.Write.{Write}
use Rattle.bayou_lang.specs.Writes.{count_of}
use Rattle.bayou_judge.specs.declared.breach.Breach.{Breach}
use Rattle.bayou_judge.specs.declared.breach.Guarantee.{Guarantee}
use Rattle.bayou_judge.specs.declared.breach.Guarantee.TheVariants as guarantees
use Rattle.bayou_judge.specs.Answers.{Surveys}
use Rattle.bayou_judge.specs.Breaches.{is_less, key_of, rank, Holds, IsBreach, Violates}
use Rattle.bayou_judge.specs.Evidence.{AreGenuine, AreGood}
use Rattle.bayou_judge.specs.Guarantees.{PrecedesIn}
use Rattle.bayou_judge.specs.History.{dump_of, history_of, IsEntryAt, IsFrontOf, IsReadFrom, IsWriteOf}
use Rattle.bayou_judge.specs.Inner.Index.{Tables}
use Rattle.bayou_judge.specs.Inner.Needs.{wid_key, AreKeptTo, Fails, IsBreachAt, IsChecked, IsFirst, IsFirstBreach, IsHeld, IsKept, IsSecond}
use Rattle.bayou_judge.proofs.Faults.{less-later}
use Rattle.bayou_judge.proofs.Good.{front_counts, front_has, front_is_held}
use Rattle.bayou_judge.proofs.Pairs.{fault_of_violation, violation_of_fault, HaveFault}

-- a session is its index
pub session-ext : (a b : SessionId) → a.index ≡ b.index → a ≡ b
session-ext a b same =
    let made : (n : ℕ) → n < SESSIONS → SessionId = λ n h. record { index = n; in_range = h } in
    let P : ℕ → Type 0 = λ n. (h : n < SESSIONS) → made a.index a.in_range ≡ made n h in
    subst P same (λ h. ap (made a.index) (le_prop a.in_range h)) b.in_range

-- within a session places rise
pub places_rise : (count : ℕ) (dumps : List (List Write)) (entries : List Entry) → AreGenuine count dumps entries → (i j : ℕ) (a b : Entry) → slice_get entries i ≡ Some a → slice_get entries j ≡ Some b
    → i < j → a.session.index ≡ b.session.index → a.place < b.place
places_rise count dumps entries genuine i j a b at_i at_j before same =
    let size : length (take j entries) ≡ j = length-take-le j entries (let within = slice_get_within entries j b at_j in omega arith) in
    let rises = (genuine j b at_j).place i a (omega arith) in
    let is : get_or (take j entries) i a ≡ a = get_or-take j entries i a before ∙ get_or_from_slice_get entries i a a at_i in
    subst (λ (one : Entry). one.session ≡ b.session → one.place < b.place) is rises (session-ext a.session b.session same)

-- so the order of places is that of the entries
pub place_order : (count : ℕ) (dumps : List (List Write)) (entries : List Entry) → AreGenuine count dumps entries → (i j : ℕ) (a b : Entry) → slice_get entries i ≡ Some a → slice_get entries j ≡ Some b
    → a.session.index ≡ b.session.index → a.place < b.place → i < j
place_order count dumps entries genuine i j a b at_i at_j same less =
    elim (cases_lt i j) as (λ _. i < j) [
      | inl before ↦ before
      | inr above ↦
          elim (cases_lt j i) as (λ _. i < j) [
            | inl after ↦ let more = places_rise count dumps entries genuine j i b a at_j at_i after (sym same) in absurd (omega arith)
            | inr equal ↦
                let one : i ≡ j = omega arith in
                let both : Some a ≡ Some b = sym at_i ∙ ap (slice_get entries) one ∙ at_j in
                let entry : a ≡ b = cc in
                let place : a.place ≡ b.place = ap (λ (e : Entry). e.place) entry in
                absurd (omega arith)
          ]
    ]

-- what some entry before the later one has with it, none has where it is kept
pub kept_fails : (dumps : List (List Write)) (guarantee : Guarantee) (session : ℕ) (entries : List Entry) (i at : ℕ) (first second : Entry) → IsKept dumps guarantee session (take at entries) second
    → slice_get entries i ≡ Some first → i < at → at ≤ length entries → IsFirst guarantee session first → (server : ℕ) (wid : Wid) → Fails dumps first second server wid → ⊥
kept_fails dumps guarantee session entries i at first second kept got before within is_first =
    let size : length (take at entries) ≡ at = length-take-le at entries within in
    let is : get_or (take at entries) i first ≡ first = get_or-take at entries i first before ∙ get_or_from_slice_get entries i first first got in
    subst (λ one. IsFirst guarantee session one → (server : ℕ) (wid : Wid) → Fails dumps one second server wid → ⊥) is (kept i first (omega arith)) is_first

-- where no entry is broken by an earlier one, nothing violates the guarantee
none_violates : (count : ℕ) (dumps : List (List Write)) (entries : List Entry) → AreGenuine count dumps entries → (guarantee : Guarantee) (session : ℕ) → AreKeptTo dumps entries guarantee session (length entries)
    → (first second server : ℕ) (wid : Wid) → first < second → Violates (history_of entries dumps) guarantee session first second server wid → ⊥
none_violates count dumps entries genuine guarantee session kept first second server wid before violates =
    let both = fault_of_violation entries dumps guarantee session first second server wid violates in
    let i = both.one_at.0.0 in
    let j = both.other_at.0.0 in
    let at_i : slice_get entries i ≡ Some both.one = slice_get-get_or entries i both.one both.one_at.0.1 ∙ ap Some both.one_at.0.2 in
    let at_j : slice_get entries j ≡ Some both.other = slice_get-get_or entries j both.other both.other_at.0.1 ∙ ap Some both.other_at.0.2 in
    let order : i < j = place_order count dumps entries genuine i j both.one both.other at_i at_j (both.one_at.1 ∙ sym both.other_at.1) (omega (arith, both.one_at.2, both.other_at.2, before)) in
    let within : j < length entries = both.other_at.0.1 in
    kept_fails dumps guarantee session entries i j both.one both.other (kept j both.other within at_j (record { session_is = both.other_at.1; kind = both.other_is })) at_i order (omega arith)
    (record { session_is = both.one_at.1; kind = both.one_is }) server wid both.fails

-- whether a front has a held Write
front_decides : (count : ℕ) (dumps : List (List Write)) → AreGood count dumps → (server : ℕ) (database : List Write) → IsFrontOf (dump_of dumps server) database → (write : Write) → IsHeld dumps write
    → Contains database write ⊎ (Contains database write → ⊥)
front_decides count dumps good server database front write held =
    elim (cases_lt (slice_index (count_of database) write.wid.origin.index) write.wid.seq) as (λ _. Contains database write ⊎ (Contains database write → ⊥)) [
      | inl past ↦ inr (λ has. let counted = front_counts count dumps good server database front write has in absurd (omega arith))
      | inr within ↦ inl (front_has count dumps good server database front write held within)
    ]

precedes_decides : (count : ℕ) (dumps : List (List Write)) → AreGood count dumps → (server : ℕ) (database : List Write) → IsFrontOf (dump_of dumps server) database → (write later : Write) → IsHeld dumps write
    → ((PrecedesIn database write later → ⊥) → ⊥) → PrecedesIn database write later
precedes_decides count dumps good server database front write later held not_not has =
    elim (front_decides count dumps good server database front write held) as (λ _. Contains database write × (is_before write.stamp later.stamp ≡ true)) [
      | inl there ↦ (
        there,
        elim (is_before write.stamp later.stamp) as (λ t. is_before write.stamp later.stamp ≡ t → t ≡ true) [
          | true ↦ λ is. refl
          | false ↦ λ isnt. absurd (not_not (λ precedes. let yes = (precedes has).1 in absurd (cc)))
        ] refl,
      )
      | inr absent ↦ absurd (not_not (λ precedes. absent (precedes has).0))
    ]

read_front : (dump : List Write) (what : What) (database : List Write) → IsReadFrom dump what database → IsFrontOf dump database
read_front dump (whats.Read key vector) database from = from.0
read_front dump (whats.Write wid stamp deps) database from = absurd from
read_front dump whats.Refused database from = absurd from

write_held : (dump : List Write) (what : What) (write : Write) → IsWriteOf dump what write → Contains dump write
write_held dump (whats.Read key vector) write is = absurd is
write_held dump (whats.Write wid stamp deps) write is = is.0
write_held dump whats.Refused write is = absurd is

-- where nothing violates the guarantee it holds
holds : (count : ℕ) (dumps : List (List Write)) (entries : List Entry) → AreGood count dumps → (guarantee : Guarantee) (session : ℕ)
    → ((first second server : ℕ) (wid : Wid) → first < second → Violates (history_of entries dumps) guarantee session first second server wid → ⊥) → Holds (history_of entries dumps) guarantee session
holds count dumps entries good guarantees.ReadYourWrites session none = λ first second server write database before wrote read.
    let held : IsHeld dumps write = (wrote.0.server.index, write_held (dump_of dumps wrote.0.server.index) wrote.0.what write wrote.2) in
    elim (front_decides count dumps good server database (read_front (dump_of dumps server) read.0.what database read.3) write held) as (λ _. Contains database write) [
      | inl has ↦ has
      | inr lacks ↦ absurd (none first second server write.wid before (write, database, wrote, read, refl, lacks))
    ]
holds count dumps entries good guarantees.MonotonicReads session none = λ first second other server earlier later before saw read write has.
    let held : IsHeld dumps write = (other, front_is_held dumps other earlier write (read_front (dump_of dumps other) saw.0.what earlier saw.3) has) in
    elim (front_decides count dumps good server later (read_front (dump_of dumps server) read.0.what later read.3) write held) as (λ _. Contains later write) [
      | inl there ↦ there
      | inr lacks ↦ absurd (none first second server write.wid before (other, earlier, later, write, saw, read, has, refl, lacks))
    ]
holds count dumps entries good guarantees.WritesFollowReads session none = λ first second server database write before saw wrote earlier has other held_there front.
    let held : IsHeld dumps earlier = (server, front_is_held dumps server database earlier (read_front (dump_of dumps server) saw.0.what database saw.3) has) in
    precedes_decides count dumps good other held_there front earlier write held
    (λ fails. none first second other earlier.wid before (server, database, write, earlier, saw, wrote, has, refl, (held_there, front, fails)))
holds count dumps entries good guarantees.MonotonicWrites session none = λ first second earlier later before one two other database front.
    let held : IsHeld dumps earlier = (one.0.server.index, write_held (dump_of dumps one.0.server.index) one.0.what earlier one.2) in
    precedes_decides count dumps good other database front earlier later held
    (λ fails. none first second other earlier.wid before (earlier, later, one, two, refl, (database, front, fails)))

-- the breach that is met first is one
pub breach_is : (count : ℕ) (dumps : List (List Write)) (entries : List Entry) → AreGenuine count dumps entries → (guarantee : Guarantee) (session at : ℕ) (breach : Breach) → IsBreachAt dumps entries guarantee session at breach
    → IsBreach (history_of entries dumps) breach
breach_is count dumps entries genuine guarantee session at breach is =
    let first = is.first in
    let second = is.second in
    let in_session : first.session.index ≡ second.session.index = is.both.first_is.session_is ∙ sym is.second_is.session_is in
    let rises = places_rise count dumps entries genuine is.place at first second is.first_at is.second_at is.before in_session in
    let one_at : IsEntryAt entries session breach.first first =
    ((is.place, slice_get_within entries is.place first is.first_at, get_or_from_slice_get entries is.place first first is.first_at), is.both.first_is.session_is, sym is.both.first_place) in
    let other_at : IsEntryAt entries session breach.second second =
    ((at, slice_get_within entries at second is.second_at, get_or_from_slice_get entries at second second is.second_at), is.second_is.session_is, sym is.both.second_place) in
    let violates = violation_of_fault entries dumps guarantee session breach.first breach.second breach.server.index breach.wid
    (record { one = first; other = second; one_at = one_at; other_at = other_at; one_is = is.both.first_is.kind; other_is = is.second_is.kind; fails = is.both.fault.0 }) in
    record {
      in_order = omega (arith, rises, is.both.first_place, is.both.second_place);
      violates = subst (λ s. Violates (history_of entries dumps) breach.guarantee s breach.first breach.second breach.server.index breach.wid) (sym is.both.session_is)
          (subst (λ g. Violates (history_of entries dumps) g session breach.first breach.second breach.server.index breach.wid) (sym is.both.guarantee_is) violates);
    }

-- numbers that are equal to others in this order
moved_lt : (a b c d : ℕ) → a < b → c ≡ a → b ≡ d → c ≤ d
moved_lt a b c d less same other = omega arith

moved_eq : (a b c d : ℕ) → a ≡ b → c ≡ a → b ≡ d → c ≤ d
moved_eq a b c d equal same other = omega arith

moved_not : (a b c d : ℕ) → a < b → c ≡ a → b ≡ d → d ≡ c → ⊥
moved_not a b c d less same other equal = omega arith

both_le : (a b : ℕ) → a ≤ b → b ≤ a → a ≡ b
both_le a b here there = omega arith

equal_le : (a b : ℕ) → a ≡ b → b ≤ a
equal_le a b same = omega arith

within_lt : (i j k : ℕ) → i < j → j < k → i < k
within_lt i j k here there = omega arith

lt_le : (j k : ℕ) → j < k → j ≤ k
lt_le j k here = omega arith

-- two entries of one session: the one at the later place in the list is at the later place in the session, or they are one
pub in_place : (count : ℕ) (dumps : List (List Write)) (entries : List Entry) → AreGenuine count dumps entries → (i j : ℕ) (a b : Entry) (here there : ℕ) → slice_get entries i ≡ Some a → slice_get entries j ≡ Some b
    → i ≤ j → a.session.index ≡ b.session.index → here ≡ a.place → b.place ≡ there → (here ≤ there) × (there ≡ here → a ≡ b)
in_place count dumps entries genuine i j a b here there at_i at_j order same is_a is_b =
    elim (cases_lt i j) as (λ _. (here ≤ there) × (there ≡ here → a ≡ b)) [
      | inl less ↦
          let rises = places_rise count dumps entries genuine i j a b at_i at_j less same in
          (moved_lt a.place b.place here there rises is_a is_b, λ equal. absurd (moved_not a.place b.place here there rises is_a is_b equal))
      | inr above ↦
          let one : i ≡ j = both_le i j order above in
          let both : Some a ≡ Some b = sym at_i ∙ ap (slice_get entries) one ∙ at_j in
          let entry : a ≡ b = cc in
          (moved_eq a.place b.place here there (ap (λ (e : Entry). e.place) entry) is_a is_b, λ equal. entry)
    ]

-- the later entry of a fault isn't before the first that is broken
second_order : (dumps : List (List Write)) (entries : List Entry) (guarantee : Guarantee) (session at i j : ℕ) (one other : Entry) → AreKeptTo dumps entries guarantee session at
    → slice_get entries i ≡ Some one → slice_get entries j ≡ Some other → i < j → IsFirst guarantee session one → IsSecond guarantee session other → (server : ℕ) (wid : Wid) → Fails dumps one other server wid → at ≤ j
second_order dumps entries guarantee session at i j one other kept at_i at_j order first_of second_of server wid fails =
    elim (cases_lt j at) as (λ _. at ≤ j) [
      | inl less ↦ absurd (kept_fails dumps guarantee session entries i j one other (kept j other less at_j second_of) at_i order (lt_le j (length entries) (slice_get_within entries j other at_j)) first_of server wid fails)
      | inr above ↦ above
    ]

pub first_order : (dumps : List (List Write)) (entries : List Entry) (guarantee : Guarantee) (session place i at : ℕ) (one second : Entry) → IsKept dumps guarantee session (take place entries) second → place < at → at < length entries
    → slice_get entries i ≡ Some one → IsFirst guarantee session one → (server : ℕ) (wid : Wid) → Fails dumps one second server wid → place ≤ i
first_order dumps entries guarantee session place i at one second none_before before within at_i first_of server wid fails =
    elim (cases_lt i place) as (λ _. place ≤ i) [
      | inl less ↦ absurd (kept_fails dumps guarantee session entries i place one second none_before at_i less (lt_le place (length entries) (within_lt place at (length entries) before within)) first_of server wid fails)
      | inr above ↦ above
    ]

-- keys of breaches, part by part
pub keys : (s t q r a b c d : ℕ) (xs ys : List ℕ) → t ≡ s → r ≡ q → a ≤ b → (b ≡ a → (c ≤ d) × (d ≡ c → is_less xs ys ≡ false)) → is_less (t ∷ r ∷ b ∷ d ∷ xs) (s ∷ q ∷ a ∷ c ∷ ys) ≡ false
keys s t q r a b c d xs ys sessions ranks seconds rest =
    less-later s t (r ∷ b ∷ d ∷ xs) (q ∷ a ∷ c ∷ ys) (equal_le t s sessions) (λ _.
    less-later q r (b ∷ d ∷ xs) (a ∷ c ∷ ys) (equal_le r q ranks) (λ _.
    less-later a b (d ∷ xs) (c ∷ ys) seconds (λ places.
    less-later c d xs ys (rest places).0 (rest places).1)))

-- a breach that is met first against a fault of other entries
least_against : (count : ℕ) (dumps : List (List Write)) (entries : List Entry) → AreGenuine count dumps entries → (guarantee : Guarantee) (session at : ℕ) (breach : Breach) → AreKeptTo dumps entries guarantee session at
    → IsBreachAt dumps entries guarantee session at breach → (first second server : ℕ) (wid : Wid) → first < second → HaveFault entries dumps guarantee session first second server wid
    → (breach.second ≤ second) × (second ≡ breach.second → (breach.first ≤ first) × (first ≡ breach.first → is_less (server ∷ wid_key wid) (breach.server.index ∷ wid_key breach.wid) ≡ false))
least_against count dumps entries genuine guarantee session at breach kept is first second server wid in_order both =
    let i = both.one_at.0.0 in
    let j = both.other_at.0.0 in
    let at_i : slice_get entries i ≡ Some both.one = slice_get-get_or entries i both.one both.one_at.0.1 ∙ ap Some both.one_at.0.2 in
    let at_j : slice_get entries j ≡ Some both.other = slice_get-get_or entries j both.other both.other_at.0.1 ∙ ap Some both.other_at.0.2 in
    let places : both.one.place < both.other.place = subst (λ n. n < both.other.place) (sym both.one_at.2) (subst (λ n. first < n) (sym both.other_at.2) in_order) in
    let order : i < j = place_order count dumps entries genuine i j both.one both.other at_i at_j (both.one_at.1 ∙ sym both.other_at.1) places in
    let first_of : IsFirst guarantee session both.one = record { session_is = both.one_at.1; kind = both.one_is } in
    let second_of : IsSecond guarantee session both.other = record { session_is = both.other_at.1; kind = both.other_is } in
    let after = second_order dumps entries guarantee session at i j both.one both.other kept at_i at_j order first_of second_of server wid both.fails in
    let seconds = in_place count dumps entries genuine at j is.second both.other breach.second second is.second_at at_j after (is.second_is.session_is ∙ sym both.other_at.1) is.both.second_place both.other_at.2 in (
      seconds.0,
      λ same.
          let one_second : is.second ≡ both.other = seconds.1 same in
          let fails : Fails dumps both.one is.second server wid = subst (λ e. Fails dumps both.one e server wid) (sym one_second) both.fails in
          let behind = first_order dumps entries guarantee session is.place i at both.one is.second is.none_before is.before (slice_get_within entries at is.second is.second_at) at_i first_of server wid fails in
          let firsts = in_place count dumps entries genuine is.place i is.first both.one breach.first first is.first_at at_i behind (is.both.first_is.session_is ∙ sym both.one_at.1) is.both.first_place both.one_at.2 in
          (firsts.0, λ same_first. is.both.fault.1 server wid (subst (λ e. Fails dumps e is.second server wid) (sym (firsts.1 same_first)) fails)),
    )

-- and the least of its guarantee in its session
breach_is_least : (count : ℕ) (dumps : List (List Write)) (entries : List Entry) → AreGenuine count dumps entries → (guarantee : Guarantee) (session at : ℕ) (breach : Breach) → AreKeptTo dumps entries guarantee session at
    → IsBreachAt dumps entries guarantee session at breach → (other : Breach) → other.guarantee ≡ guarantee → other.session.index ≡ session → IsBreach (history_of entries dumps) other → is_less (key_of other) (key_of breach) ≡ false
breach_is_least count dumps entries genuine guarantee session at breach kept is other same_guarantee same_session other_is =
    let violates = subst (λ s. Violates (history_of entries dumps) guarantee s other.first other.second other.server.index other.wid) same_session
    (subst (λ g. Violates (history_of entries dumps) g other.session.index other.first other.second other.server.index other.wid) same_guarantee other_is.violates) in
    let both = fault_of_violation entries dumps guarantee session other.first other.second other.server.index other.wid violates in
    let against = least_against count dumps entries genuine guarantee session at breach kept is other.first other.second other.server.index other.wid other_is.in_order both in
    keys breach.session.index other.session.index (rank breach.guarantee) (rank other.guarantee) breach.second other.second breach.first other.first
    (other.server.index ∷ wid_key other.wid) (breach.server.index ∷ wid_key breach.wid) (same_session ∙ sym is.both.session_is) (ap rank (same_guarantee ∙ sym is.both.guarantee_is)) against.0 against.1

pub surveys : (count : ℕ) (entries : List Entry) (dumps : List (List Write)) (indexes : List Tables) → IsChecked count entries dumps indexes → (guarantee : Guarantee) (session : ℕ) (result : Option Breach)
    → IsFirstBreach dumps entries guarantee session (length entries) result → Surveys (history_of entries dumps) guarantee session result
surveys count entries dumps indexes checked guarantee session None kept =
    holds count dumps entries checked.evidence.dumps_are guarantee session (none_violates count dumps entries checked.evidence.entries_are guarantee session kept)
surveys count entries dumps indexes checked guarantee session (Some breach) found = record {
  guarantee_is = found.2.both.guarantee_is;
  session_is = found.2.both.session_is;
  is = breach_is count dumps entries checked.evidence.entries_are guarantee session found.0 breach found.2;
  least = breach_is_least count dumps entries checked.evidence.entries_are guarantee session found.0 breach found.1 found.2;
}
