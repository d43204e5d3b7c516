-- What good dumps come to: each is a fitting list, and a name is of one Write.
use Rattle.std.proofs.Common.{◌≡◌, ℕ, ◌+◌, ◌<◌, true, false, nat_lt, List, [], ◌∷◌, ◌++◌, length, get_or, take, drop, Contains, Some, ap, sym, ◌∙◌, refl, subst, arith, length-append}
use Rattle.std.specs.List.{slice_get}
use Rattle.std.proofs.lemmas.Bool.Decides.{nat_tests}
use Rattle.std.proofs.lemmas.List.{get_or_append_left, take-append-drop, take_all, take-append-le, length-take-le}
use Rattle.std.proofs.lemmas.List.Elements.{Contains-append_left}
use Rattle.std.proofs.lemmas.Option.{slice_get-get_or, slice_get_within, get_or_from_slice_get}
use Rattle.bayou_base.specs.Vector.{Covers}
use Rattle.bayou_lang.specs.declared.write.Write.{Write}
use Rattle.bayou_lang.specs.Laws.Equality.{server-ext, wid-ext}
use Rattle.bayou_lang.specs.Laws.Fitting.{fitting-front, fitting_distinct_wids, fitting_is_prefix_closed}
use Rattle.bayou_lang.specs.Writes.{count_of, AreFitting, Fits, IsSound}
use Rattle.bayou_judge.specs.Evidence.{AreGood}
use Rattle.bayou_judge.specs.History.{dump_of, IsFrontOf}
use Rattle.bayou_judge.specs.Inner.Needs.{IsHeld}

slice_get-middle : {X : Type 0} (before : List X) (x : X) (after : List X) → slice_get (before ++ x ∷ after) (length before) ≡ Some x
slice_get-middle [] x after = refl
slice_get-middle (first ∷ before) x after = slice_get-middle before x after

pub take-middle : {X : Type 0} (before after : List X) → take (length before) (before ++ after) ≡ before
take-middle before after = take-append-le (length before) before after (omega arith) ∙ take_all (length before) before (omega arith)

pub good_is_fitting : (count : ℕ) (dumps : List (List Write)) → AreGood count dumps → (server : ℕ) → AreFitting count (dump_of dumps server)
good_is_fitting count dumps good server before write after same =
    let dump = dump_of dumps server in
    let got : slice_get dump (length before) ≡ Some write = ap (λ list. slice_get list (length before)) same ∙ slice_get-middle before write after in
    let front : take (length before) dump ≡ before = ap (take (length before)) same ∙ take-middle before (write ∷ after) in
    subst (λ held. Fits count held write) front (good server (length before) write got).fits

-- what a list has stands at some place
pub place_of_held : (writes : List Write) (write : Write) → Contains writes write → (at : ℕ) × (slice_get writes at ≡ Some write)
place_of_held writes write has = (has.0, slice_get-get_or writes has.0 write has.1 ∙ ap Some has.2)

pub held_at : (writes : List Write) (at : ℕ) (write : Write) → slice_get writes at ≡ Some write → Contains writes write
held_at writes at write got = (at, slice_get_within writes at write got, get_or_from_slice_get writes at write write got)

-- in a fitting list a name stands at one place
pub one_place : (count : ℕ) (writes : List Write) (i j : ℕ) (a b : Write) → AreFitting count writes → slice_get writes i ≡ Some a → slice_get writes j ≡ Some b → a.wid ≡ b.wid → i ≡ j
one_place count writes i j a b fitting at_i at_j same =
    let distinct = fitting_distinct_wids count writes fitting in
    let within_i : i < length writes = slice_get_within writes i a at_i in
    let within_j : j < length writes = slice_get_within writes j b at_j in
    let is_i : get_or writes i a ≡ a = get_or_from_slice_get writes i a a at_i in
    let is_j : get_or writes j a ≡ b = get_or_from_slice_get writes j b a at_j in
    elim (nat_lt i j) as (λ t. nat_lt i j ≡ t → i ≡ j) [
      | true ↦ λ is.
          let less : i < j = grind (arith, nat_tests) in
          absurd (distinct i j a less within_j (ap (λ (w : Write). w.wid) is_i ∙ same ∙ sym (ap (λ (w : Write). w.wid) is_j)))
      | false ↦ λ isnt.
          elim (nat_lt j i) as (λ t. nat_lt j i ≡ t → i ≡ j) [
            | true ↦ λ is.
                let less : j < i = grind (arith, nat_tests) in
                absurd (distinct j i a less within_i (ap (λ (w : Write). w.wid) is_j ∙ sym same ∙ sym (ap (λ (w : Write). w.wid) is_i)))
            | false ↦ λ not_more. grind (arith, nat_tests)
          ] refl
    ] refl

-- in good dumps a name is of one Write
pub one_write : (count : ℕ) (dumps : List (List Write)) → AreGood count dumps → (a b : Write) → IsHeld dumps a → IsHeld dumps b → a.wid ≡ b.wid → a ≡ b
one_write count dumps good a b has_a has_b same =
    let s = has_a.0 in
    let t = has_b.0 in
    let at_a = place_of_held (dump_of dumps s) a has_a.1 in
    let at_b = place_of_held (dump_of dumps t) b has_b.1 in
    elim (nat_lt s t) as (λ u. nat_lt s t ≡ u → a ≡ b) [
      | true ↦ λ is.
          let less : s < t = grind (arith, nat_tests) in
          let held = (good t at_b.0 b at_b.1).same s less has_a.1.0 a has_a.1.1 in
          let here : get_or (dump_of dumps s) has_a.1.0 a ≡ a = has_a.1.2 in
          subst (λ (w : Write). w.wid ≡ b.wid → w ≡ b) here held same
      | false ↦ λ isnt.
          elim (nat_lt t s) as (λ u. nat_lt t s ≡ u → a ≡ b) [
            | true ↦ λ is.
                let less : t < s = grind (arith, nat_tests) in
                let held = (good s at_a.0 a at_a.1).same t less has_b.1.0 b has_b.1.1 in
                let here : get_or (dump_of dumps t) has_b.1.0 b ≡ b = has_b.1.2 in
                sym (subst (λ (w : Write). w.wid ≡ a.wid → w ≡ a) here held (sym same))
            | false ↦ λ not_more.
                let one : s ≡ t = grind (arith, nat_tests) in
                let moved : slice_get (dump_of dumps t) at_a.0 ≡ Some a = ap (λ server. slice_get (dump_of dumps server) at_a.0) (sym one) ∙ at_a.1 in
                let place : at_a.0 ≡ at_b.0 = one_place count (dump_of dumps t) at_a.0 at_b.0 a b (good_is_fitting count dumps good t) moved at_b.1 same in
                let both : Some a ≡ Some b = sym moved ∙ ap (slice_get (dump_of dumps t)) place ∙ at_b.1 in
                cc
          ] refl
    ] refl

-- a front of a good dump is a fitting list
pub front_is_fitting : (count : ℕ) (dumps : List (List Write)) → AreGood count dumps → (server : ℕ) (database : List Write) → IsFrontOf (dump_of dumps server) database → AreFitting count database
front_is_fitting count dumps good server database front = fitting-front count database front.0 (subst (AreFitting count) front.1 (good_is_fitting count dumps good server))

pub front_is_held : (dumps : List (List Write)) (server : ℕ) (database : List Write) (write : Write) → IsFrontOf (dump_of dumps server) database → Contains database write → Contains (dump_of dumps server) write
front_is_held dumps server database write front has = subst (λ list. Contains list write) (sym front.1) (Contains-append_left database front.0 write has)

-- a front counts each Write that it has
pub front_counts : (count : ℕ) (dumps : List (List Write)) → AreGood count dumps → (server : ℕ) (database : List Write) → IsFrontOf (dump_of dumps server) database
    → (write : Write) → Contains database write → Covers (count_of database) write.wid.origin.index write.wid.seq
front_counts count dumps good server database front write has =
    let closed = fitting_is_prefix_closed count database (front_is_fitting count dumps good server database front) in
    subst (λ (w : Write). Covers (count_of database) w.wid.origin.index w.wid.seq) has.2 (closed.none_beyond has.0 write has.1)

-- and has each held Write that it counts
pub front_has : (count : ℕ) (dumps : List (List Write)) → AreGood count dumps → (server : ℕ) (database : List Write) → IsFrontOf (dump_of dumps server) database
    → (write : Write) → IsHeld dumps write → Covers (count_of database) write.wid.origin.index write.wid.seq → Contains database write
front_has count dumps good server database front write held covered =
    let closed = fitting_is_prefix_closed count database (front_is_fitting count dumps good server database front) in
    let found = closed.none_missing write.wid.origin.index write.wid.seq write.wid.in_range.0 covered in
    let other = found.1 in
    let has : Contains database other = (found.0, found.2, found.3) in
    let named : other.wid ≡ write.wid = wid-ext other.wid write.wid (server-ext other.wid.origin write.wid.origin found.4.0) found.4.1 in
    let one : other ≡ write = one_write count dumps good other write (server, front_is_held dumps server database other front has) held named in
    subst (Contains database) one has

-- the first so many Writes are a front
pub front_of_dump : (dump : List Write) (size : ℕ) → IsFrontOf dump (take size dump)
front_of_dump dump size = (drop size dump, sym (take-append-drop size dump))

-- what a front has at a place the list has there
pub slice_get_front : (dump database : List Write) (at : ℕ) (write : Write) → IsFrontOf dump database → slice_get database at ≡ Some write → slice_get dump at ≡ Some write
slice_get_front dump database at write front got =
    let within : at < length database = slice_get_within database at write got in
    let bound : at < length dump = omega (arith, ap length front.1, length-append database front.0) in
    slice_get-get_or dump at write bound
    ∙ ap Some (ap (λ list. get_or list at write) front.1 ∙ get_or_append_left database front.0 write at within ∙ get_or_from_slice_get database at write write got)

-- the front up to a place has what stands there
pub last_of_front : (dump : List Write) (place : ℕ) (write : Write) → slice_get dump place ≡ Some write → Contains (take (place + 1) dump) write
last_of_front dump place write got =
    let within : place < length dump = slice_get_within dump place write got in
    let size : length (take (place + 1) dump) ≡ place + 1 = length-take-le (place + 1) dump (omega arith) in
    let inside : place < length (take (place + 1) dump) = omega arith in
    (place, inside, sym (get_or_append_left (take (place + 1) dump) (drop (place + 1) dump) write place inside) ∙ ap (λ list. get_or list place write) (take-append-drop (place + 1) dump) ∙ get_or_from_slice_get dump place write write got)

pub place_within : (writes : List Write) (place : ℕ) (write : Write) → slice_get writes place ≡ Some write → place < length writes
place_within writes place write got = slice_get_within writes place write got

-- each good dump is sound
pub good_is_sound : (count : ℕ) (dumps : List (List Write)) → AreGood count dumps → (server : ℕ) → IsSound server count (dump_of dumps server)
good_is_sound count dumps good server = record {
  fitting = good_is_fitting count dumps good server;
  own = λ before write after same is_own.
      let dump = dump_of dumps server in
      let got : slice_get dump (length before) ≡ Some write = ap (λ list. slice_get list (length before)) same ∙ slice_get-middle before write after in
      let front : take (length before) dump ≡ before = ap (take (length before)) same ∙ take-middle before (write ∷ after) in
      subst (λ held. write.deps ≡ count_of held) front ((good server (length before) write got).own is_own);
}
