-- The sessions of a script, each in its place.
use Rattle.std.proofs.Common.{◌≡◌, ◌∙◌, inl, inr, ℕ, ◌+◌, ◌<◌, Bool, false, List, [], ◌∷◌, ◌++◌, Option, None, Some, IfSome, IsSome, option_and_then, length, set, get_or, refl, sym, ap, subst, arith, length-set}
use Rattle.std.proofs.lemmas.Bool.{cases_eq, cases_lt}
use Rattle.std.proofs.lemmas.List.{get_or-set_other, get_or-set_same, get_or_append_left, get_or_push, length_push, set-get_or}
use Rattle.std.proofs.lemmas.Option.{get_or_from_slice_get, slice_get-get_or, slice_get_within}
use Rattle.std.specs.List.{slice_get}
use Rattle.std.specs.Option.{option_map}
use Rattle.bayou_base.specs.declared.limits.TheConstants.{SESSIONS}
use Rattle.bayou_base.specs.declared.session.SessionId.{SessionId}
use Rattle.bayou_base.specs.declared.asks.Asks.{Asks}
use Rattle.bayou_base.specs.declared.server.ServerId.{ServerId}
use Rattle.bayou_lang.specs.Laws.Equality.{session-ext}
use Rattle.bayou_machine.specs.Inner.Seated.{AreSeats, AreUnopened}
use Rattle.bayou_machine.specs.Seats.{Asked, Seat, new_seat}
use Rattle.bayou_answers.specs.declared.answer.Answer.{Answer}
use Rattle.bayou_answers.specs.declared.answer.Answer.TheVariants.{NotAgain}
use Rattle.bayou_machine.specs.Run.{AsksAgain, Operates}
use Rattle.bayou_machine.specs.ScriptServer.{IsWrittenAgain}
use Rattle.bayou_machine.specs.Standing.{Standing, asked_by, nothing_asked, seat_of}

-- the session that stands at its place
pub seat_stands : (seats : List Seat) (count at : ℕ) (seat : Seat) → AreSeats count seats → at < SESSIONS → seat ≡ get_or seats at seat → slice_get seats at ≡ Some seat
seat_stands seats count at seat are within found = slice_get-get_or seats at seat (omega (arith, are.one_each)) ∙ ap Some (sym found)

-- what it may ask again it asked of a server that there is
pub asked_within : (seats : List Seat) (count at : ℕ) (seat : Seat) → AreSeats count seats → at < SESSIONS → seat ≡ get_or seats at seat
    → IfSome seat.asked (λ asked. asked.server < count)
asked_within seats count at seat are within found = are.within at seat (seat_stands seats count at seat are within found)

-- whatever stands there otherwise
pub same_default : (seats : List Seat) (count at : ℕ) (seat other : Seat) → AreSeats count seats → at < SESSIONS → seat ≡ get_or seats at seat → get_or seats at other ≡ seat
same_default seats count at seat other are within found = get_or_from_slice_get seats at seat other (seat_stands seats count at seat are within found)

-- it is the session of its name in a standing that has these
pub found_seat : (standing : Standing) (seats : List Seat) (count at : ℕ) (who : SessionId) (seat : Seat) → seats ≡ standing.sessions → AreSeats count seats → at ≡ who.index
    → seat ≡ get_or seats at seat → seat_of standing who ≡ seat
found_seat standing seats count at who seat same are here found =
    ap (λ (l : List Seat). get_or l who.index (new_seat who nothing_asked)) (sym same)
    ∙ same_default seats count who.index seat (new_seat who nothing_asked) are who.in_range (subst (λ (i : ℕ). seat ≡ get_or seats i seat) here found)

-- and what it may ask again is what that session may
pub found_asked : (standing : Standing) (seats : List Seat) (count at : ℕ) (who : SessionId) (seat : Seat) → seats ≡ standing.sessions → AreSeats count seats → at ≡ who.index
    → seat ≡ get_or seats at seat → asked_by standing who.index ≡ seat.asked
found_asked standing seats count at who seat same are here found =
    ap (λ (l : List Seat). option_and_then (λ s. s.asked) (slice_get l who.index)) (sym same)
    ∙ ap (λ (s : Option Seat). option_and_then (λ s. s.asked) s) (seat_stands seats count who.index seat are who.in_range (subst (λ (i : ℕ). seat ≡ get_or seats i seat) here found))

-- a session that is put in its place again changes nothing
pub same_seats : (seats : List Seat) (at : ℕ) (seat : Seat) → seat ≡ get_or seats at seat → set seats at seat ≡ seats
same_seats seats at seat found = ap (set seats at) found ∙ set-get_or seats at seat

-- the server that is told to be asked again is one that there is
pub asked_there : (asked : Option Asked) (server : ServerId) (count : ℕ) → option_map (λ (s : ServerId). s.index) (Some server) ≡ option_map (λ (a : Asked). a.server) asked
    → IfSome asked (λ a. a.server < count) → server.index < count
asked_there None server count is within = absurd (cc)
asked_there (Some a) server count is within = let same : a.server ≡ server.index = cc in subst (λ (n : ℕ). n < count) same within

-- nothing is told to be asked again where nothing is asked
pub asked_nowhere : (asked : Option Asked) (told : Option ServerId) → told ≡ None → option_map (λ (s : ServerId). s.index) told ≡ option_map (λ (a : Asked). a.server) asked → asked ≡ None
asked_nowhere None told none is = refl
asked_nowhere (Some a) told none is = absurd (cc)

-- and something is where a server is told
pub asked_somewhere : (asked : Option Asked) (server : ServerId) → option_map (λ (s : ServerId). s.index) (Some server) ≡ option_map (λ (a : Asked). a.server) asked → IsSome asked
asked_somewhere None server is = absurd (cc)
asked_somewhere (Some a) server is = refl

-- where nothing is asked, asking again changes nothing
pub none_step : (standing new : Standing) (who : SessionId) (asked : Option Asked) → asked ≡ None → new ≡ standing → AsksAgain asked standing who.index (NotAgain who) new
none_step standing new who None none same = (who, refl, refl, same)
none_step standing new who (Some a) none same = absurd (cc)

at_asked : (standing new : Standing) (who : SessionId) (server : ServerId) (asked : Option Asked) (answer : Answer)
    → option_map (λ (s : ServerId). s.index) (Some server) ≡ option_map (λ (a : Asked). a.server) asked
    → IfSome asked (λ a. Operates (λ name. IsWrittenAgain name a.program) standing who.index server.index answer new) → AsksAgain asked standing who.index answer new
at_asked standing new who server None answer is does = absurd (cc)
at_asked standing new who server (Some a) answer is does =
    let same : server.index ≡ a.server = cc in
    subst (λ (place : ℕ). Operates (λ name. IsWrittenAgain name a.program) standing who.index place answer new) same does

-- what is done at the server that was asked is what asking again does
pub again_step : (standing new : Standing) (who : SessionId) (server : ServerId) (asked found : Option Asked) (answer : Answer) → asked ≡ found
    → option_map (λ (s : ServerId). s.index) (Some server) ≡ option_map (λ (a : Asked). a.server) found
    → IfSome found (λ a. Operates (λ name. IsWrittenAgain name a.program) standing who.index server.index answer new) → AsksAgain asked standing who.index answer new
again_step standing new who server asked found answer same is does =
    subst (λ (a : Option Asked). AsksAgain a standing who.index answer new) (sym same) (at_asked standing new who server found answer is does)

-- one of them is put in its place
pub put_seat : (count : ℕ) (seats : List Seat) (at : ℕ) (seat : Seat) → AreSeats count seats → IfSome seat.asked (λ asked. asked.server < count) → AreSeats count (set seats at seat)
put_seat count seats at seat are within = record {
  one_each = length-set seats at seat ∙ are.one_each;
  within = λ i other is.
      let inside : i < length seats = omega (arith, slice_get_within (set seats at seat) i other is, length-set seats at seat) in
      let reads : get_or (set seats at seat) i other ≡ other = get_or_from_slice_get (set seats at seat) i other other is in
      elim (cases_eq i at) as (λ _. IfSome other.asked (λ asked. asked.server < count)) [
        | inl same ↦
            let here : seat ≡ other = sym (get_or-set_same seats at seat other (omega (arith, inside, same))) ∙ ap (λ (j : ℕ). get_or (set seats at seat) j other) (sym same) ∙ reads in
            subst (λ (s : Seat). IfSome s.asked (λ asked. asked.server < count)) here within
        | inr apart ↦
            are.within i other (slice_get-get_or seats i other inside ∙ ap Some (sym (get_or-set_other seats at i seat other apart) ∙ reads))
      ];
}

-- so many, and one more
pub unopened_more : (done : ℕ) (seats : List Seat) (first : SessionId) → AreUnopened done seats → first.index ≡ done
    → AreUnopened (done + 1) (seats ++ new_seat first nothing_asked ∷ [])
unopened_more done seats first are is = record {
  one_each = length_push seats (new_seat first nothing_asked) ∙ ap (λ (n : ℕ). n + 1) are.one_each;
  new = λ who within. elim (cases_lt who.index done) as (λ _. slice_get (seats ++ new_seat first nothing_asked ∷ []) who.index ≡ Some (new_seat who nothing_asked)) [
    | inl before ↦
        slice_get-get_or (seats ++ new_seat first nothing_asked ∷ []) who.index (new_seat who nothing_asked) (omega (arith, length_push seats (new_seat first nothing_asked), are.one_each))
        ∙ ap Some (get_or_append_left seats (new_seat first nothing_asked ∷ []) (new_seat who nothing_asked) who.index (omega (arith, are.one_each))
        ∙ get_or_from_slice_get seats who.index (new_seat who nothing_asked) (new_seat who nothing_asked) (are.new who before))
    | inr past ↦
        let here : done ≡ who.index = omega arith in
        let same : first ≡ who = session-ext first who (is ∙ here) in
        slice_get-get_or (seats ++ new_seat first nothing_asked ∷ []) who.index (new_seat who nothing_asked) (omega (arith, length_push seats (new_seat first nothing_asked), are.one_each, here))
        ∙ ap Some (get_or_push seats (new_seat first nothing_asked) (new_seat who nothing_asked) who.index (are.one_each ∙ here)
        ∙ ap (λ (s : SessionId). new_seat s nothing_asked) same)
  ];
}

-- each guarantee is one that isn't asked for
pub none_asked : (asks : Asks) → (asks.ryw ≡ false) × ((asks.mr ≡ false) × ((asks.wfr ≡ false) × (asks.mw ≡ false))) → asks ≡ nothing_asked
none_asked asks (ryw, (mr, (wfr, mw))) =
    ap (λ (b : Bool). record { ryw = b; mr = asks.mr; wfr = asks.wfr; mw = asks.mw }) ryw
    ∙ ap (λ (b : Bool). record { ryw = false; mr = b; wfr = asks.wfr; mw = asks.mw }) mr
    ∙ ap (λ (b : Bool). record { ryw = false; mr = false; wfr = b; mw = asks.mw }) wfr
    ∙ ap (λ (b : Bool). record { ryw = false; mr = false; wfr = false; mw = b }) mw

-- whatever asks for nothing was made for the next
pub unopened_next : (done : ℕ) (seats after : List Seat) (first : SessionId) (asks : Asks) (seat : Seat) → AreUnopened done seats → first.index ≡ done → asks ≡ nothing_asked
    → seat ≡ new_seat first asks → after ≡ seats ++ seat ∷ [] → AreUnopened (done + 1) after
unopened_next done seats after first asks seat are is none made pushed =
    subst (λ (l : List Seat). AreUnopened (done + 1) l) (sym (pushed ∙ ap (λ (s : Seat). seats ++ s ∷ []) (made ∙ ap (λ (a : Asks). new_seat first a) none))) (unopened_more done seats first are is)

-- none of which may ask anything again
pub unopened_seats : (count : ℕ) (seats : List Seat) → AreUnopened SESSIONS seats → AreSeats count seats
unopened_seats count seats are = record {
  one_each = are.one_each;
  within = λ at seat is.
      let inside : at < SESSIONS = omega (arith, slice_get_within seats at seat is, are.one_each) in
      let who : SessionId = record { index = at; in_range = inside } in
      let same : new_seat who nothing_asked ≡ seat =
      sym (get_or_from_slice_get seats at (new_seat who nothing_asked) seat (are.new who inside)) ∙ get_or_from_slice_get seats at seat seat is in
      subst (λ (s : Seat). IfSome s.asked (λ asked. asked.server < count)) same tt;
}
