-- What a session's operation begins: its place, at a server of the machine's, and what the line comes to.
use Rattle.std.proofs.Common.{zero, suc, ◌≡◌, ℕ, ◌+◌, ◌<◌, List, [], ◌∷◌, ◌++◌, Option, None, Some, ap, sym, ◌∙◌, refl, arith}
use Rattle.std.specs.List.{slice_get, slice_set}
use Rattle.std.specs.Option.{option_map}
use Rattle.bayou_base.specs.declared.entry.Entry.{Entry}
use Rattle.bayou_base.specs.declared.entry.What.{What}
use Rattle.bayou_base.specs.declared.limits.TheConstants.{MAX_PLACES}
use Rattle.bayou_base.specs.declared.server.ServerId.{ServerId}
use Rattle.bayou_base.specs.declared.session.SessionId.{SessionId}
use Rattle.bayou_lang.specs.declared.program.Program.{Program}
use Rattle.bayou_session.specs.Needs.{Told}
use Rattle.bayou_text.specs.Said.{Said}
use Rattle.bayou_script.specs.Script.{Plan}
use Rattle.bayou_answers.specs.declared.answer.Answer.{Answer}
use Rattle.bayou_machine.specs.declared.script_server.ScriptServer.{ScriptServer}
use Rattle.bayou_machine.specs.Filed.{Files}
use Rattle.bayou_machine.specs.Run.{ScriptState}
use Rattle.bayou_machine.specs.Seats.{Seat, asks_at, asks_once_more, begins_read}
use Rattle.bayou_machine.specs.Standing.{Standing, StandsAt, seat_of, with_server}
use Rattle.bayou_world.specs.Machine.{Answered, Asking, Machine, SessionSets}
use Rattle.bayou_world.specs.Steps.{MayBegin, first_asking}
use Rattle.bayou_runs.specs.Inner.Tie.{IsAt, IsSeated, IsTelling, asked_by_it, number_of_it}
use Rattle.bayou_runs.specs.Lines.{IsTurn, has_lost}
use Rattle.bayou_runs.specs.Runs.{IsInRange}
use Rattle.bayou_runs.proofs.Lists.{get_within}
use Rattle.bayou_runs.proofs.Operating.{flying_of}
use Rattle.bayou_runs.proofs.Safe.{runs_beside}

-- what a line comes to
pub record IsTold (plan : Plan) (front others : List Said) (said : Said) (new : ScriptState) (old : Machine) (answer : Answer) : Type 0 where
  pub last : Machine
  pub turn : IsTurn front old said answer last
  pub at : IsAt plan (front ++ said ∷ []) others new last

-- a list that has this at a place, and is set to it there
pub set_to_it : {X : Type 0} (xs : List X) (at : ℕ) (x : X) → slice_get xs at ≡ Some x → slice_set xs at x ≡ xs
set_to_it [] at x got = refl
set_to_it (first ∷ xs) zero x got = let one : first ≡ x = cc in ap (λ y. y ∷ xs) (sym one)
set_to_it (first ∷ xs) (suc at) x got = ap (λ ys. first ∷ ys) (set_to_it xs at x got)

pub same_server : (standing : Standing) (place : ℕ) (replica : ScriptServer) → StandsAt standing place replica → with_server standing place replica ≡ standing
same_server standing place replica stands = ap (λ list. record standing { servers = list }) (set_to_it standing.servers place replica stands)

-- where nothing is filed
pub none_filed : (who place : ℕ) (told : Told) (what : Option What) (filed : List Entry) → what ≡ None → Files who place told what filed → filed ≡ []
none_filed who place told None filed none is = is
none_filed who place told (Some what) filed none is = absurd (cc)

-- ---- a session begins a place

-- what a session is told of a read
pub read_begins : (who : ℕ) (seat : Seat) (session : SessionSets) (answered : Answered) → IsTelling who seat session → IsTelling who (begins_read seat) (flying_of session None answered)
read_begins who seat session answered is = record {
  id = is.id;
  run = is.run;
  begun = ap (λ n. n + 1) is.begun;
  number = refl;
  asked = refl;
  stands = record { asks = is.stands.asks; long = is.stands.long; reads = is.stands.reads; writes = is.stands.writes };
}

pub write_begins : (who place : ℕ) (program : Program) (seat : Seat) (session : SessionSets) (answered : Answered) → IsTelling who seat session
    → IsTelling who (asks_at place program seat) (flying_of session (Some (first_asking place session program)) answered)
write_begins who place program seat session answered is = record {
  id = is.id;
  run = is.run;
  begun = ap (λ n. n + 1) is.begun;
  number = ap (λ n. Some (n + 1)) is.begun;
  asked = refl;
  stands = record { asks = is.stands.asks; long = is.stands.long; reads = is.stands.reads; writes = is.stands.writes };
}

pub again_begins : (who : ℕ) (seat : Seat) (session : SessionSets) (asking : Asking) (answered : Answered) → session.asked ≡ Some asking → IsTelling who seat session
    → IsTelling who (asks_once_more seat) (flying_of session (Some asking) answered)
again_begins who seat session asking answered asked is = record {
  id = is.id;
  run = is.run;
  begun = ap (λ n. n + 1) is.begun;
  number = is.number ∙ ap (λ o. option_map number_of_it o) asked;
  asked = is.asked ∙ ap (λ o. option_map asked_by_it o) asked;
  stands = record { asks = is.stands.asks; long = is.stands.long; reads = is.stands.reads; writes = is.stands.writes };
}

module _ (plan : Plan) (in_range : IsInRange plan) where
  abbrev pub server_id : (place : ℕ) → place < plan.count → ServerId
  server_id place within = record { index = place; in_range = omega (arith, within, in_range.count) }

  -- a server of the script's is one of the machine's
  pub known_server : (front rest : List Said) (state : ScriptState) (old : Machine) → IsAt plan front rest state old → (place : ℕ) (replica : ScriptServer) → StandsAt state.standing place replica → place < plan.count
  known_server front rest state old at place replica stands = omega (arith, get_within state.standing.servers place replica stands, at.one_each)

  pub may_begin : (front rest : List Said) (state : ScriptState) (old : Machine) (at : IsAt plan front rest state old) (who : SessionId) (seated : IsSeated old who.index (seat_of state.standing who))
      (place : ℕ) (replica : ScriptServer) → StandsAt state.standing place replica → (seat_of state.standing who).told.begun < MAX_PLACES → MayBegin old who.index place seated.session
  may_begin front rest state old at who seated place replica stands left =
      let within = known_server front rest state old at place replica stands in
      record {
        there = seated.there;
        server = record { there = omega (arith, within, at.count); runs = runs_beside (has_lost place front) old place replica (at.each place replica stands) };
        idle = seated.is.idle;
        left = omega (arith, left, seated.is.telling.begun);
      }
