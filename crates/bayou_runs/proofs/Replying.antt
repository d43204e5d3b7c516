-- Reads, Writes and Writes that are asked again, as a script answers them, are told by the machine.
use Rattle.std.proofs.Common.{◌≡◌, inl, inr, ℕ, ◌+◌, Bool, true, false, List, [], ◌∷◌, ◌++◌, Result, Ok, Err, Option, None, Some, ap, sym, ◌∙◌, refl, subst, arith}
use Rattle.std.specs.Option.{option_map}
use Rattle.std.proofs.lemmas.List.{append-nil}
use Rattle.bayou_base.specs.declared.answer.Accepted.{Accepted}
use Rattle.bayou_base.specs.declared.answer.Seen.{Seen}
use Rattle.bayou_base.specs.declared.entry.Entry.{Entry}
use Rattle.bayou_base.specs.declared.entry.What.{What}
use Rattle.bayou_base.specs.declared.entry.What.TheVariants as whats
use Rattle.bayou_base.specs.declared.limits.TheConstants.{MAX_PLACES}
use Rattle.bayou_base.specs.declared.session.SessionId.{SessionId}
use Rattle.bayou_lang.specs.declared.program.Program.{Program}
use Rattle.bayou_server.specs.declared.answer.Written.{Written}
use Rattle.bayou_server.specs.declared.answer.Written.TheVariants.{New, Known}
use Rattle.bayou_server.specs.declared.fault.Behind.{Behind}
use Rattle.bayou_server.specs.declared.fault.WriteFault.{WriteFault}
use Rattle.bayou_server.specs.Reads.{Reads}
use Rattle.bayou_server.specs.Writes.{Writes}
use Rattle.bayou_session.specs.Needs.{after_read, after_write, read_need, write_need}
use Rattle.bayou_text.specs.Said.{Said, read, write, again}
use Rattle.bayou_script.specs.Capacity.{operation_of, operations}
use Rattle.bayou_script.specs.Script.{Plan, is_open}
use Rattle.bayou_answers.specs.declared.answer.Answer.{Answer}
use Rattle.bayou_answers.specs.declared.answer.Answer.TheVariants.{Lost}
use Rattle.bayou_machine.specs.declared.script_server.ScriptServer.{ScriptServer}
use Rattle.bayou_machine.specs.Filed.{Files, what_told}
use Rattle.bayou_machine.specs.Laws.Runs.{operations-first}
use Rattle.bayou_machine.specs.Run.{ScriptState}
use Rattle.bayou_machine.specs.ScriptServer.{AnswersWrite, GetsNoReply, IsRead, IsWritten, IsWrittenAgain, read_answer, reply_of, write_answer}
use Rattle.bayou_machine.specs.Seats.{Seat, asks_at, asks_once_more, begins_read, given_of}
use Rattle.bayou_machine.specs.Seats as seats
use Rattle.bayou_machine.specs.Standing.{Standing, StandsAt, seat_of, with_server, with_session}
use Rattle.bayou_world.specs.declared.event.Event.{Event}
use Rattle.bayou_world.specs.declared.event.Event.TheVariants as events
use Rattle.bayou_world.specs.declared.reply.Reply.{Reply}
use Rattle.bayou_world.specs.declared.reply.Reply.TheVariants as replies
use Rattle.bayou_world.specs.Agreement.{IsToldOf, StandsFor}
use Rattle.bayou_world.specs.Machine.{Answered, Asking, Machine, SessionSets}
use Rattle.bayou_world.specs.Never.{core_at}
use Rattle.bayou_world.specs.Rows.{IsAnsweredAt, told_of_program, told_of_read}
use Rattle.bayou_world.specs.Steps.{MayBegin, Step, first_asking, heard, told}
use Rattle.bayou_world.specs.Steps as steps
use Rattle.bayou_runs.specs.Inner.Tie.{AreRows, HaveRows, IsAt, IsSeatOf, IsSeated, IsTelling, StayHonest, first_of_script, number_of_it}
use Rattle.bayou_runs.specs.Lines.{IsLine, has_lost}
use Rattle.bayou_runs.specs.Runs.{IsInRange}
use Rattle.bayou_runs.proofs.Operating.{IsOperation, IsToldSo, OpensNone, finish_heard, finish_lost, flying_of, moved, run_append}
use Rattle.bayou_runs.proofs.Beginning.{IsTold, again_begins, known_server, may_begin, none_filed, read_begins, same_server, server_id, write_begins}
use Rattle.bayou_runs.proofs.Safe.{beside_core, running_of, safe_written}
use Rattle.bayou_runs.proofs.Silent.{again_silent, read_silent, write_silent}

module _ (plan : Plan) (in_range : IsInRange plan) (have : HaveRows plan) (laws : StayHonest) where
  -- no reply comes where no place is left: nothing is done
  no_place : (front : List Said) (said : Said) (others : List Said) (state new : ScriptState) (old : Machine) → IsAt plan front (said ∷ others) state old → OpensNone said → (who : SessionId) (place : ℕ) (replica : ScriptServer) (now : Seat)
      → StandsAt state.standing place replica → is_open who.index front ≡ true → (seat_of state.standing who).told.begun ≡ MAX_PLACES → operation_of said ≡ Some who.index → (answer : Answer) → answer ≡ Lost who → now ≡ seat_of state.standing who
      → new.standing ≡ with_session (with_server state.standing place replica) who now → (filed : List Entry) → Files who.index place (seat_of state.standing who).told (what_told answer) filed
      → new.book ≡ record state.book { entries = state.book.entries ++ filed } → IsTold plan front others said new old answer
  no_place front said others state new old at opens_none who place replica now stands opened_there full operates answer is_lost same only filed files books =
      let none : filed ≡ [] = none_filed who.index place (seat_of state.standing who).told (what_told answer) filed (ap what_told is_lost) files in
      let seated = at.opened who opened_there in
      record {
        last = old;
        turn = record { events = []; replies = []; is = subst (λ (a : Answer). IsLine front old said a [] []) (sym is_lost) (IsLine.no_place said who seated.session operates seated.there (sym seated.is.telling.begun ∙ full)); run = refl };
        at = moved plan front said others state new old old at opens_none [] [] refl who place replica replica now stands opened_there
            (record { count = refl; limit = refl; capacity = refl; servers = λ other differs. refl; sessions = λ other differs. refl; offers = refl; items = refl })
            (at.each place replica stands) (subst (IsSeated old who.index) (sym same) seated) only
            (ap (λ (b : _). b.entries) books ∙ ap (λ list. state.book.entries ++ list) none ∙ append-nil state.book.entries ∙ at.entries)
            (omega (arith, at.room, operations-first said others));
      }

  -- ---- a read

  read_heard : (next : Machine) → AreRows next → (who : ℕ) (seat : Seat) (flying : SessionSets) (answered : Answered) → next.sessions who ≡ Some flying → flying.flight ≡ Some answered → IsTelling who seat flying
      → (key : List ℕ) (result : Result Seen Behind) → answered.entry.what ≡ told_of_read key result → IsTelling who (seats.told_of_read false seat result) (told (told_of_read key result) answered flying)
  read_heard next rows who seat flying answered there flies is key (Err behind) what = is
  read_heard next rows who seat flying answered there flies is key (Ok seen) what =
      let of : IsToldOf answered.entry.what seat.told (after_read seat.told seen) = subst (λ (w : What). IsToldOf w seat.told (after_read seat.told seen)) (sym what) (seen, refl, refl) in
      let stands : StandsFor (after_read seat.told seen) (heard answered flying) = rows.hears_are who flying answered there flies seat.told (after_read seat.told seen) is.stands of in
      let same : StandsFor (after_read seat.told seen) (told answered.entry.what answered flying) = record { asks = stands.asks; long = stands.long; reads = stands.reads; writes = stands.writes } in
      record {
        id = is.id;
        run = is.run;
        begun = is.begun;
        number = is.number;
        asked = is.asked;
        stands = subst (λ (w : What). StandsFor (after_read seat.told seen) (told w answered flying)) what same;
      }

  what_of_read : (who : SessionId) (key : List ℕ) (result : Result Seen Behind) → what_told (read_answer who key result) ≡ Some (told_of_read key result)
  what_of_read who key (Ok seen) = refl
  what_of_read who key (Err behind) = refl

  pub read_said : (front others : List Said) (state new : ScriptState) (old : Machine) (who : SessionId) (place : ℕ) (key : List ℕ) (answer : Answer) → IsAt plan front (read who.index place key ∷ others) state old
      → is_open who.index front ≡ true → (replica : ScriptServer) (now : Seat) → StandsAt state.standing place replica → IsRead who key replica (seat_of state.standing who) answer now
      → new.standing ≡ with_session state.standing who now → (filed : List Entry) → Files who.index place (seat_of state.standing who).told (what_told answer) filed
      → new.book ≡ record state.book { entries = state.book.entries ++ filed } → IsTold plan front others (read who.index place key) new old answer
  read_said front others state new old who place key answer at opened_there replica now stands does only filed files books =
      let said = read who.index place key in
      let only_it : new.standing ≡ with_session (with_server state.standing place replica) who now = only ∙ sym (ap (λ (s : Standing). with_session s who now) (same_server state.standing place replica stands)) in
      elim does as (λ _. IsTold plan front others said new old answer) [
        | inl (GetsNoReply.no_place none is_lost same) ↦ no_place front said others state new old at (λ other. refl) who place replica now stands opened_there none refl answer is_lost same only_it filed files books
        | inl (GetsNoReply.stopped left stopped more is_lost same) ↦ read_silent plan in_range have front others state new old who place key answer at opened_there replica now stands more is_lost same only_it filed files books
        | inr reads ↦
            let seated = at.opened who opened_there in
            let beside = at.each place replica stands in
            let seat = seat_of state.standing who in
            let within = known_server plan in_range front (said ∷ others) state old at place replica stands in
            let core = (running_of (has_lost place front) old place replica beside reads.server reads.runs).0 in
            let row = (have at.events at.replies old at.run).reads_are who (server_id plan in_range place within) seated.session seat.told (may_begin plan in_range front (said ∷ others) state old at who seated place replica stands reads.left) seated.is.telling.stands
            key reads.result (subst (λ c. Reads c (read_need seat.told) key reads.result) core reads.reads) in
            let next = row.0 in
            let ans = row.2 in
            let begun = begins_read seat in
            let telling = read_begins who.index seat seated.session ans.answered seated.is.telling in
            let did : IsOperation front others said state new old next who place seated.session None (told_of_read key reads.result) (core_at old place) replica replica begun = record {
              opens_none = λ other. refl;
              one = refl;
              stands = stands;
              opened_there = opened_there;
              there = seated.there;
              was = seated.is;
              event = events.Read who (server_id plan in_range place within) key;
              reply = replies.Read reads.result;
              step = row.1;
              answered = ans;
              beside = λ last same runs. beside_core (has_lost place front) old last place replica (sym same) runs beside;
              telling = telling;
            } in
            let rows = have (at.events ++ did.event ∷ []) (at.replies ++ did.reply ∷ []) next (run_append (first_of_script plan) old next at.events at.replies (did.event ∷ []) (did.reply ∷ []) at.run (next, row.1, refl)) in
            let so : (drops : Bool) → seat.drops ≡ drops → IsToldSo plan front others said new old who did.event did.reply (read_answer who key reads.result) answer = λ drops.
            elim drops as (λ d. seat.drops ≡ d → IsToldSo plan front others said new old who did.event did.reply (read_answer who key reads.result) answer) [
              | true ↦ λ is_so.
                  let is_lost : answer ≡ Lost who = reads.answered ∙ ap (λ d. reply_of d who (read_answer who key reads.result)) is_so in
                  finish_lost plan front others said state new old next at who place seated.session None (told_of_read key reads.result) (core_at old place) replica replica begun now did only_it filed books
                  (read_answer who key reads.result) answer is_lost (reads.told_of ∙ ap (λ d. seats.told_of_read d begun reads.result) is_so)
                  (none_filed who.index place seat.told (what_told answer) filed (ap what_told is_lost) files)
              | false ↦ λ is_so.
                  let is_told : answer ≡ read_answer who key reads.result = reads.answered ∙ ap (λ d. reply_of d who (read_answer who key reads.result)) is_so in
                  finish_heard plan front others said state new old next at who place seated.session None (told_of_read key reads.result) (core_at old place) replica replica begun now did only_it filed books
                  (read_answer who key reads.result) answer is_told (subst (λ w. Files who.index place seat.told w filed) (ap what_told is_told ∙ what_of_read who key reads.result) files)
                  (subst (λ (s : Seat). IsTelling who.index s (told (told_of_read key reads.result) ans.answered (flying_of seated.session None ans.answered)))
                  (sym (reads.told_of ∙ ap (λ d. seats.told_of_read d begun reads.result) is_so))
                  (read_heard next rows who.index begun (flying_of seated.session None ans.answered) ans.answered ans.flies refl telling key reads.result ans.entry.what_is))
            ] in
            let is = so seat.drops refl in
            record {
              last = is.last;
              turn = record {
                events = did.event ∷ is.events;
                replies = did.reply ∷ is.replies;
                is = IsLine.a_read who (server_id plan in_range place within) key reads.result answer is.events is.replies is.ends;
                run = is.run;
              };
              at = is.at;
            }
      ]

  -- ---- a Write, the first time or again

  given_heard : (next : Machine) → AreRows next → (who : ℕ) (seat : Seat) (flying : SessionSets) (answered : Answered) → next.sessions who ≡ Some flying → flying.flight ≡ Some answered → IsTelling who seat flying
      → (accepted : Accepted) → answered.entry.what ≡ whats.Write accepted.wid accepted.stamp accepted.deps
      → IsTelling who (record seat { told = after_write seat.told accepted; asked = None }) (told (whats.Write accepted.wid accepted.stamp accepted.deps) answered flying)
  given_heard next rows who seat flying answered there flies is accepted what =
      let of : IsToldOf answered.entry.what seat.told (after_write seat.told accepted) = subst (λ (w : What). IsToldOf w seat.told (after_write seat.told accepted)) (sym what) (accepted, refl, refl) in
      let stands : StandsFor (after_write seat.told accepted) (heard answered flying) = rows.hears_are who flying answered there flies seat.told (after_write seat.told accepted) is.stands of in
      let same : StandsFor (after_write seat.told accepted) (told answered.entry.what answered flying) = record { asks = stands.asks; long = stands.long; reads = stands.reads; writes = stands.writes } in
      record {
        id = is.id;
        run = is.run;
        begun = is.begun;
        number = refl;
        asked = refl;
        stands = subst (λ (w : What). StandsFor (after_write seat.told accepted) (told w answered flying)) what same;
      }

  write_heard : (next : Machine) → AreRows next → (who : ℕ) (seat : Seat) (flying : SessionSets) (answered : Answered) → next.sessions who ≡ Some flying → flying.flight ≡ Some answered → IsTelling who seat flying
      → (result : Result Written WriteFault) → answered.entry.what ≡ told_of_program result → IsTelling who (seats.told_of_write false seat result) (told (told_of_program result) answered flying)
  write_heard next rows who seat flying answered there flies is (Err fault) what = is
  write_heard next rows who seat flying answered there flies is (Ok (New accepted)) what = given_heard next rows who seat flying answered there flies is accepted what
  write_heard next rows who seat flying answered there flies is (Ok (Known accepted)) what = given_heard next rows who seat flying answered there flies is accepted what

  what_of_write : (who : SessionId) (result : Result Written WriteFault) → what_told (write_answer who result) ≡ Some (told_of_program result)
  what_of_write who (Ok (New accepted)) = refl
  what_of_write who (Ok (Known accepted)) = refl
  what_of_write who (Err fault) = refl

  -- what was written, with its reply
  written : (front : List Said) (said : Said) (others : List Said) (state new : ScriptState) (old : Machine) (at : IsAt plan front (said ∷ others) state old) → OpensNone said → operations (said ∷ []) ≡ 1
      → (who : SessionId) (place number : ℕ) (program : Program) (begins : Seat → Seat) (before after : ScriptServer) (now : Seat) (answer : Answer) → StandsAt state.standing place before → (opened_there : is_open who.index front ≡ true)
      → (answers : AnswersWrite who number program begins before (seat_of state.standing who) answer after now)
      → new.standing ≡ with_session (with_server state.standing place after) who now → (filed : List Entry) → Files who.index place (seat_of state.standing who).told (what_told answer) filed
      → new.book ≡ record state.book { entries = state.book.entries ++ filed }
      → (session : SessionSets) → old.sessions who.index ≡ Some session → IsSeatOf who.index (seat_of state.standing who) session
      → (asked : Option Asking) (event : Event) (reply : Reply) (next : Machine) → Step old event reply next
      → (ans : IsAnsweredAt old who.index place session asked (told_of_program answers.result) answers.new.core next) → IsTelling who.index (begins (seat_of state.standing who)) (flying_of session asked ans.answered)
      → IsToldSo plan front others said new old who event reply (write_answer who answers.result) answer
  written front said others state new old at opens_none one who place number program begins before after now answer stands opened_there answers only filed files books session there was asked event reply next step ans telling =
      let seat = seat_of state.standing who in
      let begun = begins seat in
      let what = told_of_program answers.result in
      let did : IsOperation front others said state new old next who place session asked what answers.new.core before after begun = record {
        opens_none = opens_none;
        one = one;
        stands = stands;
        opened_there = opened_there;
        there = there;
        was = was;
        event = event;
        reply = reply;
        step = step;
        answered = ans;
        beside = λ last same runs. inl (record {
          server = answers.new;
          is = answers.is;
          core_is = same;
          safe = safe_written laws (has_lost place front) answers.old answers.new (running_of (has_lost place front) old place before (at.each place before stands) answers.old answers.was).1
              answers.tag (write_need seat.told) program answers.result answers.writes answers.stores answers.sound.1 answers.safe answers.others;
          runs = runs;
        });
        telling = telling;
      } in
      let rows = have (at.events ++ event ∷ []) (at.replies ++ reply ∷ []) next (run_append (first_of_script plan) old next at.events at.replies (event ∷ []) (reply ∷ []) at.run (next, step, refl)) in
      let so : (drops : Bool) → seat.drops ≡ drops → IsToldSo plan front others said new old who event reply (write_answer who answers.result) answer = λ drops.
      elim drops as (λ d. seat.drops ≡ d → IsToldSo plan front others said new old who event reply (write_answer who answers.result) answer) [
        | true ↦ λ is_so.
            let is_lost : answer ≡ Lost who = answers.answered ∙ ap (λ d. reply_of d who (write_answer who answers.result)) is_so in
            finish_lost plan front others said state new old next at who place session asked what answers.new.core before after begun now did only filed books
            (write_answer who answers.result) answer is_lost (answers.told_of ∙ ap (λ d. seats.told_of_write d begun answers.result) is_so)
            (none_filed who.index place seat.told (what_told answer) filed (ap what_told is_lost) files)
        | false ↦ λ is_so.
            let is_told : answer ≡ write_answer who answers.result = answers.answered ∙ ap (λ d. reply_of d who (write_answer who answers.result)) is_so in
            finish_heard plan front others said state new old next at who place session asked what answers.new.core before after begun now did only filed books
            (write_answer who answers.result) answer is_told (subst (λ w. Files who.index place seat.told w filed) (ap what_told is_told ∙ what_of_write who answers.result) files)
            (subst (λ (s : Seat). IsTelling who.index s (told what ans.answered (flying_of session asked ans.answered)))
            (sym (answers.told_of ∙ ap (λ d. seats.told_of_write d begun answers.result) is_so))
            (write_heard next rows who.index begun (flying_of session asked ans.answered) ans.answered ans.flies refl telling answers.result ans.entry.what_is))
      ] in so seat.drops refl

  pub write_said : (front others : List Said) (state new : ScriptState) (old : Machine) (who : SessionId) (place : ℕ) (program : Program) (answer : Answer) → IsAt plan front (write who.index place program ∷ others) state old
      → is_open who.index front ≡ true → (before after : ScriptServer) (now : Seat) → StandsAt state.standing place before → IsWritten who place program before (seat_of state.standing who) answer after now
      → new.standing ≡ with_session (with_server state.standing place after) who now → (filed : List Entry) → Files who.index place (seat_of state.standing who).told (what_told answer) filed
      → new.book ≡ record state.book { entries = state.book.entries ++ filed } → IsTold plan front others (write who.index place program) new old answer
  write_said front others state new old who place program answer at opened_there before after now stands does only filed files books =
      let said = write who.index place program in
      elim does as (λ _. IsTold plan front others said new old answer) [
        | inl (GetsNoReply.no_place none is_lost same, unmoved) ↦
            no_place front said others state new old at (λ other. refl) who place before now stands opened_there none refl answer is_lost same
            (only ∙ ap (λ a. with_session (with_server state.standing place a) who now) unmoved) filed files books
        | inl (GetsNoReply.stopped left stopped more is_lost same, unmoved) ↦
            write_silent plan in_range have front others state new old who place program answer at opened_there before now stands more is_lost same
            (only ∙ ap (λ a. with_session (with_server state.standing place a) who now) unmoved) filed files books
        | inr answers ↦
            let seated = at.opened who opened_there in
            let session = seated.session in
            let seat = seat_of state.standing who in
            let within = known_server plan in_range front (said ∷ others) state old at place before stands in
            let tag : steps.IsTagOf who.index (session.begun + 1) answers.tag = record {
              session_is = ap (λ (i : SessionId). i.index) answers.asked.0 ∙ seated.is.telling.id;
              run_is = answers.asked.1 ∙ seated.is.telling.run;
              number_is = answers.asked.2 ∙ ap (λ n. n + 1) seated.is.telling.begun;
            } in
            let row = (have at.events at.replies old at.run).writes_are who (server_id plan in_range place within) session seat.told (may_begin plan in_range front (said ∷ others) state old at who seated place before stands answers.left) seated.is.telling.stands
            answers.tag tag program answers.result answers.new.core
            (subst (λ c. Writes c answers.tag (write_need seat.told) program answers.result answers.new.core) (running_of (has_lost place front) old place before (at.each place before stands) answers.old answers.was).0 answers.writes) in
            let ans = row.2 in
            let is = written front said others state new old at (λ other. refl) refl who place (seat.told.begun + 1) program (asks_at place program) before after now answer stands opened_there answers only filed files books
            session seated.there seated.is (Some (first_asking place session program)) (events.Write who (server_id plan in_range place within) program) (replies.Wrote answers.result) row.0 row.1 ans
            (write_begins who.index place program seat session ans.answered seated.is.telling) in
            record {
              last = is.last;
              turn = record {
                events = events.Write who (server_id plan in_range place within) program ∷ is.events;
                replies = replies.Wrote answers.result ∷ is.replies;
                is = IsLine.a_write who (server_id plan in_range place within) program answers.result answer is.events is.replies is.ends;
                run = is.run;
              };
              at = is.at;
            }
      ]

  pub again_said : (front others : List Said) (state new : ScriptState) (old : Machine) (who : SessionId) (asking : Asking) (answer : Answer) → IsAt plan front (again who.index ∷ others) state old
      → (opened_there : is_open who.index front ≡ true) → (session : SessionSets) → old.sessions who.index ≡ Some session → IsSeatOf who.index (seat_of state.standing who) session → session.asked ≡ Some asking
      → (before after : ScriptServer) (now : Seat) → StandsAt state.standing asking.server before → IsWrittenAgain who asking.program before (seat_of state.standing who) answer after now
      → new.standing ≡ with_session (with_server state.standing asking.server after) who now → (filed : List Entry) → Files who.index asking.server (seat_of state.standing who).told (what_told answer) filed
      → new.book ≡ record state.book { entries = state.book.entries ++ filed } → IsTold plan front others (again who.index) new old answer
  again_said front others state new old who asking answer at opened_there session there was is_asked before after now stands does only filed files books =
      let said = again who.index in
      let place = asking.server in
      elim does as (λ _. IsTold plan front others said new old answer) [
        | inl (GetsNoReply.no_place none is_lost same, unmoved) ↦
            no_place front said others state new old at (λ other. refl) who place before now stands opened_there none refl answer is_lost same
            (only ∙ ap (λ a. with_session (with_server state.standing place a) who now) unmoved) filed files books
        | inl (GetsNoReply.stopped left stopped more is_lost same, unmoved) ↦
            again_silent plan in_range have front others state new old who asking answer at opened_there session there was is_asked before now stands more is_lost same
            (only ∙ ap (λ a. with_session (with_server state.standing place a) who now) unmoved) filed files books
        | inr (number, is_number, answers) ↦
            let seat = seat_of state.standing who in
            let within = known_server plan in_range front (said ∷ others) state old at place before stands in
            let both : Some number ≡ Some asking.number = sym is_number ∙ (was.telling.number ∙ ap (λ o. option_map number_of_it o) is_asked) in
            let equal : number ≡ asking.number = cc in
            let tag : steps.IsTagOf who.index asking.number answers.tag = record {
              session_is = ap (λ (i : SessionId). i.index) answers.asked.0 ∙ was.telling.id;
              run_is = answers.asked.1 ∙ was.telling.run;
              number_is = answers.asked.2 ∙ equal;
            } in
            let begin = may_begin plan in_range front (said ∷ others) state old at who (record { session = session; there = there; is = was }) place before stands answers.left in
            let row = (have at.events at.replies old at.run).agains_are who (server_id plan in_range place within) session seat.told was.telling.stands asking is_asked refl begin
            answers.tag tag answers.result answers.new.core
            (subst (λ c. Writes c answers.tag (write_need seat.told) asking.program answers.result answers.new.core) (running_of (has_lost place front) old place before (at.each place before stands) answers.old answers.was).0 answers.writes) in
            let ans = row.2 in
            let is = written front said others state new old at (λ other. refl) refl who place number asking.program asks_once_more before after now answer stands opened_there answers only filed files books
            session there was (Some asking) (events.Again who) (replies.AskedAgain (server_id plan in_range place within) answers.result) row.0 row.1 ans (again_begins who.index seat session asking ans.answered is_asked was.telling) in
            record {
              last = is.last;
              turn = record {
                events = events.Again who ∷ is.events;
                replies = replies.AskedAgain (server_id plan in_range place within) answers.result ∷ is.replies;
                is = IsLine.an_again who (server_id plan in_range place within) answers.result answer is.events is.replies is.ends;
                run = is.run;
              };
              at = is.at;
            }
      ]
