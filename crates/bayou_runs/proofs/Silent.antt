-- A server whose start was refused answers nothing: the machine's server answers in its place, and the reply is lost.
use Rattle.std.proofs.Common.{◌≡◌, inl, inr, ◌⊎◌, ℕ, zero, suc, ◌+◌, ◌<◌, ◌≤◌, true, false, List, [], ◌∷◌, ◌++◌, Result, Ok, Err, Option, None, Some, Contains, IsSome, length, slice_index, ap, sym, refl, subst, arith}
use Rattle.std.proofs.lemmas.Bool.{cases_lt}
use Rattle.std.proofs.lemmas.List.{length-map}
use Rattle.std.proofs.lemmas.List.Elements.{Contains-append_cases, Contains-append_right, Contains-push_cases}
use Rattle.bayou_base.specs.declared.answer.Accepted.{Accepted}
use Rattle.bayou_base.specs.declared.answer.Seen.{Seen}
use Rattle.bayou_base.specs.declared.entry.Entry.{Entry}
use Rattle.bayou_base.specs.declared.entry.What.{What}
use Rattle.bayou_base.specs.declared.entry.What.TheVariants as whats
use Rattle.bayou_base.specs.declared.limits.TheConstants.{MAX_PLACES, SERVERS}
use Rattle.bayou_base.specs.declared.server.ServerId.{ServerId}
use Rattle.bayou_base.specs.declared.session.SessionId.{SessionId}
use Rattle.bayou_base.specs.declared.tag.Tag.{Tag}
use Rattle.bayou_base.specs.Vector.{Dominates}
use Rattle.bayou_lang.specs.declared.program.Program.{Program}
use Rattle.bayou_lang.specs.Database.{value_at}
use Rattle.bayou_lang.specs.Writes.{count_of}
use Rattle.bayou_log.specs.Replay.{replay}
use Rattle.bayou_server.specs.declared.answer.Written.{Written}
use Rattle.bayou_server.specs.declared.answer.Written.TheVariants as written
use Rattle.bayou_server.specs.declared.fault.Behind.{Behind}
use Rattle.bayou_server.specs.declared.fault.WriteFault.{WriteFault}
use Rattle.bayou_server.specs.declared.fault.WriteFault.TheVariants as writing
use Rattle.bayou_server.specs.Reads.{Reads}
use Rattle.bayou_server.specs.Server.{Core, IsSoundServer}
use Rattle.bayou_session.specs.declared.session.TheConstants.{FIRST_RUN}
use Rattle.bayou_session.specs.Needs.{Told, read_need, write_need}
use Rattle.bayou_text.specs.Said.{Said, read, write, again}
use Rattle.bayou_script.specs.Capacity.{operations}
use Rattle.bayou_script.specs.Script.{Plan, is_open}
use Rattle.bayou_answers.specs.declared.answer.Answer.{Answer}
use Rattle.bayou_answers.specs.declared.answer.Answer.TheVariants.{Lost}
use Rattle.bayou_machine.specs.declared.script_server.ScriptServer.{ScriptServer}
use Rattle.bayou_machine.specs.Filed.{Files, what_told}
use Rattle.bayou_machine.specs.Run.{ScriptState}
use Rattle.bayou_machine.specs.ScriptServer.{read_answer, write_answer}
use Rattle.bayou_machine.specs.Seats.{Seat, asks_at, asks_once_more, begins_read}
use Rattle.bayou_machine.specs.Standing.{StandsAt, seat_of, with_server, with_session}
use Rattle.bayou_world.specs.declared.event.Event.{Event}
use Rattle.bayou_world.specs.declared.event.Event.TheVariants as events
use Rattle.bayou_world.specs.declared.reply.Reply.{Reply}
use Rattle.bayou_world.specs.declared.reply.Reply.TheVariants as replies
use Rattle.bayou_world.specs.Agreement.{NeedsAgree}
use Rattle.bayou_world.specs.Machine.{Answered, Asking, Machine, Made, ServerSets, SessionSets, writes}
use Rattle.bayou_world.specs.Never.{core_at}
use Rattle.bayou_world.specs.Rows.{IsAnsweredAt, told_of_read}
use Rattle.bayou_world.specs.Steps.{AgainStep, AskStep, IsEntry, IsReady, IsTagOf, MayBegin, MayRepeat, RefusesWrite, Step, WriteStep, first_asking, refusal, with_answer}
use Rattle.bayou_runs.specs.Inner.Tie.{HaveRows, IsAt, IsSeatOf, IsTelling}
use Rattle.bayou_runs.specs.Lines.{IsLine, has_lost}
use Rattle.bayou_runs.specs.Runs.{IsInRange}
use Rattle.bayou_runs.proofs.Beginning.{IsTold, again_begins, known_server, may_begin, none_filed, read_begins, server_id, write_begins}
use Rattle.bayou_runs.proofs.Lists.{changed-other, changed-same, same_number}
use Rattle.bayou_runs.proofs.Operating.{IsOperation, IsToldSo, OpensNone, finish_lost, flying_of}
use Rattle.bayou_runs.proofs.Safe.{beside_core, runs_beside, sound_beside}

-- ---- what can be decided

dominates_up_to : (counts least : List ℕ) (many : ℕ) → ((server : ℕ) → server < many → slice_index least server ≤ slice_index counts server)
    ⊎ ((server : ℕ) × (server < many) × (slice_index counts server < slice_index least server))
dominates_up_to counts least zero = inl (λ server within. absurd (omega (arith, within)))
dominates_up_to counts least (suc many) = elim (dominates_up_to counts least many)
    as (λ _. ((server : ℕ) → server < suc many → slice_index least server ≤ slice_index counts server) ⊎ ((server : ℕ) × (server < suc many) × (slice_index counts server < slice_index least server))) [
      | inr (server, within, less) ↦ inr (server, omega (arith, within), less)
      | inl all ↦ elim (cases_lt (slice_index counts many) (slice_index least many))
          as (λ _. ((server : ℕ) → server < suc many → slice_index least server ≤ slice_index counts server) ⊎ ((server : ℕ) × (server < suc many) × (slice_index counts server < slice_index least server))) [
            | inl less ↦ inr (many, omega arith, less)
            | inr not_less ↦ inl (λ server within. elim (cases_lt server many) as (λ _. slice_index least server ≤ slice_index counts server) [
              | inl before ↦ all server before
              | inr not_before ↦
                  let same : many ≡ server = omega (arith, within, not_before) in
                  subst (λ n. slice_index least n ≤ slice_index counts n) same (omega (arith, not_less))
            ])
          ]
    ]

dominates : (counts least : List ℕ) → Dominates counts least ⊎ (¬ Dominates counts least)
dominates counts least = elim (dominates_up_to counts least SERVERS) as (λ _. Dominates counts least ⊎ (¬ Dominates counts least)) [
  | inl all ↦ inl all
  | inr (server, within, less) ↦ inr (λ all. omega (arith, less, all server within))
]

-- the tag is that of what the session asked at this place, or isn't
is_its_tag : (who number : ℕ) (tag : Tag) → IsTagOf who number tag ⊎ (¬ IsTagOf who number tag)
is_its_tag who number tag = elim (same_number tag.session.index who) as (λ _. IsTagOf who number tag ⊎ (¬ IsTagOf who number tag)) [
  | inr differs ↦ inr (λ (is : IsTagOf who number tag). differs is.session_is)
  | inl session ↦ elim (same_number tag.run FIRST_RUN) as (λ _. IsTagOf who number tag ⊎ (¬ IsTagOf who number tag)) [
    | inr differs ↦ inr (λ (is : IsTagOf who number tag). differs is.run_is)
    | inl run ↦ elim (same_number tag.number number) as (λ _. IsTagOf who number tag ⊎ (¬ IsTagOf who number tag)) [
      | inr differs ↦ inr (λ (is : IsTagOf who number tag). differs is.number_is)
      | inl same ↦ inl (record { session_is = session; run_is = run; number_is = same })
    ]
  ]
]

-- a Write is held under it, or none is
abbrev IsUnder : (who number : ℕ) → List Made → Type 0
IsUnder who number list = (made : Made) × Contains list made × IsTagOf who number made.tag

abbrev NoneIsUnder : (who number : ℕ) → List Made → Type 0
NoneIsUnder who number list = (made : Made) → Contains list made → ¬ IsTagOf who number made.tag

held_under : (who number : ℕ) (list : List Made) → IsUnder who number list ⊎ NoneIsUnder who number list
held_under who number [] = inr (λ made among is. absurd (omega (arith, among.1)))
held_under who number (first ∷ list) = elim (is_its_tag who number first.tag) as (λ _. IsUnder who number (first ∷ list) ⊎ NoneIsUnder who number (first ∷ list)) [
  | inl is ↦ inl (first, (0, omega arith, refl), is)
  | inr isnt ↦ elim (held_under who number list) as (λ _. IsUnder who number (first ∷ list) ⊎ NoneIsUnder who number (first ∷ list)) [
    | inl (made, among, is) ↦ inl (made, Contains-append_right (first ∷ []) list made among, is)
    | inr none ↦ inr (λ made among is. elim (Contains-append_cases (first ∷ []) list made among) as (λ _. ⊥) [
      | inr behind ↦ none made behind is
      | inl here ↦ elim (Contains-push_cases [] first made here) as (λ _. ⊥) [
        | inl nowhere ↦ omega (arith, nowhere.1)
        | inr same ↦ isnt (subst (λ (m : Made). IsTagOf who number m.tag) (sym same) is)
      ]
    ])
  ]
]

-- what the server may answer to a read
some_answer : (core : Core) (need key : List ℕ) → (result : Result Seen Behind) × Reads core need key result
some_answer core need key = elim (dominates (count_of core.held) need) as (λ _. (result : Result Seen Behind) × Reads core need key result) [
  | inl covered ↦ (Ok (record { value = value_at (replay core.held) key; vector = count_of core.held }), record { covered = covered; value = refl; vector = refl })
  | inr not_covered ↦ (Err (record { vector = count_of core.held }), record { not_covered = not_covered; held = refl })
]

-- why it may make no Write
abbrev MayRefuse : Machine → SessionSets → ServerSets → Type 0
MayRefuse old session server = (fault : WriteFault) × RefusesWrite old.limit session server fault

may_refuse : (old : Machine) (place : ℕ) (session : SessionSets) (told : Told) → NeedsAgree old session told → IsSoundServer (core_at old place) → (fault : WriteFault) × RefusesWrite old.limit session (old.servers place) fault
may_refuse old place session told agree sound = by_doubt (old.servers place).doubt refl
  where
    server : ServerSets
    server = old.servers place

    by_doubt : (doubt : Option Made) → server.doubt ≡ doubt → MayRefuse old session server
    by_doubt (Some made) is = (writing.Down, subst IsSome (sym is) refl)
    by_doubt None up = elim (dominates (count_of (writes server.held)) (write_need told)) as (λ _. MayRefuse old session server) [
      | inr not_covered ↦ (writing.Behind (count_of (writes server.held)), (up, (λ may. not_covered ((agree.write place).0 may)), refl))
      | inl covered ↦
          let ready : IsReady session server = record { up = up; covered = (agree.write place).1 covered } in
          elim (cases_lt (length server.held) old.limit) as (λ _. MayRefuse old session server) [
            | inl less ↦ (writing.OutOfMemory, (ready, less))
            | inr not_less ↦ (writing.LogFull, (ready, omega (arith, not_less, sound.holds.within, length-map server.held (λ (made : Made). made.write))))
          ]
    ]

-- ---- an operation at a stopped server

module _ (plan : Plan) (in_range : IsInRange plan) (have : HaveRows plan) where
  pub read_silent : (front others : List Said) (state new : ScriptState) (old : Machine) (who : SessionId) (place : ℕ) (key : List ℕ) (answer : Answer) → IsAt plan front (read who.index place key ∷ others) state old
      → is_open who.index front ≡ true → (replica : ScriptServer) (now : Seat) → StandsAt state.standing place replica → (seat_of state.standing who).told.begun < MAX_PLACES
      → answer ≡ Lost who → now ≡ begins_read (seat_of state.standing who) → new.standing ≡ with_session (with_server state.standing place replica) who now
      → (filed : List Entry) → Files who.index place (seat_of state.standing who).told (what_told answer) filed
      → new.book ≡ record state.book { entries = state.book.entries ++ filed } → IsTold plan front others (read who.index place key) new old answer
  read_silent front others state new old who place key answer at opened_there replica now stands more is_lost same only filed files books =
      let said = read who.index place key in
      let seat = seat_of state.standing who in
      let seated = at.opened who opened_there in
      let beside = at.each place replica stands in
      let within = known_server plan in_range front (said ∷ others) state old at place replica stands in
      let id = server_id plan in_range place within in
      let answered = some_answer (core_at old place) (read_need seat.told) key in
      let result = answered.0 in
      let row = (have at.events at.replies old at.run).reads_are who id seated.session seat.told (may_begin plan in_range front (said ∷ others) state old at who seated place replica stands more)
      seated.is.telling.stands key result answered.1 in
      let ans = row.2 in
      let did : IsOperation front others said state new old row.0 who place seated.session None (told_of_read key result) (core_at old place) replica replica (begins_read seat) = record {
        opens_none = λ other. refl;
        one = refl;
        stands = stands;
        opened_there = opened_there;
        there = seated.there;
        was = seated.is;
        event = events.Read who id key;
        reply = replies.Read result;
        step = row.1;
        answered = ans;
        beside = λ last core runs. beside_core (has_lost place front) old last place replica (sym core) runs beside;
        telling = read_begins who.index seat seated.session ans.answered seated.is.telling;
      } in
      let is = finish_lost plan front others said state new old row.0 at who place seated.session None (told_of_read key result) (core_at old place) replica replica (begins_read seat) now did only filed books
      (read_answer who key result) answer is_lost same (none_filed who.index place seat.told (what_told answer) filed (ap what_told is_lost) files) in
      record {
        last = is.last;
        turn = record {
          events = events.Read who id key ∷ is.events;
          replies = replies.Read result ∷ is.replies;
          is = IsLine.a_read who id key result answer is.events is.replies is.ends;
          run = is.run;
        };
        at = is.at;
      }

  -- what is in flight to the session that asks, where the server is as it was
  abbrev answered_still : (old : Machine) (who : SessionId) (id : ServerId) (session : SessionSets) (asking : Asking) (what : What) (answered : Answered) → (old.servers id.index).stopped ≡ false
      → IsEntry who.index id.index session what answered.entry → IsAnsweredAt old who.index id.index session (Some asking) what (core_at old id.index) (with_answer old who.index session (Some asking) answered)
  answered_still old who id session asking what answered runs entry = record {
    answered = answered;
    entry = entry;
    flies = changed-same old.sessions who.index (Some (flying_of session (Some asking) answered));
    only = record {
      count = refl;
      limit = refl;
      capacity = refl;
      servers = λ other differs. refl;
      sessions = λ other differs. changed-other old.sessions who.index (Some (flying_of session (Some asking) answered)) other differs;
      offers = refl;
      items = refl;
      served = refl;
      filed = refl;
    };
    runs = runs;
    core_is = refl;
  }

  abbrev entry_of : (who : SessionId) (id : ServerId) (session : SessionSets) (what : What) → Entry
  entry_of who id session what = record { session = who; place = session.begun + 1; asks = session.asks; server = id; what = what; in_range = omega arith }

  -- a Write that is asked, of which the machine's server makes none, or which it holds
  asked_silent : (front : List Said) (said : Said) (others : List Said) (state new : ScriptState) (old : Machine) (at : IsAt plan front (said ∷ others) state old) → OpensNone said → operations (said ∷ []) ≡ 1
      → (who : SessionId) (id : ServerId) (begun_seat now : Seat) (answer : Answer) → is_open who.index front ≡ true → (replica : ScriptServer) → StandsAt state.standing id.index replica
      → answer ≡ Lost who → now ≡ begun_seat → new.standing ≡ with_session (with_server state.standing id.index replica) who now
      → (filed : List Entry) → Files who.index id.index (seat_of state.standing who).told (what_told answer) filed → new.book ≡ record state.book { entries = state.book.entries ++ filed }
      → (session : SessionSets) → old.sessions who.index ≡ Some session → IsSeatOf who.index (seat_of state.standing who) session
      → (asking : Asking) (what : What) (event : Event) (reply : Reply) (next : Machine) → Step old event reply next → (ans : IsAnsweredAt old who.index id.index session (Some asking) what (core_at old id.index) next)
      → IsTelling who.index begun_seat (flying_of session (Some asking) ans.answered) → (told_answer : Answer) → IsToldSo plan front others said new old who event reply told_answer answer
  asked_silent front said others state new old at opens_none one who id begun_seat now answer opened_there replica stands is_lost same only filed files books session there was asking what event reply next step ans telling told_answer =
      let beside = at.each id.index replica stands in
      let did : IsOperation front others said state new old next who id.index session (Some asking) what (core_at old id.index) replica replica begun_seat = record {
        opens_none = opens_none;
        one = one;
        stands = stands;
        opened_there = opened_there;
        there = there;
        was = was;
        event = event;
        reply = reply;
        step = step;
        answered = ans;
        beside = λ last core runs. beside_core (has_lost id.index front) old last id.index replica (sym core) runs beside;
        telling = telling;
      } in
      finish_lost plan front others said state new old next at who id.index session (Some asking) what (core_at old id.index) replica replica begun_seat now did only filed books
      told_answer answer is_lost same (none_filed who.index id.index (seat_of state.standing who).told (what_told answer) filed (ap what_told is_lost) files)

  pub write_silent : (front others : List Said) (state new : ScriptState) (old : Machine) (who : SessionId) (place : ℕ) (program : Program) (answer : Answer) → IsAt plan front (write who.index place program ∷ others) state old
      → is_open who.index front ≡ true → (replica : ScriptServer) (now : Seat) → StandsAt state.standing place replica → (seat_of state.standing who).told.begun < MAX_PLACES
      → answer ≡ Lost who → now ≡ asks_at place program (seat_of state.standing who) → new.standing ≡ with_session (with_server state.standing place replica) who now
      → (filed : List Entry) → Files who.index place (seat_of state.standing who).told (what_told answer) filed
      → new.book ≡ record state.book { entries = state.book.entries ++ filed } → IsTold plan front others (write who.index place program) new old answer
  write_silent front others state new old who place program answer at opened_there replica now stands more is_lost same only filed files books =
      let said = write who.index place program in
      let seat = seat_of state.standing who in
      let seated = at.opened who opened_there in
      let session = seated.session in
      let beside = at.each place replica stands in
      let id = server_id plan in_range place (known_server plan in_range front (said ∷ others) state old at place replica stands) in
      let asking = first_asking place session program in
      let refuses = may_refuse old place session seat.told ((have at.events at.replies old at.run).needs_are session seat.told seated.is.telling.stands) (sound_beside (has_lost place front) old place replica beside) in
      let result : Result Written WriteFault = Err refuses.0 in
      let entry = entry_of who id session whats.Refused in
      let entry_is : IsEntry who.index place session whats.Refused entry = record { session_is = refl; place_is = refl; asks_are = refl; server_is = refl; what_is = refl } in
      let answered = refusal entry in
      let next = with_answer old who.index session (Some asking) answered in
      let step : WriteStep old who.index place program (replies.Wrote result) next = WriteStep.asked session result (may_begin plan in_range front (said ∷ others) state old at who seated place replica stands more)
      (AskStep.refused entry refuses.0 refuses.1 refl entry_is refl) refl in
      let is = asked_silent front said others state new old at (λ other. refl) refl who id (asks_at place program seat) now answer opened_there replica stands is_lost same only filed files books
      session seated.there seated.is asking whats.Refused (events.Write who id program) (replies.Wrote result) next step
      (answered_still old who id session asking whats.Refused answered (runs_beside (has_lost place front) old place replica beside) entry_is)
      (write_begins who.index place program seat session answered seated.is.telling) (write_answer who result) in
      record {
        last = is.last;
        turn = record {
          events = events.Write who id program ∷ is.events;
          replies = replies.Wrote result ∷ is.replies;
          is = IsLine.a_write who id program result answer is.events is.replies is.ends;
          run = is.run;
        };
        at = is.at;
      }

  -- what is told of a Write that is asked again
  record IsAskedAgain (old : Machine) (who : SessionId) (id : ServerId) (session : SessionSets) (asking : Asking) : Type 0 where
    result : Result Written WriteFault
    what : What
    answered : Answered
    entry : IsEntry who.index id.index session what answered.entry
    step : AgainStep old who.index (replies.AskedAgain id result) (with_answer old who.index session (Some asking) answered)

  asked_again : (old : Machine) (who : SessionId) (id : ServerId) (session : SessionSets) (asking : Asking) (told : Told) → id.index ≡ asking.server → MayRepeat old who.index session asking
      → NeedsAgree old session told → IsSoundServer (core_at old asking.server) → IsAskedAgain old who id session asking
  asked_again old who id session asking told named may agree sound = elim (held_under who.index asking.number (old.servers asking.server).held) as (λ _. IsAskedAgain old who id session asking) [
    | inl (made, among, under) ↦
        let accepted : Accepted = record { wid = made.write.wid; stamp = made.write.stamp; deps = count_of made.past; one_origin = made.write.one_origin } in
        let what = whats.Write accepted.wid accepted.stamp accepted.deps in
        let entry = entry_of who id session what in
        let entry_is : IsEntry who.index asking.server session what entry = record { session_is = refl; place_is = refl; asks_are = refl; server_is = named; what_is = refl } in
        let here : IsEntry who.index id.index session what entry = record { session_is = refl; place_is = refl; asks_are = refl; server_is = refl; what_is = refl } in
        record {
          result = Ok (written.Known accepted);
          what = what;
          answered = record { entry = entry; database = made.past; made = Some made };
          entry = here;
          step = AgainStep.known session asking entry made accepted may (record { held = among; under = under }) (record { wid = refl; stamp = refl; deps = refl }) (id, named, refl) entry_is refl;
        }
    | inr none ↦
        let refuses = may_refuse old asking.server session told agree sound in
        let entry = entry_of who id session whats.Refused in
        let entry_is : IsEntry who.index asking.server session whats.Refused entry = record { session_is = refl; place_is = refl; asks_are = refl; server_is = named; what_is = refl } in
        let here : IsEntry who.index id.index session whats.Refused entry = record { session_is = refl; place_is = refl; asks_are = refl; server_is = refl; what_is = refl } in
        record {
          result = Err refuses.0;
          what = whats.Refused;
          answered = refusal entry;
          entry = here;
          step = AgainStep.asked session asking (Err refuses.0) may (λ made holds. none made holds.held holds.under) (AskStep.refused entry refuses.0 refuses.1 refl entry_is refl) (id, named, refl);
        }
  ]

  pub again_silent : (front others : List Said) (state new : ScriptState) (old : Machine) (who : SessionId) (asking : Asking) (answer : Answer) → IsAt plan front (again who.index ∷ others) state old
      → (opened_there : is_open who.index front ≡ true) → (session : SessionSets) → old.sessions who.index ≡ Some session → IsSeatOf who.index (seat_of state.standing who) session → session.asked ≡ Some asking
      → (replica : ScriptServer) (now : Seat) → StandsAt state.standing asking.server replica → (seat_of state.standing who).told.begun < MAX_PLACES
      → answer ≡ Lost who → now ≡ asks_once_more (seat_of state.standing who) → new.standing ≡ with_session (with_server state.standing asking.server replica) who now
      → (filed : List Entry) → Files who.index asking.server (seat_of state.standing who).told (what_told answer) filed
      → new.book ≡ record state.book { entries = state.book.entries ++ filed } → IsTold plan front others (again who.index) new old answer
  again_silent front others state new old who asking answer at opened_there session there was is_asked replica now stands more is_lost same only filed files books =
      let said = again who.index in
      let seat = seat_of state.standing who in
      let place = asking.server in
      let beside = at.each place replica stands in
      let id = server_id plan in_range place (known_server plan in_range front (said ∷ others) state old at place replica stands) in
      let begin : MayBegin old who.index place session = may_begin plan in_range front (said ∷ others) state old at who (record { session = session; there = there; is = was }) place replica stands more in
      let told = asked_again old who id session asking seat.told refl (record { asked = is_asked; begin = begin }) ((have at.events at.replies old at.run).needs_are session seat.told was.telling.stands)
      (sound_beside (has_lost place front) old place replica beside) in
      let next = with_answer old who.index session (Some asking) told.answered in
      let is = asked_silent front said others state new old at (λ other. refl) refl who id (asks_once_more seat) now answer opened_there replica stands is_lost same only filed files books
      session there was asking told.what (events.Again who) (replies.AskedAgain id told.result) next told.step
      (answered_still old who id session asking told.what told.answered (runs_beside (has_lost place front) old place replica beside) told.entry)
      (again_begins who.index seat session asking told.answered is_asked was.telling) (write_answer who told.result) in
      record {
        last = is.last;
        turn = record {
          events = events.Again who ∷ is.events;
          replies = replies.AskedAgain id told.result ∷ is.replies;
          is = IsLine.an_again who id told.result answer is.events is.replies is.ends;
          run = is.run;
        };
        at = is.at;
      }
