-- Each line of a script, with its answer, is told by the machine.
use Rattle.std.proofs.Common.{◌≡◌, ◌≢◌, inl, inr, ◌⊎◌, ℕ, ◌+◌, ◌<◌, ◌≤◌, Bool, true, false, ◌||◌, ◌&&◌, ◌==◌, not, IsTrue, List, [], ◌∷◌, ◌++◌, Result, Ok, Err, Option, None, Some, length, map, nat_lt, ap, sym, ◌∙◌, refl, subst, arith, append_assoc}
use Rattle.std.specs.List.{slice_get, slice_index_or, slice_set}
use Rattle.std.specs.Option.{option_and_then, option_map}
use Rattle.std.proofs.lemmas.Bool.Decides.{nat_tests}
use Rattle.std.proofs.lemmas.List.{length-append, length_push}
use Rattle.std.proofs.lemmas.List.Folds.{list_any-append}
use Rattle.std.proofs.lemmas.Option.{slice_get-get_or}
use Rattle.bayou_base.specs.declared.asks.Asks.{Asks}
use Rattle.bayou_base.specs.declared.limits.TheConstants.{MAX_LINES, MAX_NUMBER, SESSIONS}
use Rattle.bayou_base.specs.declared.server.ServerId.{ServerId}
use Rattle.bayou_base.specs.declared.session.SessionId.{SessionId}
use Rattle.bayou_device.specs.Memory.{Memory, with_fuse}
use Rattle.bayou_device.specs.MemoryDevice.{memory_device}
use Rattle.bayou_lang.specs.declared.program.Program.{Program}
use Rattle.bayou_lang.specs.Writes.{count_of, lacking_of}
use Rattle.bayou_server.specs.declared.answer.Reopened.{Reopened}
use Rattle.bayou_server.specs.declared.fault.JournalFault.TheVariants.{Device, NotAJournal, OtherServer}
use Rattle.bayou_server.specs.declared.fault.ReopenFault.{ReopenFault}
use Rattle.bayou_server.specs.declared.fault.ReopenFault.TheVariants as reopening
use Rattle.bayou_server.specs.Faults.{reopen_refusal}
use Rattle.bayou_server.specs.Honest.{IsHonestAnswer}
use Rattle.bayou_server.specs.Reopens.{Reopens, ReopensAll}
use Rattle.bayou_server.specs.Server.{Core}
use Rattle.bayou_server.specs.Starts.{FailsToStart, Starts}
use Rattle.bayou_text.specs.Said.{Said, servers, session, write, read, again, drop, log, fuse, lose, reopen, restart, pull, resend, totals, judge, survey, book, phase, entry, held}
use Rattle.bayou_script.specs.Script.{Plan, are_servers, is_open, opens}
use Rattle.bayou_answers.specs.declared.answer.Answer.{Answer}
use Rattle.bayou_answers.specs.declared.answer.Answer.TheVariants.{NotAgain, Recovered, Exchanged}
use Rattle.bayou_answers.specs.declared.answer.Recovery.{Recovery}
use Rattle.bayou_answers.specs.declared.answer.Recovery.TheVariants as recoveries
use Rattle.bayou_answers.specs.declared.answer.Transfer.{Transfer}
use Rattle.bayou_answers.specs.declared.answer.Transfer.TheVariants.{NotRunning, Ended}
use Rattle.bayou_peer.specs.Meeting.{Meets}
use Rattle.bayou_machine.specs.declared.script_server.ScriptServer.{ScriptServer}
use Rattle.bayou_machine.specs.declared.script_server.ScriptServer.TheVariants.{Running}
use Rattle.bayou_machine.specs.Exchange.{Exchanges, IsExchanged, own_counts, serving_ways, zero_counts}
use Rattle.bayou_machine.specs.Filed.{Files, what_told}
use Rattle.bayou_machine.specs.Laws.Runs.{operations-first}
use Rattle.bayou_machine.specs.Run.{AsksAgain, Does, Operates, ScriptState, Tries, Turn}
use Rattle.bayou_machine.specs.ScriptServer.{IsRead, IsReopened, IsRestarted, IsWritten, IsWrittenAgain, Serving, device_of, held_at_last, on_device}
use Rattle.bayou_machine.specs.Seats.{Asked, Seat, new_seat}
use Rattle.bayou_machine.specs.Standing.{Standing, StandsAt, asked_by, nothing_asked, seat_of, with_server, with_session}
use Rattle.bayou_session.specs.declared.session.TheConstants.{FIRST_RUN}
use Rattle.bayou_session.specs.Needs.{new_session as first_told}
use Rattle.bayou_world.specs.declared.event.Event.{Event}
use Rattle.bayou_world.specs.declared.event.Event.TheVariants as events_of
use Rattle.bayou_world.specs.declared.reply.Reply.{Reply}
use Rattle.bayou_world.specs.declared.reply.Reply.TheVariants as replies_of
use Rattle.bayou_world.specs.Machine.{Asking, Machine, Made, Offered, ServerSets, writes}
use Rattle.bayou_world.specs.Never.{core_at}
use Rattle.bayou_world.specs.Agreement.{StandsFor}
use Rattle.bayou_world.specs.Rows.{IsOnlyServer}
use Rattle.bayou_world.specs.Runs.{Run, new_session}
use Rattle.bayou_world.specs.Steps.{IsRunning, OfferStep, ReopenStep, RestartStep}
use Rattle.bayou_world.specs.Steps as recovers_of
use Rattle.bayou_runs.specs.Inner.Tie.{HaveRows, IsAt, IsBeside, IsSafe, IsSeated, StayHonest, asked_by_it, first_of_script}
use Rattle.bayou_runs.specs.Lines.{IsLine, has_lost, is_quiet, loses, takes, tells_took}
use Rattle.bayou_runs.specs.Runs.{IsInRange, asks_in}
use Rattle.bayou_runs.proofs.Beginning.{IsTold, same_server}
use Rattle.bayou_runs.proofs.Replying.{again_said, read_said, write_said}
use Rattle.bayou_runs.proofs.Lists.{changed-same, get-append_here, get_within, length-set_it, same_number, some_of}
use Rattle.bayou_runs.proofs.Operating.{OpensNone, moved, run_append, seat_set, server_set, session-ext, stands_again}
use Rattle.bayou_runs.proofs.Orders.{IsPlaced, asks_of_first, opened_behind}
use Rattle.bayou_runs.proofs.Pulling.{IsPulled, IsServerOnly, collected, only_same}
use Rattle.bayou_runs.proofs.Safe.{beside_on, beside_still, device_beside, holds_beside, lost_beside, moved_beside, reopens_one, running_of, runs_beside, safe_reopened, safe_started, sound_beside}

module _ (plan : Plan) (in_range : IsInRange plan) (have : HaveRows plan) (laws : StayHonest) (stands : (id : SessionId) (run : ℕ) (asks : Asks) → StandsFor (first_told id run asks) (new_session asks)) where
  abbrev server_at : (place : ℕ) → place < plan.count → ServerId
  server_at place within = record { index = place; in_range = omega (arith, within, in_range.count) }

  -- ---- lines that leave all as it is

  still : (front : List Said) (said : Said) (others : List Said) (state new : ScriptState) (old : Machine) → IsAt plan front (said ∷ others) state old → OpensNone said → new ≡ state → IsAt plan (front ++ said ∷ []) others new old
  still front said others state new old at opens_none same = subst (λ s. IsAt plan (front ++ said ∷ []) others s old) (sym same)
      (stands_again plan front said others state state old old at (record {
        opens_none = opens_none;
        events = [];
        replies = [];
        run = refl;
        count = refl;
        limit = refl;
        count_is = refl;
        limit_is = refl;
        servers = refl;
        each = λ place replica stood. beside_on front said old place replica (at.each place replica stood);
        sessions = refl;
        seats = at.opened;
        closed = λ who none. refl;
        entries = at.entries;
        room = omega (arith, at.room, operations-first said others);
        offer = refl;
        offers_few = omega arith;
        items_few = omega arith;
      }))

  -- two states of the same servers, sessions and book are one
  same_state : (state new : ScriptState) → new.standing ≡ state.standing → new.book ≡ state.book → new ≡ state
  same_state state new standing books = ap (λ s. record { standing = s; book = new.book }) standing ∙ ap (λ b. record { standing = state.standing; book = b }) books

  quiet_line : (front : List Said) (said : Said) (others : List Said) (state new : ScriptState) (old : Machine) (answer : Answer) → IsAt plan front (said ∷ others) state old → OpensNone said → IsTrue (is_quiet said) → new ≡ state
      → IsTold plan front others said new old answer
  quiet_line front said others state new old answer at opens_none quiet same = record {
    last = old;
    turn = record { events = []; replies = []; is = IsLine.quiet said answer quiet; run = refl };
    at = still front said others state new old at opens_none same;
  }

  -- ---- a session is opened

  opened_line : (front others : List Said) (state new : ScriptState) (old : Machine) (who : SessionId) (asks : Asks) (answer : Answer) → IsAt plan front (session who.index asks ∷ others) state old → is_open who.index front ≡ false
      → new.standing ≡ with_session state.standing who (new_seat who asks) → new.book ≡ state.book → IsTold plan front others (session who.index asks) new old answer
  opened_line front others state new old who asks answer at none only books =
      let said = session who.index asks in
      let sessions : new.standing.sessions ≡ slice_set state.standing.sessions who.index (new_seat who asks) = ap (λ (s : Standing). s.sessions) only in
      let wants : asks_in plan.commands who.index ≡ Some asks = ap (λ list. asks_in list who.index) at.split ∙ asks_of_first front others who.index asks none in
      let there : old.sessions who.index ≡ Some (new_session asks) = at.unopened who.index none ∙ ap (λ o. option_map new_session o) wants in
      let seated : IsSeated old who.index (new_seat who asks) = record {
        session = new_session asks;
        there = there;
        is = record {
          telling = record { id = refl; run = refl; begun = refl; number = refl; asked = refl; stands = stands who FIRST_RUN asks };
          idle = refl;
          filed = refl;
        };
      } in
      let more : length (front ++ said ∷ []) ≡ length front + 1 = length_push front said in
      record {
        last = old;
        turn = record { events = []; replies = []; is = IsLine.quiet said answer refl; run = refl };
        at = record {
          split = at.split ∙ sym (append_assoc front (said ∷ []) others);
          events = at.events;
          replies = at.replies;
          run = at.run;
          count = at.count;
          limit = at.limit;
          count_is = ap (λ (s : Standing). s.count) only ∙ at.count_is;
          limit_is = ap (λ (s : Standing). s.limit) only ∙ at.limit_is;
          one_each = ap (λ (s : Standing). length s.servers) only ∙ at.one_each;
          each = λ place replica is. beside_on front said old place replica (at.each place replica (subst (λ (s : Standing). StandsAt s place replica) only is));
          one_seat_each = ap (λ (list : List Seat). length list) sessions ∙ length-set_it state.standing.sessions who.index (new_seat who asks) ∙ at.one_seat_each;
          known = λ other is. known_too other (same_number who.index other) is;
          opened = λ other is.
              subst (λ (list : List Seat). IsSeated old other.index (slice_index_or list other.index (new_seat other nothing_asked))) (sym sessions)
              (seat_set state.standing who (new_seat who asks) old at.one_seat_each seated other (λ differs. at.opened other (was_open other.index (not_it other.index (λ same. differs (sym same))) is)));
          unopened = λ other not_open. at.unopened other (was_closed other not_open);
          entries = ap (λ (b : _). b.entries) books ∙ at.entries;
          room = omega (arith, at.room, operations-first said others);
          offer = at.offer;
          offers_few = omega (arith, at.offers_few, more);
          items_few = omega (arith, at.items_few, more);
        };
      }
    where
      not_it : (other : ℕ) → who.index ≢ other → (who.index == other) ≡ false
      not_it other differs = elim (who.index == other) as (λ t. (who.index == other) ≡ t → t ≡ false) [
        | true ↦ λ is. absurd (differs (grind (arith, nat_tests)))
        | false ↦ λ e. refl
      ] refl

      drop_last : (a b : Bool) → b ≡ false → (a || ((b || false) || false)) ≡ true → a ≡ true
      drop_last true b none is = refl
      drop_last false true none is = absurd (cc)
      drop_last false false none is = is

      was_open : (other : ℕ) → (who.index == other) ≡ false → is_open other (front ++ session who.index asks ∷ []) ≡ true → is_open other front ≡ true
      was_open other differs is = drop_last (is_open other front) (who.index == other) differs (sym (opened_behind other front (session who.index asks)) ∙ is)

      first_closed : (a b : Bool) → (a || b) ≡ false → a ≡ false
      first_closed true b is = absurd (cc)
      first_closed false b is = refl

      known_too : (other : ℕ) → (who.index ≡ other) ⊎ (who.index ≢ other) → is_open other (front ++ session who.index asks ∷ []) ≡ true → other < SESSIONS
      known_too other (inl same) is = subst (λ n. n < SESSIONS) same who.in_range
      known_too other (inr differs) is = at.known other (drop_last (is_open other front) (who.index == other) (not_it other differs) (sym (opened_behind other front (session who.index asks)) ∙ is))

      was_closed : (other : ℕ) → is_open other (front ++ session who.index asks ∷ []) ≡ false → is_open other front ≡ false
      was_closed other is = first_closed (is_open other front) (opens other (session who.index asks) || false) (sym (opened_behind other front (session who.index asks)) ∙ is)

  -- ---- the reply to a session's next operation is to be dropped

  first_server : (front rest : List Said) (state : ScriptState) (old : Machine) → IsAt plan front rest state old → (replica : ScriptServer) × StandsAt state.standing 0 replica
  first_server front rest state old at = first_in state.standing.servers (omega (arith, at.one_each, in_range.some))
    where
      first_in : (list : List ScriptServer) → 0 < length list → (replica : ScriptServer) × (slice_get list 0 ≡ Some replica)
      first_in [] some = absurd (omega (arith, some))
      first_in (replica ∷ list) some = (replica, refl)

  dropped_line : (front others : List Said) (state new : ScriptState) (old : Machine) (who : SessionId) (answer : Answer) → IsAt plan front (drop who.index ∷ others) state old → is_open who.index front ≡ true
      → new.standing ≡ with_session state.standing who (record (seat_of state.standing who) { drops = true }) → new.book ≡ state.book → IsTold plan front others (drop who.index) new old answer
  dropped_line front others state new old who answer at opened_there only books =
      let said = drop who.index in
      let first = first_server front (said ∷ others) state old at in
      let now = record (seat_of state.standing who) { drops = true } in
      let was = at.opened who opened_there in
      record {
        last = old;
        turn = record { events = []; replies = []; is = IsLine.quiet said answer refl; run = refl };
        at = moved plan front said others state new old old at (λ other. refl) [] [] refl who 0 first.0 first.0 now first.1 opened_there
            (record { count = refl; limit = refl; capacity = refl; servers = λ other differs. refl; sessions = λ other differs. refl; offers = refl; items = refl })
            (at.each 0 first.0 first.1)
            (record {
              session = was.session;
              there = was.there;
              is = record {
                telling = record { id = was.is.telling.id; run = was.is.telling.run; begun = was.is.telling.begun; number = was.is.telling.number; asked = was.is.telling.asked; stands = was.is.telling.stands };
                idle = was.is.idle;
                filed = was.is.filed;
              };
            })
            (only ∙ sym (ap (λ (s : Standing). with_session s who now) (same_server state.standing 0 first.0 first.1)))
            (ap (λ (b : _). b.entries) books ∙ at.entries) (omega (arith, at.room, operations-first said others));
      }

  -- ---- one server is another, and all else is as it was

  -- the script's server changes alone, and so does the machine's, if it does
  changed_at : (front : List Said) (said : Said) (others : List Said) (state new : ScriptState) (old last : Machine) → IsAt plan front (said ∷ others) state old → OpensNone said
      → (events : List Event) (replies : List Reply) → Run old events replies last → (place : ℕ) → IsServerOnly old place last → (before after : ScriptServer) → StandsAt state.standing place before
      → IsBeside (has_lost place (front ++ said ∷ [])) last place after → new.standing ≡ with_server state.standing place after → new.book ≡ state.book → IsAt plan (front ++ said ∷ []) others new last
  changed_at front said others state new old last at opens_none events replies run place apart before after stood beside only books =
      let servers : new.standing.servers ≡ slice_set state.standing.servers place after = ap (λ (s : Standing). s.servers) only in
      let none_more = operations-first said others in
      stands_again plan front said others state new old last at (record {
        opens_none = opens_none;
        events = events;
        replies = replies;
        run = run;
        count = apart.count;
        limit = apart.limit;
        count_is = ap (λ (s : Standing). s.count) only;
        limit_is = ap (λ (s : Standing). s.limit) only;
        servers = ap (λ (list : List ScriptServer). length list) servers ∙ length-set_it state.standing.servers place after;
        each = λ other replica is. server_set (λ n. has_lost n (front ++ said ∷ [])) state.standing place after last (get_within state.standing.servers place before stood) beside
            (λ one found differs there. beside_on front said last one found
            (beside_still (has_lost one front) old last one found apart.count apart.limit (apart.servers one differs) (at.each one found there)))
            other replica (subst (λ (list : List ScriptServer). slice_get list other ≡ Some replica) servers is);
        sessions = ap (λ (s : Standing). length s.sessions) only;
        seats = λ who opened_there.
            let was = at.opened who opened_there in
            subst (λ (s : Standing). IsSeated last who.index (seat_of s who)) (sym only) (record { session = was.session; there = ap (λ f. f who.index) apart.sessions ∙ was.there; is = was.is });
        closed = λ who none. ap (λ f. f who) apart.sessions;
        entries = ap (λ (b : _). b.entries) books ∙ at.entries ∙ sym apart.filed;
        room = omega (arith, at.room, none_more, ap length apart.filed, apart.capacity);
        offer = ap (λ list. slice_get list 0) apart.offers;
        offers_few = omega (arith, ap length apart.offers);
        items_few = omega (arith, ap length apart.items);
      })

  -- a device is to fail, or has lost bytes: the server holds what it held
  device_line : (front : List Said) (said : Said) (others : List Said) (state new : ScriptState) (old : Machine) (answer : Answer) → IsAt plan front (said ∷ others) state old → OpensNone said → IsTrue (is_quiet said)
      → (place : ℕ) (before after : ScriptServer) → StandsAt state.standing place before → IsBeside (has_lost place (front ++ said ∷ [])) old place after → new.standing ≡ with_server state.standing place after → new.book ≡ state.book
      → IsTold plan front others said new old answer
  device_line front said others state new old answer at opens_none quiet place before after stood beside only books = record {
    last = old;
    turn = record { events = []; replies = []; is = IsLine.quiet said answer quiet; run = refl };
    at = changed_at front said others state new old old at opens_none [] [] refl place (only_same old old place refl) before after stood beside only books;
  }

  fuse_line : (front others : List Said) (state new : ScriptState) (old : Machine) (place calls kept : ℕ) (answer : Answer) → IsAt plan front (fuse place calls kept ∷ others) state old → (before : ScriptServer) → StandsAt state.standing place before
      → new.standing ≡ with_server state.standing place (on_device before (with_fuse calls kept (device_of before))) → new.book ≡ state.book → IsTold plan front others (fuse place calls kept) new old answer
  fuse_line front others state new old place calls kept answer at before stood only books =
      device_line front (fuse place calls kept) others state new old answer at (λ who. refl) refl place before (on_device before (with_fuse calls kept (device_of before))) stood
      (beside_on front (fuse place calls kept) old place (on_device before (with_fuse calls kept (device_of before)))
      (moved_beside laws (has_lost place front) old place before (with_fuse calls kept (device_of before)) refl refl (at.each place before stood)))
      only books

  has_lost_now : (place bytes : ℕ) (front : List Said) → has_lost place (front ++ lose place bytes ∷ []) ≡ true
  has_lost_now place bytes front = list_any-append (loses place) front (lose place bytes ∷ []) ∙ (ap (λ b. has_lost place front || (b || false)) it ∙ last_true (has_lost place front))
    where
      it : (place == place) ≡ true
      it = grind (arith, nat_tests)

      last_true : (b : Bool) → (b || true) ≡ true
      last_true true = refl
      last_true false = refl

  lose_line : (front others : List Said) (state new : ScriptState) (old : Machine) (place bytes : ℕ) (answer : Answer) → IsAt plan front (lose place bytes ∷ others) state old → (before : ScriptServer) (device : Memory) → StandsAt state.standing place before
      → new.standing ≡ with_server state.standing place (on_device before device) → new.book ≡ state.book → IsTold plan front others (lose place bytes) new old answer
  lose_line front others state new old place bytes answer at before device stood only books =
      device_line front (lose place bytes) others state new old answer at (λ who. refl) refl place before (on_device before device) stood
      (subst (λ b. IsBeside b old place (on_device before device)) (sym (has_lost_now place bytes front)) (lost_beside (has_lost place front) old place before device (at.each place before stood)))
      only books

  -- ---- a server is reopened or restarted

  -- of an opening the machine changes that server alone
  only_server : (old : Machine) (place : ℕ) (core : Core) (new : Machine) → IsOnlyServer old place core new → (new.servers place).stopped ≡ (old.servers place).stopped → IsServerOnly old place new
  only_server old place core new only stopped = record {
    count = only.count;
    limit = only.limit;
    capacity = only.capacity;
    servers = only.servers;
    stopped = stopped;
    sessions = only.sessions;
    offers = only.offers;
    items = only.items;
    filed = only.filed;
  }

  -- it runs then
  runs_reopened : (old new : Machine) (place : ℕ) (answer : Result Reopened ReopenFault) → ReopenStep old place (replies_of.Reopened answer) new → (old.servers place).stopped ≡ false → (new.servers place).stopped ≡ false
  runs_reopened old new place answer (ReopenStep.skipped not_running is same) runs = absurd (cc)
  runs_reopened old new place answer (ReopenStep.refused fault running refuses is same) runs = ap (λ (m : Machine). (m.servers place).stopped) same ∙ runs
  runs_reopened old new place answer (ReopenStep.reopened adopted server running down recovers is same) runs =
      ap (λ (m : Machine). (m.servers place).stopped) same ∙ (ap (λ (s : ServerSets). s.stopped) (changed-same old.servers place server) ∙ up_then adopted server recovers)
    where
      up_then : (adopted : Option Made) (server : ServerSets) → recovers_of.Recovers (old.servers place) adopted server → server.stopped ≡ false
      up_then None server is = ap (λ (s : ServerSets). s.stopped) is
      up_then (Some made) server is = ap (λ (s : ServerSets). s.stopped) is.1

  runs_restarted : (old new : Machine) (place holds : ℕ) → RestartStep old place (replies_of.Restarted (Ok holds)) new → (new.servers place).stopped ≡ false
  runs_restarted old new place holds (RestartStep.skipped none is same) = absurd (cc)
  runs_restarted old new place holds (RestartStep.refused fault there honest is same) = absurd (cc)
  runs_restarted old new place holds (RestartStep.restarted adopted server there recovers is same) =
      ap (λ (m : Machine). (m.servers place).stopped) same ∙ (ap (λ (s : ServerSets). s.stopped) (changed-same old.servers place server) ∙ up_then adopted server recovers)
    where
      up_then : (adopted : Option Made) (server : ServerSets) → recovers_of.Recovers (old.servers place) adopted server → server.stopped ≡ false
      up_then None server is = ap (λ (s : ServerSets). s.stopped) is
      up_then (Some made) server is = ap (λ (s : ServerSets). s.stopped) is.1

  honest_or : (fault : ReopenFault) → IsHonestAnswer (Err fault) ⊎ (¬ IsHonestAnswer (Err fault))
  honest_or reopening.NotDown = inl tt
  honest_or (reopening.Journal Device) = inl tt
  honest_or (reopening.Journal NotAJournal) = inr (λ none. none)
  honest_or (reopening.Journal OtherServer) = inr (λ none. none)
  honest_or reopening.Lost = inr (λ none. none)
  honest_or (reopening.BadRecord at) = inr (λ none. none)
  honest_or reopening.OutOfMemory = inl tt

  -- another journal is found only where bytes were lost
  was_lost : (lost : Bool) (fault : ReopenFault) → (lost ≡ false → IsHonestAnswer (Err fault)) → (¬ IsHonestAnswer (Err fault)) → lost ≡ true
  was_lost true fault honest dishonest = refl
  was_lost false fault honest dishonest = absurd (dishonest (honest refl))

  -- a refused reopening leaves what is held
  core_stays : (old new : Core) (fault : ReopenFault) → Reopens old (Err fault) new → new ≡ old
  core_stays old new reopening.NotDown is = is.1
  core_stays old new (reopening.Journal fault) is = is.1
  core_stays old new reopening.Lost is = is.1
  core_stays old new (reopening.BadRecord at) is = is.2
  core_stays old new reopening.OutOfMemory is = is.1

  -- the script's server was reopened, or wasn't, and so does the machine's
  reopened_line : (front others : List Said) (state new : ScriptState) (old : Machine) (id : ServerId) (answer told_answer : Answer) → IsAt plan front (reopen id.index ∷ others) state old
      → (before : ScriptServer) → StandsAt state.standing id.index before → (server now : Serving) → before ≡ Running server → (result : Result Reopened ReopenFault) → IsHonestAnswer result
      → ReopensAll server.core server.taking result now.core → IsSafe (has_lost id.index front) now
      → IsLine front old (reopen id.index) told_answer (events_of.Reopen id ∷ []) (replies_of.Reopened result ∷ []) → answer ≡ told_answer
      → new.standing ≡ with_server state.standing id.index (Running now) → new.book ≡ state.book → IsTold plan front others (reopen id.index) new old answer
  reopened_line front others state new old id answer told_answer at before stood server now was result honest reopens safe line is_told only books =
      let place = id.index in
      let said = reopen place in
      let beside = at.each place before stood in
      let there = running_of (has_lost place front) old place before beside server was in
      let runs = runs_beside (has_lost place front) old place before beside in
      let running : IsRunning old place = record { there = omega (arith, get_within state.standing.servers place before stood, at.one_each, at.count); runs = runs } in
      let row = (have at.events at.replies old at.run).reopens_are id running result now.core honest (subst (λ c. Reopens c result now.core) there.0 (reopens_one laws server now result there.1.alone reopens)) in
      let next = row.0 in
      let runs_next = runs_reopened old next place result row.1 runs in
      record {
        last = next;
        turn = record {
          events = events_of.Reopen id ∷ [];
          replies = replies_of.Reopened result ∷ [];
          is = subst (λ (a : Answer). IsLine front old said a (events_of.Reopen id ∷ []) (replies_of.Reopened result ∷ [])) (sym is_told) line;
          run = (next, row.1, refl);
        };
        at = changed_at front said others state new old next at (λ who. refl) (events_of.Reopen id ∷ []) (replies_of.Reopened result ∷ []) (next, row.1, refl) place
            (only_server old place now.core next row.2 (runs_next ∙ sym runs)) before (Running now) stood
            (beside_on front said next place (Running now) (inl (record { server = now; is = refl; core_is = row.2.core_is; safe = safe; runs = runs_next })))
            only books;
      }

  -- all stands as it did: no event
  unchanged_line : (front : List Said) (said : Said) (others : List Said) (state new : ScriptState) (old : Machine) (answer : Answer) → IsAt plan front (said ∷ others) state old → OpensNone said
      → (place : ℕ) (before : ScriptServer) → StandsAt state.standing place before → new.standing ≡ with_server state.standing place before → new.book ≡ state.book → IsLine front old said answer [] [] → IsTold plan front others said new old answer
  unchanged_line front said others state new old answer at opens_none place before stood only books line = record {
    last = old;
    turn = record { events = []; replies = []; is = line; run = refl };
    at = still front said others state new old at opens_none (same_state state new (only ∙ same_server state.standing place before stood) books);
  }

  reopen_line : (front others : List Said) (state new : ScriptState) (old : Machine) (id : ServerId) (answer : Answer) → IsAt plan front (reopen id.index ∷ others) state old
      → (recovery : Recovery) → answer ≡ Recovered recovery → (before after : ScriptServer) → StandsAt state.standing id.index before → IsReopened id before recovery after
      → new.standing ≡ with_server state.standing id.index after → new.book ≡ state.book → IsTold plan front others (reopen id.index) new old answer
  reopen_line front others state new old id answer at (recoveries.Reopened name adopted) is before after stood (named, (server, now, was, then, reopens, journal, calls, sound_before, sound, chains, alone)) only books =
      let result : Result Reopened ReopenFault = Ok (record { adopted = adopted }) in
      let there = running_of (has_lost id.index front) old id.index before (at.each id.index before stood) server was in
      reopened_line front others state new old id answer (Recovered (recoveries.Reopened id adopted)) at before stood server now was result tt reopens
      (safe_reopened laws (has_lost id.index front) server now there.1 result reopens journal sound chains alone)
      (IsLine.reopened id adopted) (is ∙ ap (λ n. Recovered (recoveries.Reopened n adopted)) named) (only ∙ ap (λ a. with_server state.standing id.index a) then) books
  reopen_line front others state new old id answer at (recoveries.NotReopened refusal) is before after stood (server, now, fault, was, then, told_so, reopens, journal, calls, sound_before, sound, chains, taking) only books =
      let result : Result Reopened ReopenFault = Err fault in
      let beside = at.each id.index before stood in
      let there = running_of (has_lost id.index front) old id.index before beside server was in
      let safe = safe_reopened laws (has_lost id.index front) server now there.1 result reopens journal sound chains (taking ∙ there.1.alone) in
      let is_told : answer ≡ Recovered (recoveries.NotReopened (reopen_refusal fault)) = is ∙ ap (λ r. Recovered (recoveries.NotReopened r)) told_so in
      let stands_so = only ∙ ap (λ a. with_server state.standing id.index a) then in
      elim (honest_or fault) as (λ _. IsTold plan front others (reopen id.index) new old answer) [
        | inl honest ↦ reopened_line front others state new old id answer (Recovered (recoveries.NotReopened (reopen_refusal fault))) at before stood server now was result honest reopens safe
            (IsLine.not_reopened id fault honest) is_told stands_so books
        | inr dishonest ↦ record {
          last = old;
          turn = record { events = []; replies = []; is = subst (λ (a : Answer). IsLine front old (reopen id.index) a [] []) (sym is_told) (IsLine.finds_another id fault (was_lost (has_lost id.index front) fault (λ none. laws.answered result server now there.1.sound (there.1.honest none) (reopens_one laws server now result there.1.alone reopens) journal) dishonest) dishonest); run = refl };
          at = changed_at front (reopen id.index) others state new old old at (λ who. refl) [] [] refl id.index (only_same old old id.index refl) before (Running now) stood
              (beside_on front (reopen id.index) old id.index (Running now) (inl (record {
                server = now;
                is = refl;
                core_is = core_stays server.core now.core fault reopens ∙ there.0;
                safe = safe;
                runs = runs_beside (has_lost id.index front) old id.index before beside;
              })))
              stands_so books;
        }
      ]
  reopen_line front others state new old id answer at recoveries.NotRunning is before after stood (left, was, same) only books =
      unchanged_line front (reopen id.index) others state new old answer at (λ who. refl) id.index before stood (only ∙ ap (λ a. with_server state.standing id.index a) same) books
      (subst (λ (a : Answer). IsLine front old (reopen id.index) a [] []) (sym is) (IsLine.of_stopped (reopen id.index) recoveries.NotRunning tt))
  reopen_line front others state new old id answer at (recoveries.Restarted name holds dropped) is before after stood none only books = absurd none
  reopen_line front others state new old id answer at (recoveries.NotRestarted refusal) is before after stood none only books = absurd none

  restart_line : (front others : List Said) (state new : ScriptState) (old : Machine) (id : ServerId) (answer : Answer) → IsAt plan front (restart id.index ∷ others) state old → has_lost id.index front ≡ false
      → (recovery : Recovery) → answer ≡ Recovered recovery → (before after : ScriptServer) → StandsAt state.standing id.index before → IsRestarted plan.count plan.limit id before recovery after
      → new.standing ≡ with_server state.standing id.index after → new.book ≡ state.book → IsTold plan front others (restart id.index) new old answer
  restart_line front others state new old id answer at whole (recoveries.Restarted name holds dropped) is before after stood (named, (now, then, many, started)) only books =
      let place = id.index in
      let said = restart place in
      let beside = at.each place before stood in
      let device = device_beside laws (has_lost place front) old place before beside whole in
      let sound = sound_beside (has_lost place front) old place before beside in
      let within : place < old.count = omega (arith, get_within state.standing.servers place before stood, at.one_each, at.count) in
      let starts : Starts place old.count old.limit now.core = subst (λ n. Starts place n old.limit now.core) (sym at.count) (subst (λ n. Starts place plan.count n now.core) (sym at.limit) started.starts) in
      let honest = laws.found (core_at old place) dropped (device_of before) now sound device starts started.opens in
      let row = (have at.events at.replies old at.run).starts_are id within now.core starts honest in
      let next = row.0 in
      let runs_next = runs_restarted old next place (length now.core.held) row.1 in
      let is_told : answer ≡ Recovered (recoveries.Restarted id (length now.core.held) dropped) =
      is ∙ (ap (λ n. Recovered (recoveries.Restarted n holds dropped)) named ∙ ap (λ n. Recovered (recoveries.Restarted id n dropped)) many) in
      let events = events_of.Restart id ∷ [] in
      let replies = replies_of.Restarted (Ok (length now.core.held)) ∷ [] in
      record {
        last = next;
        turn = record {
          events = events;
          replies = replies;
          is = subst (λ (a : Answer). IsLine front old said a events replies) (sym is_told) (IsLine.restarted id (length now.core.held) dropped);
          run = (next, row.1, refl);
        };
        at = changed_at front said others state new old next at (λ who. refl) events replies (next, row.1, refl) place
            (only_server old place now.core next row.2 (runs_next ∙ sym (runs_beside (has_lost place front) old place before beside))) before after stood
            (beside_on front said next place after (inl (record { server = now; is = then; core_is = row.2.core_is; safe = safe_started laws (has_lost place front) plan.count plan.limit place (device_of before) now dropped started; runs = runs_next })))
            only books;
      }
  restart_line front others state new old id answer at whole (recoveries.NotRestarted refusal) is before after stood (left, then, same, refused) only books =
      let place = id.index in
      let said = restart place in
      let beside = at.each place before stood in
      let core = core_at old place in
      let sound = sound_beside (has_lost place front) old place before beside in
      let fails : FailsToStart memory_device place old.count old.limit (device_of before) left.device refusal =
      subst (λ n. FailsToStart memory_device place n old.limit (device_of before) left.device refusal) (sym at.count) (subst (λ n. FailsToStart memory_device place plan.count n (device_of before) left.device refusal) (sym at.limit) refused.fails) in
      let honest = laws.refused core (device_of before) left.device refusal sound (device_beside laws (has_lost place front) old place before beside whole) fails refused.safe in
      record {
        last = old;
        turn = record { events = []; replies = []; is = subst (λ (a : Answer). IsLine front old said a [] []) (sym is) (IsLine.of_stopped said (recoveries.NotRestarted refusal) tt); run = refl };
        at = changed_at front said others state new old old at (λ who. refl) [] [] refl place (only_same old old place refl) before after stood
            (beside_on front said old place after (inr (record {
              left = left;
              is = then;
              last_is = sym (ap held_at_last then) ∙ (same ∙ holds_beside (has_lost place front) old place before beside);
              sound = sound;
              honest = λ none. honest;
              runs = runs_beside (has_lost place front) old place before beside;
            })))
            only books;
      }
  restart_line front others state new old id answer at whole (recoveries.Reopened name adopted) is before after stood none only books = absurd none
  restart_line front others state new old id answer at whole (recoveries.NotReopened refusal) is before after stood none only books = absurd none
  restart_line front others state new old id answer at whole recoveries.NotRunning is before after stood none only books = absurd none

  -- ---- a pull, and a resend

  running_there : (front rest : List Said) (state : ScriptState) (old : Machine) (at : IsAt plan front rest state old) (place : ℕ) (replica : ScriptServer) → StandsAt state.standing place replica → IsRunning old place
  running_there front rest state old at place replica stood =
      record { there = omega (arith, get_within state.standing.servers place replica stood, at.one_each, at.count); runs = runs_beside (has_lost place front) old place replica (at.each place replica stood) }

  -- what the script and the machine are behind an exchange
  exchange_at : (front : List Said) (said : Said) (others : List Said) (state new : ScriptState) (old mid : Machine) (at : IsAt plan front (said ∷ others) state old) → OpensNone said
      → (events : List Event) (replies : List Reply) → Run old events replies mid → mid.count ≡ old.count → mid.limit ≡ old.limit → mid.capacity ≡ old.capacity → mid.servers ≡ old.servers → mid.sessions ≡ old.sessions
      → mid.filed ≡ old.filed → mid.items ≡ old.items → slice_get mid.offers 0 ≡ slice_get old.offers 0 → length mid.offers ≤ length old.offers + 1
      → (to source : ServerId) (offer : ℕ) (result : _) (now : Serving) → (pulled : IsPulled (has_lost to.index front) mid to source offer result now) → (before after : ScriptServer) → StandsAt state.standing to.index before → after ≡ Running now
      → new.standing ≡ with_server state.standing to.index after → new.book ≡ state.book → IsAt plan (front ++ said ∷ []) others new pulled.last
  exchange_at front said others state new old mid at opens_none events replies run count limit capacity same_servers same_sessions same_filed same_items offer_there offers_few to source offer result now pulled before after stood is only books =
      let last = pulled.last in
      let servers : new.standing.servers ≡ slice_set state.standing.servers to.index after = ap (λ (s : Standing). s.servers) only in
      let none_more = operations-first said others in
      stands_again plan front said others state new old last at (record {
        opens_none = opens_none;
        events = events ++ events_of.Collect source offer ∷ takes to (length mid.items) (length pulled.told);
        replies = replies ++ replies_of.Flown (length mid.items) pulled.number ∷ map tells_took pulled.told;
        run = run_append old mid last events replies (events_of.Collect source offer ∷ takes to (length mid.items) (length pulled.told)) (replies_of.Flown (length mid.items) pulled.number ∷ map tells_took pulled.told) run pulled.run;
        count = pulled.only.count ∙ count;
        limit = pulled.only.limit ∙ limit;
        count_is = ap (λ (s : Standing). s.count) only;
        limit_is = ap (λ (s : Standing). s.limit) only;
        servers = ap (λ (list : List ScriptServer). length list) servers ∙ length-set_it state.standing.servers to.index after;
        each = λ other replica is_there. server_set (λ n. has_lost n (front ++ said ∷ [])) state.standing to.index after last (get_within state.standing.servers to.index before stood)
            (beside_on front said last to.index after (inl (record {
              server = now;
              is = is;
              core_is = pulled.core_is;
              safe = pulled.safe;
              runs = pulled.only.stopped ∙ (ap (λ f. (f to.index).stopped) same_servers ∙ runs_beside (has_lost to.index front) old to.index before (at.each to.index before stood));
            })))
            (λ one found differs there. beside_on front said last one found
            (beside_still (has_lost one front) old last one found (pulled.only.count ∙ count) (pulled.only.limit ∙ limit) (pulled.only.servers one differs ∙ ap (λ f. f one) same_servers) (at.each one found there)))
            other replica (subst (λ (list : List ScriptServer). slice_get list other ≡ Some replica) servers is_there);
        sessions = ap (λ (s : Standing). length s.sessions) only;
        seats = λ who opened_there.
            let was = at.opened who opened_there in
            subst (λ (s : Standing). IsSeated last who.index (seat_of s who)) (sym only)
            (record { session = was.session; there = ap (λ f. f who.index) (pulled.only.sessions ∙ same_sessions) ∙ was.there; is = was.is });
        closed = λ who none. ap (λ f. f who) (pulled.only.sessions ∙ same_sessions);
        entries = ap (λ (b : _). b.entries) books ∙ at.entries ∙ sym (pulled.only.filed ∙ same_filed);
        room = omega (arith, at.room, none_more, ap length (pulled.only.filed ∙ same_filed), pulled.only.capacity ∙ capacity);
        offer = ap (λ list. slice_get list 0) pulled.only.offers ∙ offer_there;
        offers_few = omega (arith, offers_few, ap length pulled.only.offers);
        items_few = omega (arith, ap length pulled.only.items, length-append mid.items pulled.lacking, ap length same_items, pulled.few);
      })

  serves : (front rest : List Said) (state : ScriptState) (old : Machine) → IsAt plan front rest state old → (place : ℕ) (replica : ScriptServer) → StandsAt state.standing place replica → (server : Serving) → replica ≡ Running server
      → (server.core ≡ core_at old place) × IsSafe (has_lost place front) server
  serves front rest state old at place replica stood server is = running_of (has_lost place front) old place replica (at.each place replica stood) server is

  pull_line : (front others : List Said) (state new : ScriptState) (old : Machine) (to source : ℕ) (cut : Option ℕ) (answer : Answer) → IsAt plan front (pull to source cut ∷ others) state old → length front < MAX_LINES
      → Exchanges own_counts cut state.standing to source answer new.standing → new.book ≡ state.book → IsTold plan front others (pull to source cut) new old answer
  pull_line front others state new old to source cut answer at lines exchange books = by_transfer exchange.exchange exchange.answered exchange.does
    where
      said : Said
      said = pull to source cut

      by_transfer : (transfer : Transfer) → answer ≡ Exchanged transfer → IsExchanged (own_counts exchange.before) cut exchange.before exchange.sender transfer exchange.after → IsTold plan front others (pull to source cut) new old answer
      by_transfer NotRunning is (stopped, same) =
          unchanged_line front (pull to source cut) others state new old answer at (λ who. refl) to exchange.before exchange.takes (exchange.only ∙ ap (λ a. with_server state.standing to a) same) books
          (subst (λ (a : Answer). IsLine front old (pull to source cut) a [] []) (sym is) (IsLine.not_running (pull to source cut)))
      by_transfer (Ended result) is (server, now, other, was, sends, after, meets) =
          let rest = pull to source cut ∷ others in
          let within : to < plan.count = omega (arith, get_within state.standing.servers to exchange.before exchange.takes, at.one_each) in
          let within_source : source < plan.count = omega (arith, get_within state.standing.servers source exchange.sender exchange.sends, at.one_each) in
          let taker = server_at to within in
          let giver = server_at source within_source in
          let running = running_there front rest state old at to exchange.before exchange.takes in
          let running_source = running_there front rest state old at source exchange.sender exchange.sends in
          let offered : Offered = record { server = to; database = writes (old.servers to).held } in
          let mid = record old { offers = old.offers ++ offered ∷ [] } in
          let few : length old.offers ≤ MAX_NUMBER = omega (arith, at.offers_few, lines) in
          let offer : OfferStep old to (replies_of.Kept (length old.offers)) mid = OfferStep.kept running few refl refl in
          let run : Run old (events_of.Offer taker ∷ []) (replies_of.Kept (length old.offers) ∷ []) mid = (mid, offer, refl) in
          let takes_there = serves front rest state old at to exchange.before exchange.takes server was in
          let sends_there = serves front rest state old at source exchange.sender exchange.sends other sends in
          let counts : own_counts exchange.before ≡ count_of offered.database = ap own_counts was ∙ ap (λ (c : Core). count_of c.held) takes_there.0 in
          let pulled = collected laws (has_lost to front) (first_of_script plan) have (at.events ++ events_of.Offer taker ∷ []) (at.replies ++ replies_of.Kept (length old.offers) ∷ []) mid
          (run_append (first_of_script plan) old mid at.events at.replies (events_of.Offer taker ∷ []) (replies_of.Kept (length old.offers) ∷ []) at.run run)
          taker giver (length old.offers) offered (get-append_here old.offers [] offered) (record { there = running.there; runs = running.runs }) (record { there = running_source.there; runs = running_source.runs })
          server other now takes_there.0 takes_there.1 sends_there.0 sends_there.1.sound (omega (arith, at.limit, in_range.limit)) (omega (arith, at.items_few, lines)) cut result
          (subst (λ c. Meets serving_ways (lacking_of c other.core.held) cut server result now) counts meets) in
          record {
            last = pulled.last;
            turn = record {
              events = events_of.Offer taker ∷ events_of.Collect giver (length old.offers) ∷ takes taker (length old.items) (length pulled.told);
              replies = replies_of.Kept (length old.offers) ∷ replies_of.Flown (length old.items) pulled.number ∷ map tells_took pulled.told;
              is = subst (λ (a : Answer). IsLine front old (pull to source cut) a (events_of.Offer taker ∷ events_of.Collect giver (length old.offers) ∷ takes taker (length old.items) (length pulled.told))
                  (replies_of.Kept (length old.offers) ∷ replies_of.Flown (length old.items) pulled.number ∷ map tells_took pulled.told)) (sym is) (IsLine.a_pull taker giver cut pulled.number pulled.told result pulled.ends);
              run = (mid, offer, pulled.run);
            };
            at = exchange_at front (pull to source cut) others state new old mid at (λ other_one. refl) (events_of.Offer taker ∷ []) (replies_of.Kept (length old.offers) ∷ []) run refl refl refl refl refl refl refl
                (first_stays old.offers offered at.offer) (omega (arith, length_push old.offers offered)) taker giver (length old.offers) result now pulled exchange.before exchange.after exchange.takes after exchange.only books;
          }
        where
          first_stays : (list : List Offered) (more : Offered) → slice_get list 0 ≡ Some (record { server = 0; database = [] }) → slice_get (list ++ more ∷ []) 0 ≡ slice_get list 0
          first_stays [] more is_there = absurd (cc)
          first_stays (first ∷ list) more is_there = refl

  resend_line : (front others : List Said) (state new : ScriptState) (old : Machine) (to source : ℕ) (answer : Answer) → IsAt plan front (resend to source ∷ others) state old → length front < MAX_LINES
      → Exchanges zero_counts None state.standing to source answer new.standing → new.book ≡ state.book → IsTold plan front others (resend to source) new old answer
  resend_line front others state new old to source answer at lines exchange books = by_transfer exchange.exchange exchange.answered exchange.does
    where
      by_transfer : (transfer : Transfer) → answer ≡ Exchanged transfer → IsExchanged (zero_counts exchange.before) None exchange.before exchange.sender transfer exchange.after → IsTold plan front others (resend to source) new old answer
      by_transfer NotRunning is (stopped, same) =
          unchanged_line front (resend to source) others state new old answer at (λ who. refl) to exchange.before exchange.takes (exchange.only ∙ ap (λ a. with_server state.standing to a) same) books
          (subst (λ (a : Answer). IsLine front old (resend to source) a [] []) (sym is) (IsLine.not_running (resend to source)))
      by_transfer (Ended result) is (server, now, other, was, sends, after, meets) =
          let rest = resend to source ∷ others in
          let within : to < plan.count = omega (arith, get_within state.standing.servers to exchange.before exchange.takes, at.one_each) in
          let within_source : source < plan.count = omega (arith, get_within state.standing.servers source exchange.sender exchange.sends, at.one_each) in
          let taker = server_at to within in
          let giver = server_at source within_source in
          let running = running_there front rest state old at to exchange.before exchange.takes in
          let running_source = running_there front rest state old at source exchange.sender exchange.sends in
          let takes_there = serves front rest state old at to exchange.before exchange.takes server was in
          let sends_there = serves front rest state old at source exchange.sender exchange.sends other sends in
          let pulled = collected laws (has_lost to front) (first_of_script plan) have at.events at.replies old at.run taker giver 0 (record { server = 0; database = [] }) at.offer running running_source
          server other now takes_there.0 takes_there.1 sends_there.0 sends_there.1.sound (omega (arith, at.limit, in_range.limit)) (omega (arith, at.items_few, lines)) None result meets in
          record {
            last = pulled.last;
            turn = record {
              events = events_of.Collect giver 0 ∷ takes taker (length old.items) (length pulled.told);
              replies = replies_of.Flown (length old.items) pulled.number ∷ map tells_took pulled.told;
              is = subst (λ (a : Answer). IsLine front old (resend to source) a (events_of.Collect giver 0 ∷ takes taker (length old.items) (length pulled.told)) (replies_of.Flown (length old.items) pulled.number ∷ map tells_took pulled.told)) (sym is) (IsLine.a_resend taker giver pulled.number pulled.told result pulled.ends);
              run = pulled.run;
            };
            at = exchange_at front (resend to source) others state new old old at (λ other_one. refl) [] [] refl refl refl refl refl refl refl refl
                refl (omega arith) taker giver 0 result now pulled exchange.before exchange.after exchange.takes after exchange.only books;
          }

  -- ---- each line

  and_left : (a b : Bool) → (a && b) ≡ true → a ≡ true
  and_left true b is = refl
  and_left false b is = absurd (cc)

  and_right : (a b : Bool) → (a && b) ≡ true → b ≡ true
  and_right true b is = is
  and_right false b is = absurd (cc)

  not_true : (a : Bool) → not a ≡ true → a ≡ false
  not_true true is = absurd (cc)
  not_true false is = refl

  -- a session that a line uses was opened, and one that it opens wasn't
  is_used : (a b c d e : Bool) → (a && (b && ((c && d) && e))) ≡ true → c ≡ true
  is_used a b c d e is = and_left c d (and_left (c && d) e (and_right b ((c && d) && e) (and_right a (b && ((c && d) && e)) is)))

  is_new : (a b c d : Bool) → (a && ((not b && c) && d)) ≡ true → b ≡ false
  is_new a b c d is = not_true b (and_left (not b) c (and_left (not b && c) d (and_right a ((not b && c) && d) is)))

  -- the Write that a session may ask again
  asked_of : (standing : Standing) (who : SessionId) → length standing.sessions ≡ SESSIONS → asked_by standing who.index ≡ (seat_of standing who).asked
  asked_of standing who many =
      ap (λ o. option_and_then (λ (seat : Seat). seat.asked) o) (slice_get-get_or standing.sessions who.index (new_seat who nothing_asked) (omega (arith, many, who.in_range)))

  -- the machine's session may ask the same again
  asking_of : (asked : Option Asking) (one : Asked) → option_map asked_by_it asked ≡ Some one → (asking : Asking) × (asked ≡ Some asking) × (asked_by_it asking ≡ one)
  asking_of None one is = absurd (cc)
  asking_of (Some asking) one is = (asking, refl, some_of (asked_by_it asking) one is)

  none_of : (asked : Option Asking) → option_map asked_by_it asked ≡ None → asked ≡ None
  none_of None is = refl
  none_of (Some asking) is = absurd (cc)

  again_line : (front others : List Said) (state new : ScriptState) (old : Machine) (who : SessionId) (answer : Answer) → IsAt plan front (again who.index ∷ others) state old → is_open who.index front ≡ true
      → Turn state (again who.index) answer new → IsTold plan front others (again who.index) new old answer
  again_line front others state new old who answer at opened_there turn = by_asked (asked_by state.standing who.index) refl turn
    where
      by_asked : (asked : Option Asked) → asked_by state.standing who.index ≡ asked → Does (option_map (λ (a : Asked). (who.index, a.server)) asked) state (again who.index) answer new → IsTold plan front others (again who.index) new old answer
      by_asked None none leaves =
          let step = subst (λ o. AsksAgain o state.standing who.index answer new.standing) none leaves.step in
          let seated = at.opened who opened_there in
          record {
            last = old;
            turn = record {
              events = [];
              replies = [];
              is = subst (λ (a : Answer). IsLine front old (again who.index) a [] []) (sym (step.2 ∙ ap NotAgain (session-ext step.0 who step.1)))
                  (IsLine.not_again who seated.session seated.there (none_of seated.session.asked (sym seated.is.telling.asked ∙ (sym (asked_of state.standing who at.one_seat_each) ∙ none))));
              run = refl;
            };
            at = still front (again who.index) others state new old at (λ other. refl) (same_state state new step.3 leaves.same);
          }
      by_asked (Some asked) some tries =
          let seated = at.opened who opened_there in
          let asking = asking_of seated.session.asked asked (sym seated.is.telling.asked ∙ (sym (asked_of state.standing who at.one_seat_each) ∙ some)) in
          let step : Operates (λ name. IsWrittenAgain name asked.program) state.standing who.index asked.server answer new.standing = subst (λ o. AsksAgain o state.standing who.index answer new.standing) some tries.step in
          by_asking asked asking.0 asking.2 asking.1 step tries
        where
          by_asking : (asked : Asked) (asking : Asking) → asked_by_it asking ≡ asked → (at.opened who opened_there).session.asked ≡ Some asking
              → Operates (λ name. IsWrittenAgain name asked.program) state.standing who.index asked.server answer new.standing → Tries state who.index asked.server (again who.index) answer new → IsTold plan front others (again who.index) new old answer
          by_asking asked asking same is_asked step tries =
              let seated = at.opened who opened_there in
              let own : step.name ≡ who = session-ext step.name who step.is_named in
              let theirs : tries.name ≡ who = session-ext tries.name who tries.is_named in
              let does = subst (λ (n : SessionId). IsWrittenAgain n asked.program step.before (seat_of state.standing n) answer step.after step.now) own step.does in
              let only = subst (λ (n : SessionId). new.standing ≡ with_session (with_server state.standing asked.server step.after) n step.now) own step.only in
              let files = subst (λ (n : SessionId). Files who.index asked.server (seat_of state.standing n).told (what_told answer) tries.filed) theirs tries.files in
              again_said plan in_range have laws front others state new old who asking answer at opened_there seated.session seated.there seated.is is_asked step.before step.after step.now
              (subst (λ (a : Asked). StandsAt state.standing a.server step.before) (sym same) step.stands)
              (subst (λ (a : Asked). IsWrittenAgain who a.program step.before (seat_of state.standing who) answer step.after step.now) (sym same) does)
              (subst (λ (a : Asked). new.standing ≡ with_session (with_server state.standing a.server step.after) who step.now) (sym same) only)
              tries.filed (subst (λ (a : Asked). Files who.index a.server (seat_of state.standing who).told (what_told answer) tries.filed) (sym same) files) tries.only

  write_line : (front others : List Said) (state new : ScriptState) (old : Machine) (who : SessionId) (place : ℕ) (program : Program) (answer : Answer) → IsAt plan front (write who.index place program ∷ others) state old
      → is_open who.index front ≡ true → Tries state who.index place (write who.index place program) answer new → IsTold plan front others (write who.index place program) new old answer
  write_line front others state new old who place program answer at opened_there tries =
      let step = tries.step in
      let own : step.name ≡ who = session-ext step.name who step.is_named in
      let theirs : tries.name ≡ who = session-ext tries.name who tries.is_named in
      write_said plan in_range have laws front others state new old who place program answer at opened_there step.before step.after step.now step.stands
      (subst (λ (n : SessionId). IsWritten n place program step.before (seat_of state.standing n) answer step.after step.now) own step.does)
      (subst (λ (n : SessionId). new.standing ≡ with_session (with_server state.standing place step.after) n step.now) own step.only)
      tries.filed (subst (λ (n : SessionId). Files who.index place (seat_of state.standing n).told (what_told answer) tries.filed) theirs tries.files) tries.only

  read_line : (front others : List Said) (state new : ScriptState) (old : Machine) (who : SessionId) (place : ℕ) (key : List ℕ) (answer : Answer) → IsAt plan front (read who.index place key ∷ others) state old
      → is_open who.index front ≡ true → Tries state who.index place (read who.index place key) answer new → IsTold plan front others (read who.index place key) new old answer
  read_line front others state new old who place key answer at opened_there tries =
      let step = tries.step in
      let own : step.name ≡ who = session-ext step.name who step.is_named in
      let theirs : tries.name ≡ who = session-ext tries.name who tries.is_named in
      read_said plan in_range have laws front others state new old who place key answer at opened_there step.replica step.now step.stands
      (subst (λ (n : SessionId). IsRead n key step.replica (seat_of state.standing n) answer step.now) own step.does)
      (subst (λ (n : SessionId). new.standing ≡ with_session state.standing n step.now) own step.only)
      tries.filed (subst (λ (n : SessionId). Files who.index place (seat_of state.standing n).told (what_told answer) tries.filed) theirs tries.files) tries.only

  pub each_line : (front : List Said) (said : Said) (others : List Said) (count : ℕ) (most : Option ℕ) (state new : ScriptState) (old : Machine) (answer : Answer) → IsAt plan front (said ∷ others) state old → IsPlaced (servers count most ∷ front) said
      → ((place : ℕ) → said ≡ restart place → has_lost place front ≡ false) → Turn state said answer new → IsTold plan front others said new old answer
  each_line front (servers number limit) others count most state new old answer at placed whole turn = absurd turn.step
  each_line front (session who asks) others count most state new old answer at placed whole turn =
      let step = turn.step in
      let closed : is_open who front ≡ false = is_new (nat_lt 0 (length (servers count most ∷ front))) (is_open who front) true (are_servers count []) placed.place in
      subst (λ w. IsAt plan front (session w asks ∷ others) state old → is_open w front ≡ false → IsTold plan front others (session w asks) new old answer) step.is_named
      (λ at closed. opened_line front others state new old step.name asks answer at closed step.only turn.same) at closed
  each_line front (write who place program) others count most state new old answer at placed whole turn =
      let opened_there : is_open who front ≡ true = is_used (nat_lt 0 (length (servers count most ∷ front))) true (is_open who front) true (are_servers count (place ∷ [])) placed.place in
      let name = turn.step.name in
      subst (λ w. IsAt plan front (write w place program ∷ others) state old → is_open w front ≡ true → Tries state w place (write w place program) answer new → IsTold plan front others (write w place program) new old answer) turn.step.is_named
      (λ at opened_there turn. write_line front others state new old name place program answer at opened_there turn) at opened_there turn
  each_line front (read who place key) others count most state new old answer at placed whole turn =
      let opened_there : is_open who front ≡ true = is_used (nat_lt 0 (length (servers count most ∷ front))) true (is_open who front) true (are_servers count (place ∷ [])) placed.place in
      let name = turn.step.name in
      subst (λ w. IsAt plan front (read w place key ∷ others) state old → is_open w front ≡ true → Tries state w place (read w place key) answer new → IsTold plan front others (read w place key) new old answer) turn.step.is_named
      (λ at opened_there turn. read_line front others state new old name place key answer at opened_there turn) at opened_there turn
  each_line front (again who) others count most state new old answer at placed whole turn =
      let opened_there : is_open who front ≡ true = is_used (nat_lt 0 (length (servers count most ∷ front))) true (is_open who front) true (are_servers count []) placed.place in
      again_line front others state new old (record { index = who; in_range = at.known who opened_there }) answer at opened_there turn
  each_line front (drop who) others count most state new old answer at placed whole turn =
      let opened_there : is_open who front ≡ true = is_used (nat_lt 0 (length (servers count most ∷ front))) true (is_open who front) true (are_servers count []) placed.place in
      let step = turn.step in
      subst (λ w. IsAt plan front (drop w ∷ others) state old → is_open w front ≡ true → IsTold plan front others (drop w) new old answer) step.is_named
      (λ at opened_there. dropped_line front others state new old step.name answer at opened_there step.only turn.same) at opened_there
  each_line front (log place) others count most state new old answer at placed whole turn = quiet_line front (log place) others state new old answer at (λ who. refl) refl (same_state state new turn.step.0 turn.same)
  each_line front (fuse place calls kept) others count most state new old answer at placed whole turn =
      let change = turn.step.1 in
      fuse_line front others state new old place calls kept answer at change.before change.stands (change.only ∙ ap (λ a. with_server state.standing place a) change.does) turn.same
  each_line front (lose place bytes) others count most state new old answer at placed whole turn =
      let change = turn.step.1 in
      lose_line front others state new old place bytes answer at change.before _ change.stands (change.only ∙ ap (λ a. with_server state.standing place a) change.does) turn.same
  each_line front (reopen place) others count most state new old answer at placed whole turn =
      let change = turn.step.2 in
      subst (λ p. IsAt plan front (reopen p ∷ others) state old → StandsAt state.standing p change.before → new.standing ≡ with_server state.standing p change.after → IsTold plan front others (reopen p) new old answer) change.is_named
      (λ at stood only. reopen_line front others state new old change.name answer at turn.step.0 turn.step.1 change.before change.after stood change.does only turn.same) at change.stands change.only
  each_line front (restart place) others count most state new old answer at placed whole turn =
      let change = turn.step.2 in
      let does = subst (λ n. IsRestarted plan.count n change.name change.before turn.step.0 change.after) at.limit_is
      (subst (λ n. IsRestarted n state.standing.limit change.name change.before turn.step.0 change.after) at.count_is change.does) in
      subst (λ p. IsAt plan front (restart p ∷ others) state old → has_lost p front ≡ false → StandsAt state.standing p change.before → new.standing ≡ with_server state.standing p change.after
      → IsTold plan front others (restart p) new old answer) change.is_named
      (λ at none stood only. restart_line front others state new old change.name answer at none turn.step.0 turn.step.1 change.before change.after stood does only turn.same) at (whole place refl) change.stands change.only
  each_line front (pull to source cut) others count most state new old answer at placed whole turn =
      let few = placed.few in pull_line front others state new old to source cut answer at (omega (arith, few)) turn.step turn.same
  each_line front (resend to source) others count most state new old answer at placed whole turn =
      let few = placed.few in resend_line front others state new old to source answer at (omega (arith, few)) turn.step turn.same
  each_line front totals others count most state new old answer at placed whole turn = quiet_line front totals others state new old answer at (λ who. refl) refl turn.0
  each_line front judge others count most state new old answer at placed whole turn = quiet_line front judge others state new old answer at (λ who. refl) refl turn.0
  each_line front survey others count most state new old answer at placed whole turn = quiet_line front survey others state new old answer at (λ who. refl) refl turn.0
  each_line front book others count most state new old answer at placed whole turn = quiet_line front book others state new old answer at (λ who. refl) refl turn.0
  each_line front phase others count most state new old answer at placed whole turn = quiet_line front phase others state new old answer at (λ who. refl) refl (same_state state new turn.step.0 turn.same)
  each_line front (entry told counts) others count most state new old answer at placed whole turn = absurd turn.step
  each_line front (held place item counts) others count most state new old answer at placed whole turn = absurd turn.step
