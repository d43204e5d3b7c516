-- What is heard, lost, offered and taken by the servers and sessions that run, is so in the machine.
use Rattle.std.proofs.Common.{◌≡◌, ℕ, ◌<◌, true, List, [], ◌∷◌, ◌++◌, Option, None, Some, IsSome, map, length, set, All, IfSome, ap, sym, ◌∙◌, refl, subst}
use Rattle.std.proofs.lemmas.List.{length-set, map-append}
use Rattle.std.proofs.lemmas.List.Elements.{All-head, All-push, All-tail}
use Rattle.bayou_base.specs.declared.answer.Accepted.{Accepted}
use Rattle.bayou_base.specs.declared.entry.Entry.{Entry}
use Rattle.bayou_base.specs.declared.entry.What.{What}
use Rattle.bayou_base.specs.declared.entry.What.TheVariants as whats
use Rattle.bayou_base.specs.declared.limits.TheConstants.{SERVERS, SESSIONS}
use Rattle.bayou_base.specs.Vector.{joined}
use Rattle.bayou_lang.specs.declared.write.Write.{Write}
use Rattle.bayou_lang.specs.Laws.Fitting.{fitting-front, length-count_of}
use Rattle.bayou_lang.specs.Writes.{AreFitting}
use Rattle.bayou_session.specs.Needs.{Told, after_write}
use Rattle.bayou_world.specs.declared.world_session.WorldSession.{WorldSession}
use Rattle.bayou_world.specs.declared.world_session.Flight.{Flight}
use Rattle.bayou_world.specs.declared.world_server.WorldServer.{WorldServer}
use Rattle.bayou_world.specs.declared.reply.Reply.TheVariants as replies
use Rattle.bayou_world.specs.Inner.WorldSessions.{Hears, after_accepted, after_read, asked_after, served_entries}
use Rattle.bayou_world.specs.Inner.Good.{IsGoodMachine, IsGoodFlight, WasSo}
use Rattle.bayou_world.specs.Inner.Tie.{IsAcceptedIn, IsAskedOf, IsWorldSessionOf, IsFlightOf, IsTied, seat}
use Rattle.bayou_world.specs.Invariant.{IsVectorOf}
use Rattle.bayou_world.specs.Machine.{Answered, Machine, SessionSets, names, with_session}
use Rattle.bayou_world.specs.Steps.{DeliverStep, IsInFlight, LoseStep, heard, landed, served_by, told}
use Rattle.bayou_world.proofs.Homes.{fitting_at}
use Rattle.bayou_world.proofs.Tied.{same_seat, session_of_seat, with_seat}
use Rattle.bayou_world.proofs.Vectors.{IsVectorOf-counts, IsVectorOf-joined, IsVectorOf-raised, length-joined}

-- what is on the way to the session is in flight in the machine
flies : (flight : Option Flight) (f : Flight) (answered : Option Answered) → IsFlightOf flight answered → flight ≡ Some f
    → (a : Answered) × (answered ≡ Some a) × (f.entry ≡ a.entry) × IsAcceptedIn a.entry.what f.accepted
flies None f answered is at = let both : None ≡ Some f = at in absurd (cc)
flies (Some other) f None is at = absurd is
flies (Some other) f (Some a) is at = let one : other ≡ f = cc in let moved = subst (λ (x : Flight). (x.entry ≡ a.entry) × IsAcceptedIn a.entry.what x.accepted) one is in (a, refl, moved.0, moved.1)

-- the session that runs and the machine's hear the same
hears_same : (machine : Machine) → IsGoodMachine machine → (who place : ℕ) (world_session new : WorldSession) (session : SessionSets) (answered : Answered) (accepted : Option Accepted) → IsWorldSessionOf who world_session session
    → (what : What) → answered.entry.what ≡ what → WasSo machine.servers what place answered → IsAcceptedIn what accepted → answered.entry.session.index ≡ who
    → new.session ≡ after_accepted accepted (after_read what world_session.session) → new.asked ≡ asked_after accepted world_session.asked → new.flight ≡ None → new.waiting.items ≡ world_session.waiting.items ++ answered.entry ∷ []
    → IsWorldSessionOf who new (record (told what answered session) { flight = None; waiting = session.waiting ++ answered.entry ∷ [] })
hears_same machine good who place world_session new session answered accepted is (whats.Read key vector) what_is is_true none own session_is asked_is flight_is waits =
    let told_is : new.session ≡ record world_session.session { reads = joined world_session.session.reads vector } = session_is ∙ ap (λ a. after_accepted a (record world_session.session { reads = joined world_session.session.reads vector })) none in
    let fitting : AreFitting machine.count answered.database =
    fitting-front machine.count answered.database is_true.1.0 (subst (AreFitting machine.count) is_true.1.1 (fitting_at machine.count machine.limit machine.servers good.servers place)) in
    let counts = subst (λ v. IsVectorOf v (names answered.database)) (sym is_true.2) (IsVectorOf-counts machine.count answered.database fitting) in
    let same_long : length world_session.session.reads ≡ length vector = is.long.0 ∙ sym (length-count_of answered.database) ∙ ap length (sym is_true.2) in
    record {
      name = ap (λ (t : Told). t.id.index) told_is ∙ is.name;
      asks = ap (λ (t : Told). t.asks) told_is ∙ is.asks;
      run = ap (λ (t : Told). t.run) told_is ∙ is.run;
      begun = ap (λ (t : Told). t.begun) told_is ∙ is.begun;
      asked = ap (λ (t : Told). t.asked) told_is ∙ is.asked;
      kept = subst (λ a. IsAskedOf a session.asked) (sym (asked_is ∙ ap (λ a. asked_after a world_session.asked) none)) is.kept;
      long = subst (λ (t : Told). (length t.reads ≡ SERVERS) × (length t.writes ≡ SERVERS)) (sym told_is) (length-joined world_session.session.reads vector same_long ∙ is.long.0, is.long.1);
      reads = subst (λ (t : Told). IsVectorOf t.reads (session.reads ++ names answered.database)) (sym told_is)
          (IsVectorOf-joined world_session.session.reads vector session.reads (names answered.database) same_long is.reads counts);
      writes = subst (λ (t : Told). IsVectorOf t.writes session.writes) (sym told_is) is.writes;
      flight = subst (λ f. IsFlightOf f None) (sym flight_is) tt;
      waiting = waits ∙ ap (λ list. list ++ answered.entry ∷ []) is.waiting;
      own = All-push (λ (entry : Entry). entry.session.index ≡ who) session.waiting answered.entry is.own own;
    }
hears_same machine good who place world_session new session answered accepted is (whats.Write wid stamp deps) what_is is_true some own session_is asked_is flight_is waits =
    let told_is : new.session ≡ after_write world_session.session some.0 = session_is ∙ ap (λ a. after_accepted a world_session.session) some.1 in
    record {
      name = ap (λ (t : Told). t.id.index) told_is ∙ is.name;
      asks = ap (λ (t : Told). t.asks) told_is ∙ is.asks;
      run = ap (λ (t : Told). t.run) told_is ∙ is.run;
      begun = ap (λ (t : Told). t.begun) told_is ∙ is.begun;
      asked = ap (λ (t : Told). t.asked) told_is;
      kept = subst (λ a. IsAskedOf a None) (sym (asked_is ∙ ap (λ a. asked_after a world_session.asked) some.1)) tt;
      long = subst (λ (t : Told). (length t.reads ≡ SERVERS) × (length t.writes ≡ SERVERS)) (sym told_is) (is.long.0, length-set world_session.session.writes _ _ ∙ is.long.1);
      reads = subst (λ (t : Told). IsVectorOf t.reads session.reads) (sym told_is) is.reads;
      writes = subst (λ (t : Told). IsVectorOf t.writes (session.writes ++ wid ∷ [])) (sym told_is)
          (subst (λ w. IsVectorOf (after_write world_session.session some.0).writes (session.writes ++ w ∷ [])) some.2
          (IsVectorOf-raised world_session.session.writes session.writes some.0.wid is.long.1 is.writes));
      flight = subst (λ f. IsFlightOf f None) (sym flight_is) tt;
      waiting = waits ∙ ap (λ list. list ++ answered.entry ∷ []) is.waiting;
      own = All-push (λ (entry : Entry). entry.session.index ≡ who) session.waiting answered.entry is.own own;
    }
hears_same machine good who place world_session new session answered accepted is whats.Refused what_is is_true none own session_is asked_is flight_is waits =
    let told_is : new.session ≡ world_session.session = session_is ∙ ap (λ a. after_accepted a world_session.session) none in
    record {
      name = ap (λ (t : Told). t.id.index) told_is ∙ is.name;
      asks = ap (λ (t : Told). t.asks) told_is ∙ is.asks;
      run = ap (λ (t : Told). t.run) told_is ∙ is.run;
      begun = ap (λ (t : Told). t.begun) told_is ∙ is.begun;
      asked = ap (λ (t : Told). t.asked) told_is ∙ is.asked;
      kept = subst (λ a. IsAskedOf a session.asked) (sym (asked_is ∙ ap (λ a. asked_after a world_session.asked) none)) is.kept;
      long = subst (λ (t : Told). (length t.reads ≡ SERVERS) × (length t.writes ≡ SERVERS)) (sym told_is) is.long;
      reads = subst (λ (t : Told). IsVectorOf t.reads session.reads) (sym told_is) is.reads;
      writes = subst (λ (t : Told). IsVectorOf t.writes session.writes) (sym told_is) is.writes;
      flight = subst (λ f. IsFlightOf f None) (sym flight_is) tt;
      waiting = waits ∙ ap (λ list. list ++ answered.entry ∷ []) is.waiting;
      own = All-push (λ (entry : Entry). entry.session.index ≡ who) session.waiting answered.entry is.own own;
    }

served_same : (what : What) (answered : Answered) → map (λ (a : Answered). a.entry) (served_by what answered) ≡ served_entries what answered.entry
served_same (whats.Read key vector) answered = refl
served_same (whats.Write wid stamp deps) answered = refl
served_same whats.Refused answered = refl

pub deliver_tied : (servers : List WorldServer) (world_sessions : List (Option WorldSession)) (offers : List (List ℕ)) (items : List Write) (told_so_far : List Entry) (machine : Machine) → IsGoodMachine machine
    → IsTied servers world_sessions offers items told_so_far machine → (who : ℕ) (world_session new : WorldSession) (entry : Entry) → who < SESSIONS → seat world_sessions who ≡ Some world_session → Hears world_session (Some entry) new
    → (next : Machine) × DeliverStep machine who replies.Delivered next × IsTied servers (set world_sessions who (Some new)) offers items (told_so_far ++ served_entries entry.what entry) next
deliver_tied servers world_sessions offers items told_so_far machine good tied who world_session new entry inside at (accepted, flight, session_is, asked_is, none, waits) =
    let seat_is = session_of_seat who (seat world_sessions who) (machine.sessions who) world_session (tied.sessions_are who inside) at in
    let session = seat_is.0 in
    let is = seat_is.2 in
    let f : Flight = record { entry = entry; accepted = accepted } in
    let flying = flies world_session.flight f session.flight is.flight flight in
    let answered = flying.0 in
    let in_flight : IsInFlight machine who session answered = record { there = seat_is.1; flight = flying.1 } in
    let entry_is : entry ≡ answered.entry = flying.2 in
    let true_answer = good.flights who session answered seat_is.1 flying.1 in
    let own = (subst (λ o. IfSome o (IsGoodFlight machine.served who session)) flying.1 (good.sessions who session seat_is.1).flight).session_is in
    let session_then : new.session ≡ after_accepted accepted (after_read answered.entry.what world_session.session) = session_is ∙ ap (λ (e : Entry). after_accepted accepted (after_read e.what world_session.session)) entry_is in
    let waits_then : new.waiting.items ≡ world_session.waiting.items ++ answered.entry ∷ [] = waits ∙ ap (λ e. world_session.waiting.items ++ e ∷ []) entry_is in
    let world_session_is : IsWorldSessionOf who new (heard answered session) =
    hears_same machine good who answered.entry.server.index world_session new session answered accepted is answered.entry.what refl true_answer flying.3 own session_then asked_is none waits_then in
    let tied_then = with_seat servers world_sessions offers items told_so_far machine tied who new (heard answered session) inside world_session_is in (
      record (with_session machine who (heard answered session)) { served = machine.served ++ served_by answered.entry.what answered },
      DeliverStep.delivered session answered in_flight refl refl,
      record {
        many = tied_then.many;
        servers_are = tied_then.servers_are;
        seats = tied_then.seats;
        sessions_are = tied_then.sessions_are;
        offers_are = tied_then.offers_are;
        items_are = tied_then.items_are;
        served_are = ap (λ (e : Entry). told_so_far ++ served_entries e.what e) entry_is ∙ ap (λ list. list ++ served_entries answered.entry.what answered.entry) tied.served_are
            ∙ ap (λ list. map (λ (a : Answered). a.entry) machine.served ++ list) (sym (served_same answered.entry.what answered))
            ∙ sym (map-append (λ (a : Answered). a.entry) machine.served (served_by answered.entry.what answered));
      },
    )

pub some_flight : (flight : Option Flight) → IsSome flight → (f : Flight) × (flight ≡ Some f)
some_flight None is = let both : true ≡ true = refl in absurd (cc)
some_flight (Some f) is = (f, refl)

pub lose_tied : (servers : List WorldServer) (world_sessions : List (Option WorldSession)) (offers : List (List ℕ)) (items : List Write) (told_so_far : List Entry) (machine : Machine) → IsGoodMachine machine
    → IsTied servers world_sessions offers items told_so_far machine → (who : ℕ) (world_session : WorldSession) (flight : Flight) → who < SESSIONS → seat world_sessions who ≡ Some world_session → world_session.flight ≡ Some flight
    → (next : Machine) × LoseStep machine who replies.Dropped next × IsTied servers (set world_sessions who (Some (record world_session { flight = None }))) offers items told_so_far next
lose_tied servers world_sessions offers items told_so_far machine good tied who world_session flight inside at some =
    let seat_is = session_of_seat who (seat world_sessions who) (machine.sessions who) world_session (tied.sessions_are who inside) at in
    let session = seat_is.0 in
    let is = seat_is.2 in
    let flying = flies world_session.flight flight session.flight is.flight some in
    let new : WorldSession = record world_session { flight = None } in (
      with_session machine who (landed session),
      LoseStep.dropped session flying.0 (record { there = seat_is.1; flight = flying.1 }) refl refl,
      with_seat servers world_sessions offers items told_so_far machine tied who new (landed session) inside (record {
        name = is.name;
        asks = is.asks;
        run = is.run;
        begun = is.begun;
        asked = is.asked;
        kept = is.kept;
        long = is.long;
        reads = is.reads;
        writes = is.writes;
        flight = tt;
        waiting = is.waiting;
        own = is.own;
      }),
    )

-- ---- the book

-- the oldest entry that waits is the session's
pub oldest_some : (servers : List WorldServer) (world_sessions : List (Option WorldSession)) (offers : List (List ℕ)) (items : List Write) (told_so_far : List Entry) (machine : Machine)
    → IsTied servers world_sessions offers items told_so_far machine → (who : ℕ) (world_session new : WorldSession) (entry : Entry) → who < SESSIONS → seat world_sessions who ≡ Some world_session
    → world_session.waiting.items ≡ entry ∷ new.waiting.items → new.session ≡ world_session.session → new.asked ≡ world_session.asked → new.flight ≡ world_session.flight
    → (session : SessionSets) × (later : List Entry) × (machine.sessions who ≡ Some session) × (session.waiting ≡ entry ∷ later) × (entry.session.index ≡ who)
    × IsTied servers (set world_sessions who (Some new)) offers items told_so_far (with_session machine who (record session { waiting = later }))
oldest_some servers world_sessions offers items told_so_far machine tied who world_session new entry inside at waits same_session same_asked same_flight =
    let seat_is = session_of_seat who (seat world_sessions who) (machine.sessions who) world_session (tied.sessions_are who inside) at in
    let session = seat_is.0 in
    let is = seat_is.2 in
    let later = new.waiting.items in
    let waiting : session.waiting ≡ entry ∷ later = sym is.waiting ∙ waits in
    let own = subst (All (λ (e : Entry). e.session.index ≡ who)) waiting is.own in (
      session,
      later,
      seat_is.1,
      waiting,
      All-head (λ (e : Entry). e.session.index ≡ who) entry later own,
      with_seat servers world_sessions offers items told_so_far machine tied who new (record session { waiting = later }) inside (record {
        name = ap (λ (t : Told). t.id.index) same_session ∙ is.name;
        asks = ap (λ (t : Told). t.asks) same_session ∙ is.asks;
        run = ap (λ (t : Told). t.run) same_session ∙ is.run;
        begun = ap (λ (t : Told). t.begun) same_session ∙ is.begun;
        asked = ap (λ (t : Told). t.asked) same_session ∙ is.asked;
        kept = subst (λ a. IsAskedOf a session.asked) (sym same_asked) is.kept;
        long = subst (λ (t : Told). (length t.reads ≡ SERVERS) × (length t.writes ≡ SERVERS)) (sym same_session) is.long;
        reads = subst (λ (t : Told). IsVectorOf t.reads session.reads) (sym same_session) is.reads;
        writes = subst (λ (t : Told). IsVectorOf t.writes session.writes) (sym same_session) is.writes;
        flight = subst (λ f. IsFlightOf f session.flight) (sym same_flight) is.flight;
        waiting = refl;
        own = All-tail (λ (e : Entry). e.session.index ≡ who) entry later own;
      }),
    )

-- where none waits nothing changes
pub oldest_none : (servers : List WorldServer) (world_sessions : List (Option WorldSession)) (offers : List (List ℕ)) (items : List Write) (told_so_far : List Entry) (machine : Machine)
    → IsTied servers world_sessions offers items told_so_far machine → (who : ℕ) (world_session new : WorldSession) → who < SESSIONS → seat world_sessions who ≡ Some world_session
    → world_session.waiting.items ≡ new.waiting.items → new.waiting.items ≡ [] → new.session ≡ world_session.session → new.asked ≡ world_session.asked → new.flight ≡ world_session.flight
    → ((session : SessionSets) (entry : Entry) (later : List Entry) → machine.sessions who ≡ Some session → ¬ (session.waiting ≡ entry ∷ later))
    × IsTied servers (set world_sessions who (Some new)) offers items told_so_far machine
oldest_none servers world_sessions offers items told_so_far machine tied who world_session new inside at same none same_session same_asked same_flight =
    let seat_is = session_of_seat who (seat world_sessions who) (machine.sessions who) world_session (tied.sessions_are who inside) at in
    let session = seat_is.0 in
    let is = seat_is.2 in (
      (λ other entry later there waits.
          let one : other ≡ session = one_session other session (sym there ∙ seat_is.1) in
          let empty : [] ≡ entry ∷ later = sym none ∙ sym same ∙ is.waiting ∙ ap (λ (s : SessionSets). s.waiting) (sym one) ∙ waits in
          absurd (cc)),
      same_seat servers world_sessions offers items told_so_far machine tied who new session inside seat_is.1 (record {
        name = ap (λ (t : Told). t.id.index) same_session ∙ is.name;
        asks = ap (λ (t : Told). t.asks) same_session ∙ is.asks;
        run = ap (λ (t : Told). t.run) same_session ∙ is.run;
        begun = ap (λ (t : Told). t.begun) same_session ∙ is.begun;
        asked = ap (λ (t : Told). t.asked) same_session ∙ is.asked;
        kept = subst (λ a. IsAskedOf a session.asked) (sym same_asked) is.kept;
        long = subst (λ (t : Told). (length t.reads ≡ SERVERS) × (length t.writes ≡ SERVERS)) (sym same_session) is.long;
        reads = subst (λ (t : Told). IsVectorOf t.reads session.reads) (sym same_session) is.reads;
        writes = subst (λ (t : Told). IsVectorOf t.writes session.writes) (sym same_session) is.writes;
        flight = subst (λ f. IsFlightOf f session.flight) (sym same_flight) is.flight;
        waiting = sym same ∙ is.waiting;
        own = is.own;
      }),
    )
  where
    one_session : (a b : SessionSets) → Some a ≡ Some b → a ≡ b
    one_session a b both = cc
