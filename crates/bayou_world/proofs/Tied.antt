-- What the servers and sessions that run do, the machine does.
use Rattle.std.proofs.Common.{◌≡◌, ◌↔◌, inl, inr, ℕ, ◌+◌, ◌<◌, true, false, List, Option, None, Some, Result, Ok, Err, length, get_or, set, ap, sym, ◌∙◌, refl, subst, arith}
use Rattle.std.proofs.lemmas.List.{get_or-set_other, get_or-set_same, length-set}
use Rattle.std.specs.Option.{option_map}
use Rattle.bayou_base.specs.declared.answer.Accepted.{Accepted}
use Rattle.bayou_base.specs.declared.answer.Seen.{Seen}
use Rattle.bayou_base.specs.declared.entry.Entry.{Entry}
use Rattle.bayou_base.specs.declared.entry.What.{What}
use Rattle.bayou_base.specs.declared.entry.What.TheVariants as whats
use Rattle.bayou_base.specs.declared.limits.TheConstants.{MAX_PLACES, SERVERS, SESSIONS}
use Rattle.bayou_base.specs.Vector.{Dominates}
use Rattle.bayou_lang.specs.declared.write.Write.{Write}
use Rattle.bayou_lang.specs.Database.{value_at}
use Rattle.bayou_lang.specs.Writes.{count_of}
use Rattle.bayou_log.specs.Replay.{replay}
use Rattle.bayou_world.specs.Invariant.{IsVectorOf}
use Rattle.bayou_server.specs.declared.fault.Behind.{Behind}
use Rattle.bayou_server.specs.Reads as served
use Rattle.bayou_device.specs.Memory.{Memory}
use Rattle.bayou_server.specs.Server.{Core, ServerState}
use Rattle.bayou_session.specs.Needs.{HasCounts, Told, one_place_more, read_need}
use Rattle.bayou_world.specs.declared.world_session.WorldSession.{WorldSession}
use Rattle.bayou_world.specs.declared.world_session.Asked.{Asked}
use Rattle.bayou_world.specs.declared.world_session.Flight.{Flight}
use Rattle.bayou_world.specs.declared.world_server.WorldServer.{WorldServer}
use Rattle.bayou_world.specs.declared.world_server.WorldServer.TheVariants.{Running}
use Rattle.bayou_world.specs.declared.reply.Reply.TheVariants as replies
use Rattle.bayou_world.specs.Inner.WorldSessions.{Begins, seen_as}
use Rattle.bayou_world.specs.Inner.Good.{IsGoodMachine}
use Rattle.bayou_world.specs.Inner.WorldServers.{IsHonestAlone, is_stopped}
use Rattle.bayou_world.specs.Inner.Tie.{IsAcceptedIn, IsAskedOf, IsWorldSessionOf, IsFlightOf, IsSeatOf, IsWorldServerOf, IsServerOf, IsTied, number_of, seat}
use Rattle.bayou_world.specs.Agreement.{StandsFor}
use Rattle.bayou_world.specs.Machine.{Answered, Asking, Machine, ServerSets, SessionSets, changed, with_server, with_session, writes}
use Rattle.bayou_world.specs.Steps.{CannotBegin, IsEntry, IsRunning, MayBegin, MayRead, ReadStep, refusal, with_answer}
use Rattle.bayou_world.proofs.Agreeing.{ReadLaw, may_read}
use Rattle.bayou_world.proofs.Homes.{fitting_at}
use Rattle.bayou_world.proofs.Lists.{changed-other, changed-same, same_number}

-- ---- seats

pub session_of_seat : (who : ℕ) (o : Option WorldSession) (s : Option SessionSets) (world_session : WorldSession) → IsSeatOf who o s → o ≡ Some world_session → (session : SessionSets) × (s ≡ Some session) × IsWorldSessionOf who world_session session
session_of_seat who None s world_session is at = let both : None ≡ Some world_session = at in absurd (cc)
session_of_seat who (Some other) None world_session is at = absurd is
session_of_seat who (Some other) (Some session) world_session is at = let one : other ≡ world_session = cc in (session, refl, subst (λ c. IsWorldSessionOf who c session) one is)

pub seat_of_session : (who : ℕ) (o : Option WorldSession) (s : Option SessionSets) (session : SessionSets) → IsSeatOf who o s → s ≡ Some session → (world_session : WorldSession) × (o ≡ Some world_session) × IsWorldSessionOf who world_session session
seat_of_session who o None session is at = let both : None ≡ Some session = at in absurd (cc)
seat_of_session who None (Some other) session is at = absurd is
seat_of_session who (Some world_session) (Some other) session is at = let one : other ≡ session = cc in (world_session, refl, subst (IsWorldSessionOf who world_session) one is)

-- the server that is found at its place stands there
pub stands_at : (servers : List WorldServer) (place at : ℕ) (world_server is : WorldServer) → world_server ≡ get_or servers at world_server → at ≡ place → world_server ≡ is → get_or servers place is ≡ is
stands_at servers place at world_server is found here same =
    subst (λ (r : WorldServer). get_or servers place r ≡ r) same (subst (λ n. get_or servers n world_server ≡ world_server) here (sym found))

-- a server that runs at its place is the machine's, and over an honest device
pub record IsRunningServer (machine : Machine) (place : ℕ) (server : ServerState Memory) : Type 0 where
  pub running : IsRunning machine place
  pub core : IsServerOf machine.count machine.limit place server.core (machine.servers place)
  pub honest : IsHonestAlone server

-- and the other way round
pub running_server : (count limit place : ℕ) (new : ServerState Memory) (server : ServerSets) → server.stopped ≡ false → IsServerOf count limit place new.core server → IsHonestAlone new
    → IsWorldServerOf count limit place (Running new) server
running_server count limit place new server runs core honest = record { stopped = runs; core = core; kept = honest }

module _ (servers : List WorldServer) (world_sessions : List (Option WorldSession)) (offers : List (List ℕ)) (items : List Write) (told : List Entry) where
  -- a seat and its session change together
  pub with_seat : (machine : Machine) → IsTied servers world_sessions offers items told machine → (who : ℕ) (world_session : WorldSession) (session : SessionSets) → who < SESSIONS → IsWorldSessionOf who world_session session
      → IsTied servers (set world_sessions who (Some world_session)) offers items told (with_session machine who session)
  with_seat machine tied who world_session session inside is = record {
    many = tied.many;
    servers_are = tied.servers_are;
    seats = length-set world_sessions who (Some world_session) ∙ tied.seats;
    sessions_are = λ other within. elim (same_number other who) as (λ _. IsSeatOf other (seat (set world_sessions who (Some world_session)) other) (changed machine.sessions who (Some session) other)) [
      | inl same ↦
          let here : seat (set world_sessions who (Some world_session)) who ≡ Some world_session = get_or-set_same world_sessions who (Some world_session) None (omega (arith, inside, tied.seats)) in
          subst (λ n. IsSeatOf n (seat (set world_sessions who (Some world_session)) n) (changed machine.sessions who (Some session) n)) (sym same)
          (subst (λ o. IsSeatOf who o (changed machine.sessions who (Some session) who)) (sym here)
          (subst (IsSeatOf who (Some world_session)) (sym (changed-same machine.sessions who (Some session))) is))
      | inr differs ↦
          let there : seat (set world_sessions who (Some world_session)) other ≡ seat world_sessions other = get_or-set_other world_sessions who other (Some world_session) None (λ same. differs (same)) in
          subst (λ o. IsSeatOf other o (changed machine.sessions who (Some session) other)) (sym there)
          (subst (IsSeatOf other (seat world_sessions other)) (sym (changed-other machine.sessions who (Some session) other differs)) (tied.sessions_are other within))
    ];
    offers_are = tied.offers_are;
    items_are = tied.items_are;
    served_are = tied.served_are;
  }

  -- and so do a server and the machine's
  pub with_place : (machine : Machine) → IsTied servers world_sessions offers items told machine → (place : ℕ) (new : WorldServer) (server : ServerSets) → place < machine.count
      → IsWorldServerOf machine.count machine.limit place new server
      → IsTied (set servers place new) world_sessions offers items told (with_server machine place server)
  with_place machine tied place new server inside is = record {
    many = length-set servers place new ∙ tied.many;
    servers_are = λ other d within. elim (same_number other place) as (λ _. IsWorldServerOf machine.count machine.limit other (get_or (set servers place new) other d) (changed machine.servers place server other)) [
      | inl same ↦
          let here : get_or (set servers place new) place d ≡ new = get_or-set_same servers place new d (omega (arith, inside, tied.many)) in
          subst (λ n. IsWorldServerOf machine.count machine.limit n (get_or (set servers place new) n d) (changed machine.servers place server n)) (sym same)
          (subst (λ (x : WorldServer). IsWorldServerOf machine.count machine.limit place x (changed machine.servers place server place)) (sym here)
          (subst (IsWorldServerOf machine.count machine.limit place new) (sym (changed-same machine.servers place server)) is))
      | inr differs ↦
          let there : get_or (set servers place new) other d ≡ get_or servers other d = get_or-set_other servers place other new d (λ same. differs (same)) in
          subst (λ (x : WorldServer). IsWorldServerOf machine.count machine.limit other x (changed machine.servers place server other)) (sym there)
          (subst (IsWorldServerOf machine.count machine.limit other (get_or servers other d)) (sym (changed-other machine.servers place server other differs)) (tied.servers_are other d within))
    ];
    seats = tied.seats;
    sessions_are = tied.sessions_are;
    offers_are = tied.offers_are;
    items_are = tied.items_are;
    served_are = tied.served_are;
  }

  -- a server is another of which the same is known
  pub same_place : (machine : Machine) → IsTied servers world_sessions offers items told machine → (place : ℕ) (new : WorldServer) → place < machine.count
      → IsWorldServerOf machine.count machine.limit place new (machine.servers place) → IsTied (set servers place new) world_sessions offers items told machine
  same_place machine tied place new inside is = record {
    many = length-set servers place new ∙ tied.many;
    servers_are = λ other d within. elim (same_number other place) as (λ _. IsWorldServerOf machine.count machine.limit other (get_or (set servers place new) other d) (machine.servers other)) [
      | inl same ↦
          let here : get_or (set servers place new) place d ≡ new = get_or-set_same servers place new d (omega (arith, inside, tied.many)) in
          subst (λ n. IsWorldServerOf machine.count machine.limit n (get_or (set servers place new) n d) (machine.servers n)) (sym same)
          (subst (λ (x : WorldServer). IsWorldServerOf machine.count machine.limit place x (machine.servers place)) (sym here) is)
      | inr differs ↦
          let there : get_or (set servers place new) other d ≡ get_or servers other d = get_or-set_other servers place other new d (λ same. differs (same)) in
          subst (λ (x : WorldServer). IsWorldServerOf machine.count machine.limit other x (machine.servers other)) (sym there) (tied.servers_are other d within)
    ];
    seats = tied.seats;
    sessions_are = tied.sessions_are;
    offers_are = tied.offers_are;
    items_are = tied.items_are;
    served_are = tied.served_are;
  }

  -- a seat is another's of whom the same is known
  pub same_seat : (machine : Machine) → IsTied servers world_sessions offers items told machine → (who : ℕ) (world_session : WorldSession) (session : SessionSets) → who < SESSIONS → machine.sessions who ≡ Some session
      → IsWorldSessionOf who world_session session → IsTied servers (set world_sessions who (Some world_session)) offers items told machine
  same_seat machine tied who world_session session inside there is = record {
    many = tied.many;
    servers_are = tied.servers_are;
    seats = length-set world_sessions who (Some world_session) ∙ tied.seats;
    sessions_are = λ other within. elim (same_number other who) as (λ _. IsSeatOf other (seat (set world_sessions who (Some world_session)) other) (machine.sessions other)) [
      | inl same ↦
          let here : seat (set world_sessions who (Some world_session)) who ≡ Some world_session = get_or-set_same world_sessions who (Some world_session) None (omega (arith, inside, tied.seats)) in
          subst (λ n. IsSeatOf n (seat (set world_sessions who (Some world_session)) n) (machine.sessions n)) (sym same)
          (subst (λ o. IsSeatOf who o (machine.sessions who)) (sym here) (subst (IsSeatOf who (Some world_session)) (sym there) is))
      | inr differs ↦
          let elsewhere : seat (set world_sessions who (Some world_session)) other ≡ seat world_sessions other = get_or-set_other world_sessions who other (Some world_session) None (λ same. differs (same)) in
          subst (λ o. IsSeatOf other o (machine.sessions other)) (sym elsewhere) (tied.sessions_are other within)
    ];
    offers_are = tied.offers_are;
    items_are = tied.items_are;
    served_are = tied.served_are;
  }

  -- what is known of a server that runs
  pub runs_at : (machine : Machine) → IsTied servers world_sessions offers items told machine → (place : ℕ) (server : ServerState Memory) → place < length servers
      → get_or servers place (Running server) ≡ Running server → IsRunningServer machine place server
  runs_at machine tied place server known stands =
      let in_count : place < machine.count = omega (arith, known, tied.many) in
      let is = subst (λ (r : WorldServer). IsWorldServerOf machine.count machine.limit place r (machine.servers place)) stands (tied.servers_are place (Running server) in_count) in
      record { running = record { there = in_count; runs = is.stopped }; core = is.core; honest = is.kept }

  -- a server that runs in the machine does
  pub runs_there : (machine : Machine) → IsTied servers world_sessions offers items told machine → (place : ℕ) (world_server : WorldServer) → get_or servers place world_server ≡ world_server → IsRunning machine place
      → is_stopped world_server ≡ false
  runs_there machine tied place world_server stands running =
      sym (subst (λ (r : WorldServer). IsWorldServerOf machine.count machine.limit place r (machine.servers place)) stands (tied.servers_are place world_server running.there)).stopped ∙ running.runs

  -- who may begin has a seat and may begin there
  pub begins_there : (machine : Machine) → IsTied servers world_sessions offers items told machine → (who place : ℕ) (session : SessionSets) → who < SESSIONS → MayBegin machine who place session
      → (world_session : WorldSession) × (seat world_sessions who ≡ Some world_session) × (world_session.flight ≡ None) × (world_session.session.begun < MAX_PLACES) × (place < length servers)
  begins_there machine tied who place session inside may =
      let at = seat_of_session who (seat world_sessions who) (machine.sessions who) session (tied.sessions_are who inside) may.there in
      (at.0, at.1, no_flight at.0.flight session.flight at.2.flight may.idle, omega (arith, at.2.begun, may.left), omega (arith, may.server.there, tied.many))
    where
      no_flight : (f : Option Flight) (a : Option Answered) → IsFlightOf f a → a ≡ None → f ≡ None
      no_flight None a is none = refl
      no_flight (Some flight) None is none = absurd is
      no_flight (Some flight) (Some answered) is none = let both : Some answered ≡ None = none in absurd (cc)

  -- who has no seat at which it may, or asks no server that runs, doesn't begin
  pub cannot_begin : (machine : Machine) → IsTied servers world_sessions offers items told machine → (who place : ℕ) → who < SESSIONS
      → ((world_session : WorldSession) → seat world_sessions who ≡ Some world_session → world_session.flight ≡ None → world_session.session.begun < MAX_PLACES → place < length servers → ¬ IsRunning machine place)
      → CannotBegin machine who place
  cannot_begin machine tied who place inside never = λ session may.
      let begins = begins_there machine tied who place session inside may in
      never begins.0 begins.1 begins.2 begins.3 begins.4 may.server

pub idle : (f : Option Flight) (a : Option Answered) → IsFlightOf f a → f ≡ None → a ≡ None
idle None None is none = refl
idle None (Some answered) is none = absurd is
idle (Some flight) a is none = let both : Some flight ≡ None = none in absurd (cc)

-- ---- an operation begins

-- its next place is begun, behind which it may ask again what it asked at this place, if that is one
abbrev pub place_begun : Told → Option ℕ → Told
place_begun told asked = record told { begun = told.begun + 1; asked = asked }

-- the session that runs begins as the machine's does
pub began : (who place : ℕ) (world_session new : WorldSession) (session : SessionSets) (asked : Option ℕ) (kept : Option Asked) (asking : Option Asking) → asked ≡ option_map number_of asking → IsAskedOf kept asking → (what : What) (accepted : Option Accepted) (answered : Answered)
    → IsWorldSessionOf who world_session session → (begins : Begins world_session (place_begun world_session.session asked) kept place what accepted new) → answered.entry ≡ begins.entry → IsAcceptedIn what accepted
    → IsWorldSessionOf who new (record session { begun = session.begun + 1; asked = asking; flight = Some answered })
began who place world_session new session asked kept asking asked_is kept_is what accepted answered is begins entry_is tells = record {
  name = ap (λ (t : Told). t.id.index) begins.session ∙ is.name;
  asks = ap (λ (t : Told). t.asks) begins.session ∙ is.asks;
  run = ap (λ (t : Told). t.run) begins.session ∙ is.run;
  begun = ap (λ (t : Told). t.begun) begins.session ∙ ap (λ n. n + 1) is.begun;
  asked = ap (λ (t : Told). t.asked) begins.session ∙ asked_is;
  kept = subst (λ a. IsAskedOf a asking) (sym begins.asked) kept_is;
  long = subst (λ (t : Told). (length t.reads ≡ SERVERS) × (length t.writes ≡ SERVERS)) (sym begins.session) is.long;
  reads = subst (λ (t : Told). IsVectorOf t.reads session.reads) (sym begins.session) is.reads;
  writes = subst (λ (t : Told). IsVectorOf t.writes session.writes) (sym begins.session) is.writes;
  flight = subst (λ f. IsFlightOf f (Some answered)) (sym begins.flight)
      (sym entry_is, subst (λ (e : Entry). IsAcceptedIn e.what accepted) (sym entry_is) (subst (λ w. IsAcceptedIn w accepted) (sym begins.what_is) tells));
  waiting = ap (λ w. w.items) begins.waiting ∙ is.waiting;
  own = is.own;
}

pub entry_of : (who place : ℕ) (world_session new : WorldSession) (session : SessionSets) (asked : Option ℕ) (kept : Option Asked) (what : What) (accepted : Option Accepted) → IsWorldSessionOf who world_session session
    → (begins : Begins world_session (place_begun world_session.session asked) kept place what accepted new) → IsEntry who place session what begins.entry
entry_of who place world_session new session asked kept what accepted is begins = record {
  session_is = ap (λ (id : _). id.index) begins.session_is ∙ is.name;
  place_is = begins.place_is ∙ ap (λ n. n + 1) is.begun;
  asks_are = begins.asks_are ∙ is.asks;
  server_is = begins.server_is;
  what_is = begins.what_is;
}

pub may_begin : (machine : Machine) (who place : ℕ) (world_session : WorldSession) (session : SessionSets) → machine.sessions who ≡ Some session → IsWorldSessionOf who world_session session
    → world_session.flight ≡ None → world_session.session.begun < MAX_PLACES → IsRunning machine place → MayBegin machine who place session
may_begin machine who place world_session session there is none left running = record {
  there = there;
  server = running;
  idle = idle world_session.flight session.flight is.flight none;
  left = omega (arith, left, is.begun);
}

-- ---- a read

-- the session that runs stands for the machine's
pub stands_for : (who : ℕ) (world_session : WorldSession) (session : SessionSets) → IsWorldSessionOf who world_session session → StandsFor world_session.session session
stands_for who world_session session is = record { asks = is.asks; long = is.long; reads = is.reads; writes = is.writes }

-- what the session needs is held exactly where the vector dominates the need
read_covered : ReadLaw → (machine : Machine) → IsGoodMachine machine → (who place : ℕ) (world_session : WorldSession) (session : SessionSets) → IsWorldSessionOf who world_session session → HasCounts world_session.session
    → Dominates (count_of (writes (machine.servers place).held)) (read_need world_session.session) ↔ MayRead session (machine.servers place).held
read_covered law machine good who place world_session session is counts =
    let fitting = fitting_at machine.count machine.limit machine.servers good.servers place in
    let agree = may_read law machine.count (machine.servers place).held fitting world_session.session session (stands_for who world_session session is) in (agree.1, agree.0)

pub read_tied : ReadLaw → (servers : List WorldServer) (world_sessions : List (Option WorldSession)) (offers : List (List ℕ)) (items : List Write) (told : List Entry) (machine : Machine) → IsGoodMachine machine
    → IsTied servers world_sessions offers items told machine → (who place : ℕ) (key : List ℕ) (world_session new : WorldSession) (server : ServerState Memory) (answer : Result Seen Behind) → who < SESSIONS → seat world_sessions who ≡ Some world_session
    → world_session.flight ≡ None → world_session.session.begun < MAX_PLACES → place < length servers → get_or servers place (Running server) ≡ Running server → HasCounts world_session.session → served.Reads server.core (read_need world_session.session) key answer
    → Begins world_session (one_place_more world_session.session) None server.core.id (seen_as key answer) None new
    → (next : Machine) × ReadStep machine who place key (replies.Read answer) next × IsTied servers (set world_sessions who (Some new)) offers items told next
read_tied law servers world_sessions offers items told machine good tied who place key world_session new server (Ok seen) inside at none left known stands counts serves begins =
    let seat_is = session_of_seat who (seat world_sessions who) (machine.sessions who) world_session (tied.sessions_are who inside) at in
    let session = seat_is.0 in
    let is = seat_is.2 in
    let here = runs_at servers world_sessions offers items told machine tied place server known stands in
    let core = here.core in
    let held_is : server.core.held ≡ writes (machine.servers place).held = ap (λ (c : Core). c.held) core.is in
    let begins_at = subst (λ n. Begins world_session (one_place_more world_session.session) None n (whats.Read key seen.vector) None new) (ap (λ (c : Core). c.id) core.is) begins in
    let may = may_begin machine who place world_session session seat_is.1 is none left here.running in
    let answered : Answered = record { entry = begins_at.entry; database = writes (machine.servers place).held; made = None } in
    let covered = (read_covered law machine good who place world_session session is counts).0 (subst (λ h. Dominates (count_of h) (read_need world_session.session)) held_is serves.covered) in (
      with_answer machine who session None answered,
      ReadStep.served session begins_at.entry seen may covered (serves.value ∙ ap (λ h. value_at (replay h) key) held_is) (serves.vector ∙ ap count_of held_is) refl
          (entry_of who place world_session new session None None (whats.Read key seen.vector) None is begins_at) refl,
      with_seat servers world_sessions offers items told machine tied who new (record session { begun = session.begun + 1; asked = None; flight = Some answered }) inside
          (began who place world_session new session None None None refl tt (whats.Read key seen.vector) None answered is begins_at refl refl),
    )
read_tied law servers world_sessions offers items told machine good tied who place key world_session new server (Err behind) inside at none left known stands counts serves begins =
    let seat_is = session_of_seat who (seat world_sessions who) (machine.sessions who) world_session (tied.sessions_are who inside) at in
    let session = seat_is.0 in
    let is = seat_is.2 in
    let here = runs_at servers world_sessions offers items told machine tied place server known stands in
    let core = here.core in
    let held_is : server.core.held ≡ writes (machine.servers place).held = ap (λ (c : Core). c.held) core.is in
    let begins_at = subst (λ n. Begins world_session (one_place_more world_session.session) None n whats.Refused None new) (ap (λ (c : Core). c.id) core.is) begins in
    let may = may_begin machine who place world_session session seat_is.1 is none left here.running in
    let vector : behind.vector ≡ count_of (writes (machine.servers place).held) = serves.held ∙ ap count_of held_is in (
      with_answer machine who session None (refusal begins_at.entry),
      ReadStep.behind session begins_at.entry may
          (λ covered. serves.not_covered (subst (λ h. Dominates (count_of h) (read_need world_session.session)) (sym held_is) ((read_covered law machine good who place world_session session is counts).1 covered)))
          (ap (λ v. replies.Read (Err (record { vector = v }))) vector) (entry_of who place world_session new session None None whats.Refused None is begins_at) refl,
      with_seat servers world_sessions offers items told machine tied who new (record session { begun = session.begun + 1; asked = None; flight = Some (refusal begins_at.entry) }) inside
          (began who place world_session new session None None None refl tt whats.Refused None (refusal begins_at.entry) is begins_at refl refl),
    )

-- what can't be
pub no_world_session : (world_session : WorldSession) → Some world_session ≡ None → ⊥
no_world_session world_session both = cc

pub same_world_session : (a b : WorldSession) → Some a ≡ Some b → a ≡ b
same_world_session a b both = cc

pub not_true : false ≡ true → ⊥
not_true both = cc
