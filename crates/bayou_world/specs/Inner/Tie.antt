-- How the servers and sessions that run stand to the machine: callers don't see it.
use Rattle.std.specs.Prelude.{◌≡◌, ℕ, ◌<◌, List, Option, None, Some, All, length, map}
use Rattle.std.specs.List.{slice_index_or}
use Rattle.std.specs.Option.{option_and_then, option_map}
use Rattle.bayou_base.specs.declared.answer.Accepted.{Accepted}
use Rattle.bayou_base.specs.declared.entry.Entry.{Entry}
use Rattle.bayou_base.specs.declared.entry.What.{What}
use Rattle.bayou_base.specs.declared.entry.What.TheVariants as whats
use Rattle.bayou_base.specs.declared.limits.TheConstants.{SERVERS, SESSIONS}
use Rattle.bayou_lang.specs.declared.write.Write.{Write}
use Rattle.bayou_lang.specs.Writes.{count_of}
use Rattle.bayou_server.specs.Server.{Core}
use Rattle.bayou_session.specs.declared.session.TheConstants.{FIRST_RUN}
use Rattle.bayou_world.specs.declared.world_session.WorldSession.{WorldSession}
use Rattle.bayou_world.specs.declared.world_session.Asked.{Asked}
use Rattle.bayou_world.specs.declared.world_session.Flight.{Flight}
use Rattle.bayou_world.specs.declared.world_server.WorldServer.{WorldServer}
use Rattle.bayou_world.specs.declared.state.State.{State}
use Rattle.bayou_world.specs.Inner.Good.{IsGoodMachine}
use Rattle.bayou_world.specs.Inner.WorldServers.{IsKept, core_of, is_stopped}
use Rattle.bayou_world.specs.Invariant.{IsVectorOf}
use Rattle.bayou_world.specs.Machine.{Answered, Asking, Machine, Made, Offered, ServerSets, SessionSets, tag_at, writes}
use Rattle.bayou_world.specs.Tags.{AreTagged}

-- the Write of it
abbrev pub write_of : Made → Write
write_of made = made.write

-- the server that holds this, with the tags that it knows
pub record IsServerOf (count limit place : ℕ) (core : Core) (server : ServerSets) : Type 0 where
  pub is : core ≡ record {
    id = place;
    count = count;
    limit = limit;
    held = writes server.held;
    tags = map (tag_at place) server.held;
    doubt = option_map write_of server.doubt;
    doubt_tag = option_and_then (tag_at place) server.doubt;
  }

-- the same server, running or stopped, over an honest device
pub record IsWorldServerOf (count limit place : ℕ) (world_server : WorldServer) (server : ServerSets) : Type 0 where
  pub stopped : server.stopped ≡ is_stopped world_server
  pub core : IsServerOf count limit place (core_of world_server) server
  pub kept : IsKept world_server

-- the entry tells what was accepted
abbrev pub IsAcceptedIn : What → Option Accepted → Type 0
IsAcceptedIn (whats.Read key vector) accepted = accepted ≡ None
IsAcceptedIn (whats.Write wid stamp deps) accepted = (told : Accepted) × (accepted ≡ Some told) × (told.wid ≡ wid)
IsAcceptedIn whats.Refused accepted = accepted ≡ None

abbrev pub IsFlightOf : Option Flight → Option Answered → Type 0
IsFlightOf None None = Unit {0}
IsFlightOf (Some flight) (Some answered) = (flight.entry ≡ answered.entry) × IsAcceptedIn answered.entry.what flight.accepted
IsFlightOf None (Some answered) = ⊥
IsFlightOf (Some flight) None = ⊥

-- the place at which it was asked first
abbrev pub number_of : Asking → ℕ
number_of asking = asking.number

-- what is kept to be asked again is what was asked
abbrev pub IsAskedOf : Option Asked → Option Asking → Type 0
IsAskedOf None None = Unit {0}
IsAskedOf (Some asked) (Some asking) = (asked.server.index ≡ asking.server) × (asked.program ≡ asking.program)
IsAskedOf None (Some asking) = ⊥
IsAskedOf (Some asked) None = ⊥

-- the session's two vectors stand for its sets, and it may ask the same Write again, or none
pub record IsWorldSessionOf (who : ℕ) (world_session : WorldSession) (session : SessionSets) : Type 0 where
  pub name : world_session.session.id.index ≡ who
  pub asks : world_session.session.asks ≡ session.asks
  pub run : world_session.session.run ≡ FIRST_RUN
  pub begun : world_session.session.begun ≡ session.begun
  pub asked : world_session.session.asked ≡ option_map number_of session.asked
  pub kept : IsAskedOf world_session.asked session.asked
  pub long : (length world_session.session.reads ≡ SERVERS) × (length world_session.session.writes ≡ SERVERS)
  pub reads : IsVectorOf world_session.session.reads session.reads
  pub writes : IsVectorOf world_session.session.writes session.writes
  pub flight : IsFlightOf world_session.flight session.flight
  pub waiting : world_session.waiting.items ≡ session.waiting
  pub own : All (λ (entry : Entry). entry.session.index ≡ who) session.waiting

abbrev pub IsSeatOf : ℕ → Option WorldSession → Option SessionSets → Type 0
IsSeatOf who None None = Unit {0}
IsSeatOf who (Some world_session) (Some session) = IsWorldSessionOf who world_session session
IsSeatOf who None (Some session) = ⊥
IsSeatOf who (Some world_session) None = ⊥

-- the session of this number, if there is one
abbrev pub seat : List (Option WorldSession) → ℕ → Option WorldSession
seat world_sessions who = slice_index_or world_sessions who None

pub record IsTied (servers : List WorldServer) (world_sessions : List (Option WorldSession)) (offers : List (List ℕ)) (items : List Write) (served : List Entry) (machine : Machine) : Type 0 where
  pub many : length servers ≡ machine.count
  pub servers_are : (place : ℕ) (d : WorldServer) → place < machine.count → IsWorldServerOf machine.count machine.limit place (slice_index_or servers place d) (machine.servers place)
  pub seats : length world_sessions ≡ SESSIONS
  pub sessions_are : (who : ℕ) → who < SESSIONS → IsSeatOf who (seat world_sessions who) (machine.sessions who)
  pub offers_are : offers ≡ map (λ (offer : Offered). count_of offer.database) machine.offers
  pub items_are : items ≡ writes machine.items
  pub served_are : served ≡ map (λ (answered : Answered). answered.entry) machine.served

abbrev pub IsOf : State → Machine → Type 0
IsOf state machine = IsTied state.servers.items state.sessions.items state.offers.items state.items.items state.served.items machine

-- Whatever good machine the old state is tied to, in which a tag is of one Write: what is done to the machine leaves one that the new state
-- is tied to.
abbrev pub Follows : State → (Machine → Machine → Type 0) → State → Type 0
Follows old Does new = (machine : Machine) → IsGoodMachine machine → AreTagged machine → IsOf old machine → (next : Machine) × Does machine next × IsOf new next
