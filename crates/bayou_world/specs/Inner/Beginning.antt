-- Servers and sessions as a run begins: callers don't see it.
use Rattle.std.specs.Prelude.{◌≡◌, ℕ, ◌<◌, List, [], Option, None, Some, length, map}
use Rattle.std.specs.List.{slice_index_or}
use Rattle.bayou_base.specs.declared.asks.Asks.{Asks}
use Rattle.bayou_base.specs.declared.entry.Entry.{Entry}
use Rattle.bayou_base.specs.declared.limits.TheConstants.{SESSIONS}
use Rattle.bayou_session.specs.declared.session.TheConstants.{FIRST_RUN}
use Rattle.bayou_session.specs.Needs.{Told, new_session}
use Rattle.std.specs.Global.{Vec}
use Rattle.bayou_audit.specs.declared.totals.Totals.{Totals}
use Rattle.bayou_audit.specs.Totals.{is_read, is_refusal, is_write, number_of, totals_of}
use Rattle.bayou_lang.specs.declared.write.Write.{Write}
use Rattle.bayou_world.specs.declared.event.Event.{Event}
use Rattle.bayou_world.specs.declared.reply.Reply.{Reply}
use Rattle.bayou_world.specs.declared.run_history.RunHistory.{RunHistory}
use Rattle.bayou_world.specs.declared.state.State.{State}
use Rattle.bayou_world.specs.declared.world_server.WorldServer.{WorldServer}
use Rattle.bayou_world.specs.declared.world_session.WorldSession.{WorldSession}
use Rattle.bayou_world.specs.Inner.Charges.{AreAmple, IsUnused}
use Rattle.bayou_world.specs.Inner.Good.{IsGoodMachine}
use Rattle.bayou_world.specs.Inner.Tie.{IsOf}
use Rattle.bayou_world.specs.Inner.WorldBooks.{Booking, IsBookOf}
use Rattle.bayou_world.specs.Inner.WorldServers.{IsFresh, device_of, held_by}
use Rattle.bayou_world.specs.Machine.{Answered, Machine, writes}
use Rattle.bayou_world.specs.RunHistories.{Begun}
use Rattle.bayou_world.specs.Runs.{Run, asks_of, capacity_for}
use Rattle.bayou_world.specs.Tags.{AreTagged}

-- a server that was started first for each of the first so many places
pub record AreStarted (done count limit : ℕ) (servers : List WorldServer) : Type 0 where
  pub many : length servers ≡ done
  pub fresh : (place : ℕ) (d : WorldServer) → place < done → IsFresh count limit place (slice_index_or servers place d)
  pub unused : (place : ℕ) (d : WorldServer) → place < done → IsUnused (device_of (slice_index_or servers place d))

-- a session to which nothing has happened
pub record IsNewWorldSession (who : ℕ) (asks : Asks) (world_session : WorldSession) : Type 0 where
  pub name : world_session.session.id.index ≡ who
  pub session : world_session.session ≡ new_session world_session.session.id FIRST_RUN asks
  pub asked : world_session.asked ≡ None
  pub flight : world_session.flight ≡ None
  pub waiting : world_session.waiting.items ≡ []

-- the seat of this number: taken where one of the sessions has it
abbrev pub IsFirstSeat : ℕ → Option Asks → Option WorldSession → Type 0
IsFirstSeat who None None = Unit {0}
IsFirstSeat who (Some asks) (Some world_session) = IsNewWorldSession who asks world_session
IsFirstSeat who None (Some world_session) = ⊥
IsFirstSeat who (Some asks) None = ⊥

pub record AreFirstSeats (done : ℕ) (sessions : List Told) (world_sessions : List (Option WorldSession)) : Type 0 where
  pub many : length world_sessions ≡ done
  pub each : (who : ℕ) → who < done → IsFirstSeat who (asks_of sessions who) (slice_index_or world_sessions who None)

-- servers that were started first, and sessions to which nothing has happened
pub record IsFirstState (begun : Begun) (state : State) : Type 0 where
  pub started : AreStarted begun.count begun.count begun.limit state.servers.items
  pub seated : AreFirstSeats SESSIONS begun.sessions state.sessions.items
  pub offers : state.offers.items ≡ []
  pub items : state.items.items ≡ []
  pub served : state.served.items ≡ []

-- what is reported of a run in the end; no append of a server's device found no memory
pub record IsLeft (servers : List WorldServer) (served_last : List Entry) (answers : List Reply) (booked : Totals) (history : RunHistory) : Type 0 where
  pub ample : AreAmple servers
  pub replies : history.replies.items ≡ answers
  pub served : history.served.items ≡ served_last
  pub dumps : map (λ (dump : Vec Write). dump.items) history.dumps.items ≡ map held_by servers
  pub totals : history.totals ≡ booked

-- what events leave of a machine
pub record Leaves (first : Machine) (events : List Event) (history : RunHistory) : Type 0 where
  pub last : Machine
  pub run : Run first events history.replies.items last
  pub served : history.served.items ≡ map (λ (answered : Answered). answered.entry) last.served
  pub one_each : length history.dumps.items ≡ first.count
  pub dumps : (place : ℕ) (d : Vec Write) → place < first.count → (slice_index_or history.dumps.items place d).items ≡ writes (last.servers place).held
  pub totals : history.totals ≡ totals_of 0 (number_of is_read last.filed) (number_of is_write last.filed) (number_of is_refusal last.filed)

-- so far the events had these replies, and the state and the book are the machine's
pub record SoFar (first : Machine) (events : List Event) (replies : List Reply) (state : State) (booking : Booking) : Type 0 where
  pub now : Machine
  pub run : Run first events replies now
  pub good : IsGoodMachine now
  pub tagged : AreTagged now
  pub count : now.count ≡ first.count
  pub tied : IsOf state now
  pub book : IsBookOf booking now

-- the events had these replies and left this state, with a book of their own, which has these totals in the end
pub record IsBooked (old : State) (events : List Event) (replies : List Reply) (totals : Totals) (new : State) : Type 0 where
  pub empty : Booking
  pub full : Booking
  pub begins : empty ≡ record { capacity = capacity_for events; entries = [] }
  pub so_far : (first : Machine) → IsGoodMachine first → AreTagged first → IsOf old first → IsBookOf empty first → SoFar first events replies new full
  pub counted : totals ≡ totals_of 0 (number_of is_read full.entries) (number_of is_write full.entries) (number_of is_refusal full.entries)
