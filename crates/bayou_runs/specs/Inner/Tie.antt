-- How a script's servers and sessions stand beside those of the machine: callers don't see it.
use Rattle.std.specs.Prelude.{◌≡◌, ◌⊎◌, ℕ, ◌+◌, ◌*◌, ◌<◌, ◌≤◌, Bool, true, false, List, [], ◌++◌, None, Some, Result, Ok, length, max}
use Rattle.std.specs.List.{slice_get}
use Rattle.std.specs.Option.{option_map}
use Rattle.bayou_base.specs.declared.answer.Seen.{Seen}
use Rattle.bayou_base.specs.declared.limits.TheConstants.{MAX_NUMBER, MAX_WRITES, SESSIONS}
use Rattle.bayou_base.specs.declared.server.ServerId.{ServerId}
use Rattle.bayou_base.specs.declared.session.SessionId.{SessionId}
use Rattle.bayou_base.specs.declared.tag.Tag.{Tag}
use Rattle.bayou_device.specs.Memory.{Memory, kept_bytes}
use Rattle.bayou_device.specs.MemoryDevice.{memory_device}
use Rattle.bayou_journal.specs.Opening.{KeepsChains}
use Rattle.bayou_lang.specs.declared.program.Program.{Program}
use Rattle.bayou_lang.specs.Writes.{count_of, lacking_of}
use Rattle.bayou_lang.specs.declared.write.Write.{Write}
use Rattle.bayou_server.specs.declared.answer.Reopened.{Reopened}
use Rattle.bayou_server.specs.declared.answer.Stopped.{Stopped as StoppedServer}
use Rattle.bayou_server.specs.declared.answer.Took.{Took}
use Rattle.bayou_server.specs.declared.answer.Written.{Written}
use Rattle.bayou_server.specs.declared.fault.Behind.{Behind}
use Rattle.bayou_server.specs.declared.fault.ReopenFault.{ReopenFault}
use Rattle.bayou_server.specs.declared.fault.StartFault.{StartFault}
use Rattle.bayou_server.specs.declared.fault.TakeFault.{TakeFault}
use Rattle.bayou_server.specs.declared.fault.WriteFault.{WriteFault}
use Rattle.bayou_server.specs.Honest.{AreHonest, IsHonestAnswer, IsHonestServer, IsHonestServerDevice}
use Rattle.bayou_server.specs.Reads.{Reads}
use Rattle.bayou_server.specs.Reopens.{Reopens}
use Rattle.bayou_server.specs.Server.{Core, IsSoundServer, holds_of, record_in_doubt, records_of, with_device}
use Rattle.bayou_server.specs.Starts.{FailsToStart, Starts, StartsOn}
use Rattle.bayou_server.specs.Stored.{ReopensJournal, StoresTaken, StoresWrite}
use Rattle.bayou_server.specs.Takes.{Takes}
use Rattle.bayou_server.specs.Writes.{Writes}
use Rattle.bayou_session.specs.declared.session.TheConstants.{FIRST_RUN}
use Rattle.bayou_session.specs.Needs.{Told, read_need, write_need}
use Rattle.bayou_text.specs.Said.{Said}
use Rattle.bayou_script.specs.Capacity.{capacity_for, operations}
use Rattle.bayou_script.specs.Script.{Plan, is_open}
use Rattle.bayou_machine.specs.declared.script_server.ScriptServer.{ScriptServer}
use Rattle.bayou_machine.specs.declared.script_server.ScriptServer.TheVariants.{Running, Stopped}
use Rattle.bayou_machine.specs.Run.{ScriptState}
use Rattle.bayou_machine.specs.ScriptServer.{Serving}
use Rattle.bayou_machine.specs.Seats.{Asked, Seat}
use Rattle.bayou_machine.specs.Standing.{StandsAt, seat_of}
use Rattle.bayou_world.specs.declared.event.Event.{Event}
use Rattle.bayou_world.specs.declared.event.Event.TheVariants as events
use Rattle.bayou_world.specs.declared.reply.Reply.{Reply}
use Rattle.bayou_world.specs.declared.reply.Reply.TheVariants as replies
use Rattle.bayou_world.specs.Agreement.{IsToldOf, NeedsAgree, StandsFor}
use Rattle.bayou_world.specs.Machine.{Answered, Asking, Machine, Made, Offered, SessionSets, writes}
use Rattle.bayou_world.specs.Never.{core_at}
use Rattle.bayou_world.specs.Rows.{IsAnsweredAt, IsOnlyServer, told_of_program, told_of_read}
use Rattle.bayou_world.specs.Runs.{Run, first_machine, new_session}
use Rattle.bayou_world.specs.Steps.{IsGiven, IsRunning, IsTagOf, MayBegin, Step, TakeStep, first_asking, heard}
use Rattle.bayou_runs.specs.Lines.{has_lost}
use Rattle.bayou_runs.specs.Runs.{asks_in}

-- the machine as a script's run begins, before the first offer
abbrev pub first_of_script : Plan → Machine
first_of_script plan = first_machine plan.count plan.limit (capacity_for plan.commands) (asks_in plan.commands)

-- what a Write of the machine that may be asked again is to a script's session
abbrev pub asked_by_it : Asking → Asked
asked_by_it asking = record { server = asking.server; program = asking.program }

abbrev pub number_of_it : Asking → ℕ
number_of_it asking = asking.number

-- what the script's session of this number heard and may ask again is what the machine's did and may
pub record IsTelling (who : ℕ) (seat : Seat) (session : SessionSets) : Type 0 where
  pub id : seat.told.id.index ≡ who
  pub run : seat.told.run ≡ FIRST_RUN
  pub begun : seat.told.begun ≡ session.begun
  pub number : seat.told.asked ≡ option_map number_of_it session.asked
  pub asked : seat.asked ≡ option_map asked_by_it session.asked
  pub stands : StandsFor seat.told session

-- between two lines nothing is in flight to a session, and nothing waits
pub record IsSeatOf (who : ℕ) (seat : Seat) (session : SessionSets) : Type 0 where
  pub telling : IsTelling who seat session
  pub idle : session.flight ≡ None
  pub filed : session.waiting ≡ []

-- what is so of a server in each call: it is sound, has one Write in doubt at the most, and is over an honest device, unless that lost bytes
pub record IsSafe (lost : Bool) (server : Serving) : Type 0 where
  pub sound : IsSoundServer server.core
  pub alone : server.taking ≡ []
  pub honest : lost ≡ false → IsHonestServer memory_device server

-- the script's server at this place, and the machine's: both run, and hold the same
pub record IsRunningAt (lost : Bool) (machine : Machine) (place : ℕ) (replica : ScriptServer) : Type 0 where
  pub server : Serving
  pub is : replica ≡ Running server
  pub core_is : server.core ≡ core_at machine place
  pub safe : IsSafe lost server
  pub runs : (machine.servers place).stopped ≡ false

-- the device is honest for what the machine's server holds
abbrev pub HasHonestDevice : Machine → (place : ℕ) → Memory → Type 0
HasHonestDevice machine place device = IsHonestServerDevice memory_device place (records_of (core_at machine place)) (record_in_doubt (core_at machine place)) device

-- a start of the script's server was refused: the machine's runs all the same, and holds what that held
pub record IsStoppedAt (lost : Bool) (machine : Machine) (place : ℕ) (replica : ScriptServer) : Type 0 where
  pub left : StoppedServer Memory
  pub is : replica ≡ Stopped left
  pub last_is : left.last ≡ holds_of (core_at machine place)
  pub sound : IsSoundServer (core_at machine place)
  pub honest : lost ≡ false → HasHonestDevice machine place left.device
  pub runs : (machine.servers place).stopped ≡ false

abbrev pub IsBeside : (lost : Bool) → Machine → (place : ℕ) → ScriptServer → Type 0
IsBeside lost machine place replica = IsRunningAt lost machine place replica ⊎ IsStoppedAt lost machine place replica

-- the machine's session of the script's, which a line has opened
pub record IsSeated (machine : Machine) (who : ℕ) (seat : Seat) : Type 0 where
  pub session : SessionSets
  pub there : machine.sessions who ≡ Some session
  pub is : IsSeatOf who seat session

-- the script stands, after these of its lines, as the machine does
pub record IsAt (plan : Plan) (front rest : List Said) (state : ScriptState) (machine : Machine) : Type 0 where
  pub split : plan.commands ≡ front ++ rest
  pub events : List Event
  pub replies : List Reply
  pub run : Run (first_of_script plan) events replies machine
  pub count : machine.count ≡ plan.count
  pub limit : machine.limit ≡ plan.limit
  pub count_is : state.standing.count ≡ plan.count
  pub limit_is : state.standing.limit ≡ plan.limit
  pub one_each : length state.standing.servers ≡ plan.count
  pub each : (place : ℕ) (replica : ScriptServer) → StandsAt state.standing place replica → IsBeside (has_lost place front) machine place replica
  pub one_seat_each : length state.standing.sessions ≡ SESSIONS
  pub known : (who : ℕ) → is_open who front ≡ true → who < SESSIONS
  pub opened : (who : SessionId) → is_open who.index front ≡ true → IsSeated machine who.index (seat_of state.standing who)
  pub unopened : (who : ℕ) → is_open who front ≡ false → machine.sessions who ≡ option_map new_session (asks_in plan.commands who)
  pub entries : state.book.entries ≡ machine.filed
  pub room : length machine.filed + operations rest ≤ machine.capacity
  pub offer : slice_get machine.offers 0 ≡ Some (record { server = 0; database = [] })
  pub offers_few : length machine.offers ≤ length front + 1
  pub items_few : length machine.items ≤ MAX_WRITES * length front

-- what the laws of the machine say of it, where a run led to it
pub record AreRows (last : Machine) : Type 0 where
  pub reads_are : (who : SessionId) (place : ServerId) (session : SessionSets) (told : Told) → MayBegin last who.index place.index session → StandsFor told session
      → (key : List ℕ) (answer : Result Seen Behind) → Reads (core_at last place.index) (read_need told) key answer
      → (next : Machine) × Step last (events.Read who place key) (replies.Read answer) next
      × IsAnsweredAt last who.index place.index session None (told_of_read key answer) (core_at last place.index) next
  pub writes_are : (who : SessionId) (place : ServerId) (session : SessionSets) (told : Told) → MayBegin last who.index place.index session → StandsFor told session
      → (tag : Tag) → IsTagOf who.index (session.begun + 1) tag → (program : Program) (answer : Result Written WriteFault) (new : Core) → Writes (core_at last place.index) tag (write_need told) program answer new
      → (next : Machine) × Step last (events.Write who place program) (replies.Wrote answer) next
      × IsAnsweredAt last who.index place.index session (Some (first_asking place.index session program)) (told_of_program answer) new next
  pub agains_are : (who : SessionId) (place : ServerId) (session : SessionSets) (told : Told) → StandsFor told session → (asking : Asking) → session.asked ≡ Some asking → place.index ≡ asking.server
      → MayBegin last who.index asking.server session → (tag : Tag) → IsTagOf who.index asking.number tag
      → (answer : Result Written WriteFault) (new : Core) → Writes (core_at last asking.server) tag (write_need told) asking.program answer new
      → (next : Machine) × Step last (events.Again who) (replies.AskedAgain place answer) next
      × IsAnsweredAt last who.index asking.server session (Some asking) (told_of_program answer) new next
  pub collects_are : (place : ServerId) (offer : ℕ) (offered : Offered) → IsRunning last place.index → slice_get last.offers offer ≡ Some offered
      → (lacking : List Made) × (writes lacking ≡ lacking_of (count_of offered.database) (writes (last.servers place.index).held)) × (length last.items + max (length lacking) 1 ≤ MAX_NUMBER + 1
      → Step last (events.Collect place offer) (replies.Flown (length last.items) (length lacking)) (record last { items = last.items ++ lacking }))
  pub takes_are : (place item : ℕ) (made : Made) → IsGiven last place item made → (answer : Result Took TakeFault) (new : Core) → Takes (core_at last place) made.write answer new
      → (next : Machine) × TakeStep last place item (replies.Took answer) next × (new ≡ core_at next place)
  pub reopens_are : (place : ServerId) → IsRunning last place.index → (answer : Result Reopened ReopenFault) (new : Core) → IsHonestAnswer answer → Reopens (core_at last place.index) answer new
      → (next : Machine) × Step last (events.Reopen place) (replies.Reopened answer) next × IsOnlyServer last place.index new next
  pub starts_are : (place : ServerId) → place.index < last.count → (new : Core) → Starts place.index last.count last.limit new
      → AreHonest (records_of (core_at last place.index)) (record_in_doubt (core_at last place.index)) (records_of new)
      → (next : Machine) × Step last (events.Restart place) (replies.Restarted (Ok (length new.held))) next × IsOnlyServer last place.index new next
  pub needs_are : (session : SessionSets) (told : Told) → StandsFor told session → NeedsAgree last session told
  pub hears_are : (who : ℕ) (session : SessionSets) (answered : Answered) → last.sessions who ≡ Some session → session.flight ≡ Some answered
      → (old new : Told) → StandsFor old session → IsToldOf answered.entry.what old new → StandsFor new (heard answered session)

-- the laws say it of each run of the script's
abbrev pub HaveRows : Plan → Type 0
HaveRows plan = (events : List Event) (replies : List Reply) (last : Machine) → Run (first_of_script plan) events replies last → AreRows last

-- what the laws of servers say of devices in memory, whose failed calls do no more than to tear
pub record StayHonest : Type 0 where
  pub written : (tag : Tag) (need : List ℕ) (program : Program) (result : Result Written WriteFault) (old new : Serving) → IsSoundServer old.core → IsSoundServer new.core
      → IsHonestServer memory_device old → Writes old.core tag need program result new.core → StoresWrite memory_device old result new → KeepsChains (kept_bytes old.device) (kept_bytes new.device)
      → IsHonestServer memory_device new
  pub taken : (given : Write) (result : Result Took TakeFault) (old new : Serving) → IsSoundServer old.core → IsSoundServer new.core
      → IsHonestServer memory_device old → Takes old.core given result new.core → StoresTaken memory_device old result new → KeepsChains (kept_bytes old.device) (kept_bytes new.device)
      → IsHonestServer memory_device new
  pub reopened : (result : Result Reopened ReopenFault) (old new : Serving) → IsSoundServer old.core → IsHonestServer memory_device old
      → Reopens old.core result new.core → ReopensJournal memory_device old result new → KeepsChains (kept_bytes old.device) (kept_bytes new.device) → IsHonestServer memory_device new
  pub answered : (result : Result Reopened ReopenFault) (old new : Serving) → IsSoundServer old.core → IsHonestServer memory_device old
      → Reopens old.core result new.core → ReopensJournal memory_device old result new → IsHonestAnswer result
  pub started : (id count limit dropped : ℕ) (device : Memory) (server : Serving) → Starts id count limit server.core → StartsOn memory_device device server dropped → IsHonestServer memory_device server
  pub found : (old : Core) (dropped : ℕ) (device : Memory) (server : Serving) → IsSoundServer old → IsHonestServerDevice memory_device old.id (records_of old) (record_in_doubt old) device
      → Starts old.id old.count old.limit server.core → StartsOn memory_device device server dropped → AreHonest (records_of old) (record_in_doubt old) (records_of server.core)
  pub refused : (old : Core) (device left : Memory) (fault : StartFault) → IsSoundServer old → IsHonestServerDevice memory_device old.id (records_of old) (record_in_doubt old) device
      → FailsToStart memory_device old.id old.count old.limit device left fault → KeepsChains (kept_bytes device) (kept_bytes left)
      → IsHonestServerDevice memory_device old.id (records_of old) (record_in_doubt old) left
  pub device : (server : Serving) → IsHonestServer memory_device server → IsHonestServerDevice memory_device server.core.id (records_of server.core) (record_in_doubt server.core) server.device
  pub moved : (server : Serving) (other : Memory) → other.bytes ≡ server.device.bytes → kept_bytes other ≡ kept_bytes server.device
      → IsHonestServer memory_device server → IsHonestServer memory_device (with_device server other)
