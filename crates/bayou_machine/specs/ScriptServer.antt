-- What a server of a script makes of each command, and what a session hears of it.
use Rattle.std.specs.Prelude.{◌≡◌, ◌≢◌, ℕ, ◌+◌, ◌<◌, ◌⊎◌, List, [], Result, Ok, Err, length, Bool, true, false, Some}
use Rattle.bayou_base.specs.declared.answer.Seen.{Seen}
use Rattle.bayou_base.specs.declared.limits.TheConstants.{MAX_PLACES}
use Rattle.bayou_base.specs.declared.server.ServerId.{ServerId}
use Rattle.bayou_base.specs.declared.session.SessionId.{SessionId}
use Rattle.bayou_base.specs.declared.tag.Tag.{Tag}
use Rattle.bayou_device.specs.Memory.{Memory, LeadsTo, empty_device, kept_bytes, shortened, with_fuse}
use Rattle.bayou_device.specs.MemoryDevice.{memory_device}
use Rattle.bayou_lang.specs.declared.program.Program.{Program}
use Rattle.bayou_lang.specs.declared.write.Write.{Write}
use Rattle.bayou_lang.specs.Writes.{count_of}
use Rattle.bayou_log.specs.Listing.{listing_of}
use Rattle.bayou_server.specs.declared.answer.Stopped.{Stopped as StoppedServer}
use Rattle.bayou_server.specs.declared.answer.Written.{Written}
use Rattle.bayou_server.specs.declared.fault.Behind.{Behind}
use Rattle.bayou_server.specs.declared.fault.ReopenFault.{ReopenFault}
use Rattle.bayou_server.specs.declared.fault.StartFault.{StartFault}
use Rattle.bayou_server.specs.declared.fault.StartFault.TheVariants.{OutOfMemory}
use Rattle.bayou_server.specs.declared.fault.WriteFault.{WriteFault}
use Rattle.bayou_server.specs.Faults.{reopen_refusal, write_refusal}
use Rattle.bayou_base.specs.declared.refusal.Refusal.TheVariants.{Behind as BehindNeed}
use Rattle.bayou_server.specs.Reads.{Reads}
use Rattle.bayou_server.specs.Reopens.{ReopensAll}
use Rattle.bayou_journal.specs.Opening.{KeepsChains}
use Rattle.bayou_server.specs.Server.{Holds, IsSoundServer, ServerState, holds_of, with_device}
use Rattle.bayou_server.specs.Starts.{FailsToStart, Starts, StartsOn}
use Rattle.bayou_server.specs.Stored.{OpensInCalls, ReopensJournal, StoresWrite}
use Rattle.bayou_server.specs.Writes.{Writes}
use Rattle.bayou_session.specs.Needs.{IsTagOf, read_need, write_need}
use Rattle.bayou_answers.specs.declared.answer.Answer.{Answer}
use Rattle.bayou_answers.specs.declared.answer.Answer.TheVariants.{Done, Wrote, Read, Refused, Lost, NotAgain, Logged, Recovered, Exchanged, Counted, Judged, Surveyed, Booked}
use Rattle.bayou_answers.specs.declared.answer.Answer.TheVariants as answers
use Rattle.bayou_answers.specs.declared.answer.Recovery.{Recovery}
use Rattle.bayou_answers.specs.declared.answer.Recovery.TheVariants.{Reopened, NotReopened, NotRunning, Restarted, NotRestarted}
use Rattle.bayou_answers.specs.declared.fault.BeginFault.{BeginFault}
use Rattle.bayou_answers.specs.declared.fault.BeginFault.TheVariants as faults
use Rattle.bayou_machine.specs.declared.script_server.ScriptServer.{ScriptServer}
use Rattle.bayou_machine.specs.declared.script_server.ScriptServer.TheVariants.{Running, Stopped}
use Rattle.bayou_machine.specs.Seats.{Seat, asks_at, asks_once_more, begins_read, given_of, told_of_read, told_of_write}

-- ---- servers on devices in memory

-- a server that serves
abbrev pub Serving : Type 0
Serving = ServerState Memory

-- the device of a server that runs or is stopped, what it holds, or held as it was stopped, and the Writes of that
abbrev pub device_of : ScriptServer → Memory
device_of (Running server) = server.device
device_of (Stopped left) = left.device

abbrev pub held_at_last : ScriptServer → Holds
held_at_last (Running server) = holds_of server.core
held_at_last (Stopped left) = left.last

abbrev pub held_by : ScriptServer → List Write
held_by replica = (held_at_last replica).held

-- the server, on another device
abbrev pub on_device : ScriptServer → Memory → ScriptServer
on_device (Running server) device = Running (with_device server device)
on_device (Stopped left) device = Stopped (record left { device = device })

-- ---- operations of sessions

abbrev pub write_answer : SessionId → Result Written WriteFault → Answer
write_answer who (Ok written) = Wrote who (given_of written)
write_answer who (Err fault) = Refused who (write_refusal fault)

abbrev pub read_answer : SessionId → List ℕ → Result Seen Behind → Answer
read_answer who key (Ok seen) = Read who key seen
read_answer who key (Err behind) = Refused who (BehindNeed behind.vector)

-- what is heard of a reply: all of it, or that none came, where it is dropped
abbrev pub reply_of : (drops : Bool) → SessionId → Answer → Answer
reply_of true who answer = Lost who
reply_of false who answer = answer

-- No reply reaches a session that has no place left, nor one whose server is stopped: that one has begun the place.
pub data GetsNoReply (who : SessionId) (begins : Seat → Seat) (replica : ScriptServer) (seat : Seat) (answer : Answer) (now : Seat) : Type 0 where
  no_place : seat.told.begun ≡ MAX_PLACES → answer ≡ Lost who → now ≡ seat → GetsNoReply who begins replica seat answer now
  stopped : (left : StoppedServer Memory) → replica ≡ Stopped left → seat.told.begun < MAX_PLACES → answer ≡ Lost who → now ≡ begins seat
      → GetsNoReply who begins replica seat answer now

-- The server answers the session's Write, which has the tag of the place `number`, by what the session needs of it now.
pub record AnswersWrite (who : SessionId) (number : ℕ) (program : Program) (begins : Seat → Seat) (before : ScriptServer) (seat : Seat) (answer : Answer) (after : ScriptServer) (now : Seat) : Type 0 where
  pub old : Serving
  pub new : Serving
  pub tag : Tag
  pub result : Result Written WriteFault
  pub was : before ≡ Running old
  pub left : seat.told.begun < MAX_PLACES
  pub asked : IsTagOf seat.told number tag
  pub writes : Writes old.core tag (write_need seat.told) program result new.core
  pub stores : StoresWrite memory_device old result new
  pub sound : IsSoundServer old.core × IsSoundServer new.core
  pub others : new.taking ≡ old.taking
  pub safe : KeepsChains (kept_bytes old.device) (kept_bytes new.device)
  pub calls : LeadsTo 2 old.device new.device
  pub answered : answer ≡ reply_of seat.drops who (write_answer who result)
  pub is : after ≡ Running new
  pub told_of : now ≡ told_of_write seat.drops (begins seat) result

-- the session tries a Write of the program at this server, under the tag of the place begun now
abbrev pub IsWritten : SessionId → (place : ℕ) → Program → ScriptServer → Seat → Answer → ScriptServer → Seat → Type 0
IsWritten who place program before seat answer after now =
    (GetsNoReply who (asks_at place program) before seat answer now × (after ≡ before))
    ⊎ AnswersWrite who (seat.told.begun + 1) program (asks_at place program) before seat answer after now

-- it tries its last Write, which was of this program, again, under the tag that it had
abbrev pub IsWrittenAgain : SessionId → Program → ScriptServer → Seat → Answer → ScriptServer → Seat → Type 0
IsWrittenAgain who program before seat answer after now =
    (GetsNoReply who asks_once_more before seat answer now × (after ≡ before))
    ⊎ ((number : ℕ) × (seat.told.asked ≡ Some number) × AnswersWrite who number program asks_once_more before seat answer after now)

-- The server answers the session's read, by what the session needs of it.
pub record AnswersRead (who : SessionId) (key : List ℕ) (replica : ScriptServer) (seat : Seat) (answer : Answer) (now : Seat) : Type 0 where
  pub server : Serving
  pub result : Result Seen Behind
  pub runs : replica ≡ Running server
  pub left : seat.told.begun < MAX_PLACES
  pub reads : Reads server.core (read_need seat.told) key result
  pub answered : answer ≡ reply_of seat.drops who (read_answer who key result)
  pub told_of : now ≡ told_of_read seat.drops (begins_read seat) result

abbrev pub IsRead : SessionId → List ℕ → ScriptServer → Seat → Answer → Seat → Type 0
IsRead who key replica seat answer now = GetsNoReply who begins_read replica seat answer now ⊎ AnswersRead who key replica seat answer now

-- ---- what is asked of servers alone

-- the server was started, on this device: so many bytes were cut after its journal's entries
pub record IsStarted (count limit place : ℕ) (device : Memory) (server : Serving) (dropped : ℕ) : Type 0 where
  pub starts : Starts place count limit server.core
  pub others : server.taking ≡ []
  pub opens : StartsOn memory_device device server dropped
  pub calls : OpensInCalls memory_device place device server.device

-- its start was refused, and this is left of the device
pub record IsRefusedStart (count limit place : ℕ) (device left : Memory) (refusal : StartFault) : Type 0 where
  pub fails : FailsToStart memory_device place count limit device left refusal
  pub safe : KeepsChains (kept_bytes device) (kept_bytes left)
  pub calls : OpensInCalls memory_device place device left

-- the server was started first, on an empty device, on which no fuse waits
abbrev pub IsBegun : ℕ → ℕ → ℕ → ScriptServer → Type 0
IsBegun count limit place replica = (server : Serving) × (dropped : ℕ) × (replica ≡ Running server) × IsStarted count limit place empty_device server dropped

-- that start was refused for want of memory
abbrev pub WantsMemory : ℕ → ℕ → ℕ → Type 0
WantsMemory count limit place = (left : Memory) × IsRefusedStart count limit place empty_device left OutOfMemory

-- or for something else
abbrev pub IsNotBegun : ℕ → ℕ → ℕ → Type 0
IsNotBegun count limit place = (refusal : StartFault) × (refusal ≢ OutOfMemory) × ((left : Memory) × IsRefusedStart count limit place empty_device left refusal)

-- what keeps the server from beginning
abbrev pub IsBeginFault : ℕ → ℕ → ℕ → BeginFault → Type 0
IsBeginFault count limit place faults.OutOfMemory = WantsMemory count limit place
IsBeginFault count limit place faults.Device = IsNotBegun count limit place

-- A log tells the Writes held in stamp order, each with the outcome that it has in the replay, and how many of each server
-- are held; a stopped server has none.
abbrev pub IsListed : ServerId → ScriptServer → Answer → Type 0
IsListed id replica (Logged name listing vector) =
    (name ≡ id) × ((server : Serving) × (replica ≡ Running server) × (listing.items ≡ listing_of server.core.held) × (vector ≡ count_of server.core.held))
IsListed id replica (answers.Stopped name) = (name ≡ id) × ((left : StoppedServer Memory) × (replica ≡ Stopped left))
IsListed id replica Done = ⊥
IsListed id replica (Wrote who accepted) = ⊥
IsListed id replica (Read who key seen) = ⊥
IsListed id replica (Refused who refusal) = ⊥
IsListed id replica (Lost who) = ⊥
IsListed id replica (NotAgain who) = ⊥
IsListed id replica (Recovered recovery) = ⊥
IsListed id replica (Exchanged exchange) = ⊥
IsListed id replica (Counted totals) = ⊥
IsListed id replica (Judged result) = ⊥
IsListed id replica (Surveyed result) = ⊥
IsListed id replica (Booked file) = ⊥

-- its device is to fail
abbrev pub IsFused : ℕ → ℕ → ScriptServer → ScriptServer → Type 0
IsFused calls kept before after = after ≡ on_device before (with_fuse calls kept (device_of before))

-- its device lost so many bytes at its end
abbrev pub IsShortened : ℕ → ScriptServer → ScriptServer → Type 0
IsShortened count before after = after ≡ on_device before (shortened count (device_of before))

-- a server that runs was to be reopened, and a stopped one isn't
abbrev pub IsReopened : ServerId → ScriptServer → Recovery → ScriptServer → Type 0
IsReopened id before (Reopened name adopted) after = (name ≡ id) × ((old new : Serving) × (before ≡ Running old) × (after ≡ Running new)
    × ReopensAll old.core old.taking (Ok (record { adopted = adopted })) new.core × ReopensJournal memory_device old (Ok (record { adopted = adopted })) new
    × OpensInCalls memory_device old.core.id old.device new.device
    × IsSoundServer old.core × IsSoundServer new.core × KeepsChains (kept_bytes old.device) (kept_bytes new.device) × (new.taking ≡ []))
IsReopened id before (NotReopened refusal) after = (old new : Serving) × (fault : ReopenFault) × (before ≡ Running old) × (after ≡ Running new)
    × (refusal ≡ reopen_refusal fault)
    × ReopensAll old.core old.taking (Err fault) new.core × ReopensJournal memory_device old (Err fault) new × OpensInCalls memory_device old.core.id old.device new.device
    × IsSoundServer old.core × IsSoundServer new.core × KeepsChains (kept_bytes old.device) (kept_bytes new.device) × (new.taking ≡ old.taking)
IsReopened id before NotRunning after = (left : StoppedServer Memory) × (before ≡ Stopped left) × (after ≡ before)
IsReopened id before (Restarted name holds dropped) after = ⊥
IsReopened id before (NotRestarted refusal) after = ⊥

-- The server was stopped, and started on what its device has. Where that was refused, it keeps what it held.
abbrev pub IsRestarted : ℕ → ℕ → ServerId → ScriptServer → Recovery → ScriptServer → Type 0
IsRestarted count limit id before (Restarted name holds dropped) after = (name ≡ id) × ((new : Serving) × (after ≡ Running new) × (holds ≡ length new.core.held)
    × IsStarted count limit id.index (device_of before) new dropped)
IsRestarted count limit id before (NotRestarted refusal) after = (left : StoppedServer Memory) × (after ≡ Stopped left)
    × (held_at_last after ≡ held_at_last before)
    × IsRefusedStart count limit id.index (device_of before) left.device refusal
IsRestarted count limit id before (Reopened name adopted) after = ⊥
IsRestarted count limit id before (NotReopened refusal) after = ⊥
IsRestarted count limit id before NotRunning after = ⊥
