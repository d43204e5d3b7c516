-- The servers and the sessions of a script.
use Rattle.std.specs.Prelude.{◌≡◌, ℕ, ◌<◌, List, Option, None, Some, false, length, map, option_and_then, slice_set}
use Rattle.std.specs.Option.{option_map}
use Rattle.std.specs.List.{slice_get, slice_index_or}
use Rattle.bayou_base.specs.declared.asks.Asks.{Asks}
use Rattle.bayou_base.specs.declared.limits.TheConstants.{SESSIONS}
use Rattle.bayou_base.specs.declared.session.SessionId.{SessionId}
use Rattle.bayou_answers.specs.declared.fault.BeginFault.{BeginFault}
use Rattle.bayou_answers.specs.declared.fault.BeginFault.TheVariants as faults
use Rattle.bayou_machine.specs.declared.script_server.ScriptServer.{ScriptServer}
use Rattle.bayou_lang.specs.declared.write.Write.{Write}
use Rattle.bayou_text.specs.Said.{Said, again, read, write}
use Rattle.bayou_machine.specs.ScriptServer.{IsBegun, IsNotBegun, held_by}
use Rattle.bayou_machine.specs.Seats.{Asked, Seat, new_seat}

-- How many servers there are, how many Writes each may hold, where each of them stands, and the sessions that there may be: one that wasn't
-- opened asks for nothing, and no script uses it.
pub record Standing : Type 0 where
  pub count : ℕ
  pub limit : ℕ
  pub servers : List ScriptServer
  pub sessions : List Seat

abbrev pub nothing_asked : Asks
nothing_asked = record { ryw = false; mr = false; wfr = false; mw = false }

-- the session of this name
abbrev pub seat_of : Standing → SessionId → Seat
seat_of standing who = slice_index_or standing.sessions who.index (new_seat who nothing_asked)

-- the same, with this session
abbrev pub with_session : Standing → SessionId → Seat → Standing
with_session standing who seat = record standing { sessions = slice_set standing.sessions who.index seat }

-- the Write that the session of this number may ask again
abbrev pub asked_by : Standing → ℕ → Option Asked
asked_by standing who = option_and_then (λ seat. seat.asked) (slice_get standing.sessions who)

-- The session that tries an operation, and the server at which it does: a Write is asked again where it was asked.
abbrev pub tried_at : Standing → Said → Option (ℕ × ℕ)
tried_at standing (write who place program) = Some (who, place)
tried_at standing (read who place key) = Some (who, place)
tried_at standing (again who) = option_map (λ asked. (who, asked.server)) (asked_by standing who)
tried_at standing _ = None

-- the same, with this server
abbrev pub with_server : Standing → ℕ → ScriptServer → Standing
with_server standing place replica = record standing { servers = slice_set standing.servers place replica }

-- the server of this index stands so
abbrev pub StandsAt : Standing → ℕ → ScriptServer → Type 0
StandsAt standing place replica = slice_get standing.servers place ≡ Some replica

-- what each server holds, or held as it was stopped, in order of receipt
abbrev pub dumps_of : Standing → List (List Write)
dumps_of standing = map held_by standing.servers

-- The servers of a script as it begins: each was started on an empty device, and no session is open.
pub record HasBegun (count limit : ℕ) (standing : Standing) : Type 0 where
  pub count_is : standing.count ≡ count
  pub limit_is : standing.limit ≡ limit
  pub one_each : length standing.servers ≡ count
  pub started : (place : ℕ) → place < count → (replica : ScriptServer) × StandsAt standing place replica × IsBegun count limit place replica
  pub one_seat_each : length standing.sessions ≡ SESSIONS
  pub none_open : (who : SessionId) → seat_of standing who ≡ new_seat who nothing_asked

-- What may keep a script from beginning: want of memory; or a server whose start was refused for something else.
abbrev pub FailsToBegin : ℕ → ℕ → BeginFault → Type 0
FailsToBegin count limit faults.OutOfMemory = Unit {0}
FailsToBegin count limit faults.Device = (place : ℕ) × (place < count) × IsNotBegun count limit place
