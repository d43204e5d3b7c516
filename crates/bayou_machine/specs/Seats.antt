-- The sessions of a script, and what each of them asked last and may ask again.
use Rattle.std.specs.Prelude.{ℕ, Bool, true, false, Option, None, Some, Result, Ok, Err}
use Rattle.bayou_base.specs.declared.answer.Accepted.{Accepted}
use Rattle.bayou_base.specs.declared.answer.Seen.{Seen}
use Rattle.bayou_base.specs.declared.asks.Asks.{Asks}
use Rattle.bayou_base.specs.declared.session.SessionId.{SessionId}
use Rattle.bayou_lang.specs.declared.program.Program.{Program}
use Rattle.bayou_machine.specs.declared.seat.Asking.{Asking}
use Rattle.bayou_server.specs.declared.answer.Written.{Written}
use Rattle.bayou_server.specs.declared.answer.Written.TheVariants.{New, Known}
use Rattle.bayou_server.specs.declared.fault.Behind.{Behind}
use Rattle.bayou_server.specs.declared.fault.WriteFault.{WriteFault}
use Rattle.bayou_session.specs.declared.session.TheConstants.{FIRST_RUN}
use Rattle.bayou_session.specs.Needs.{Told, after_read, after_write, asks_again, asks_first, new_session, one_place_more}

-- a Write that was asked: of which program, and of which server
pub record Asked : Type 0 where
  pub server : ℕ
  pub program : Program

abbrev pub asked_of : Asking → Asked
asked_of asking = record { server = asking.server.index; program = asking.program }

-- A session: what it heard, the Write that it may ask again, if there is one, and whether the reply to the operation that it tries next
-- is dropped.
pub record Seat : Type 0 where
  pub told : Told
  pub asked : Option Asked
  pub drops : Bool

-- a session that has tried nothing yet
abbrev pub new_seat : SessionId → Asks → Seat
new_seat who asks = record { told = new_session who FIRST_RUN asks; asked = None; drops = false }

-- ---- it begins a place, for which a reply that was to be dropped is this one's

-- for a Write of the program at the server
abbrev pub asks_at : ℕ → Program → Seat → Seat
asks_at place program seat = record { told = asks_first seat.told; asked = Some (record { server = place; program = program }); drops = false }

-- for the Write that it asked last
abbrev pub asks_once_more : Seat → Seat
asks_once_more seat = record { told = asks_again seat.told; asked = seat.asked; drops = false }

-- for a read, after which it asks no Write again
abbrev pub begins_read : Seat → Seat
begins_read seat = record { told = one_place_more seat.told; asked = None; drops = false }

-- ---- what it hears at that place: nothing of a refusal, and nothing where the reply is dropped

-- what the Write was given, be it made now or known from before
abbrev pub given_of : Written → Accepted
given_of (New accepted) = accepted
given_of (Known accepted) = accepted

-- of its Write, which it asks no more after it heard that it was accepted
abbrev pub told_of_write : (drops : Bool) → Seat → Result Written WriteFault → Seat
told_of_write true seat reply = seat
told_of_write false seat (Ok written) = record seat { told = after_write seat.told (given_of written); asked = None }
told_of_write false seat (Err refusal) = seat

-- of its read
abbrev pub told_of_read : (drops : Bool) → Seat → Result Seen Behind → Seat
told_of_read true seat reply = seat
told_of_read false seat (Ok seen) = record seat { told = after_read seat.told seen }
told_of_read false seat (Err behind) = seat
