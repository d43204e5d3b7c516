-- What an operation that a server answered leaves of the machine.
use Rattle.std.specs.Prelude.{◌≡◌, ◌≢◌, ℕ, ◌+◌, false, List, Option, Some, Result, Ok, Err}
use Rattle.bayou_base.specs.declared.answer.Seen.{Seen}
use Rattle.bayou_base.specs.declared.entry.What.{What}
use Rattle.bayou_base.specs.declared.entry.What.TheVariants as whats
use Rattle.bayou_server.specs.declared.answer.Written.{Written}
use Rattle.bayou_server.specs.declared.answer.Written.TheVariants.{New, Known}
use Rattle.bayou_server.specs.declared.fault.Behind.{Behind}
use Rattle.bayou_server.specs.declared.fault.WriteFault.{WriteFault}
use Rattle.bayou_server.specs.Server.{Core}
use Rattle.bayou_world.specs.Machine.{Answered, Asking, Machine, SessionSets}
use Rattle.bayou_world.specs.Never.{core_at}
use Rattle.bayou_world.specs.Steps.{IsEntry}

-- what an answer to a read tells
abbrev pub told_of_read : List ℕ → Result Seen Behind → What
told_of_read key (Ok seen) = whats.Read key seen.vector
told_of_read key (Err behind) = whats.Refused

-- what an answer to a program tells
abbrev pub told_of_program : Result Written WriteFault → What
told_of_program (Ok (New accepted)) = whats.Write accepted.wid accepted.stamp accepted.deps
told_of_program (Ok (Known accepted)) = whats.Write accepted.wid accepted.stamp accepted.deps
told_of_program (Err fault) = whats.Refused

-- all but this session and this server is as it was
pub record IsOnlyAt (old : Machine) (who place : ℕ) (new : Machine) : Type 0 where
  pub count : new.count ≡ old.count
  pub limit : new.limit ≡ old.limit
  pub capacity : new.capacity ≡ old.capacity
  pub servers : (other : ℕ) → other ≢ place → new.servers other ≡ old.servers other
  pub sessions : (other : ℕ) → other ≢ who → new.sessions other ≡ old.sessions other
  pub offers : new.offers ≡ old.offers
  pub items : new.items ≡ old.items
  pub served : new.served ≡ old.served
  pub filed : new.filed ≡ old.filed

-- the answer is in flight to the session, at a place that it began, and the server is this
pub record IsAnsweredAt (old : Machine) (who place : ℕ) (session : SessionSets) (asked : Option Asking) (what : What) (core : Core) (new : Machine) : Type 0 where
  pub answered : Answered
  pub entry : IsEntry who place session what answered.entry
  pub flies : new.sessions who ≡ Some (record session { begun = session.begun + 1; asked = asked; flight = Some answered })
  pub only : IsOnlyAt old who place new
  pub runs : (new.servers place).stopped ≡ false
  pub core_is : core ≡ core_at new place

-- all but this server is as it was, and it runs
pub record IsOnlyServer (old : Machine) (place : ℕ) (core : Core) (new : Machine) : Type 0 where
  pub count : new.count ≡ old.count
  pub limit : new.limit ≡ old.limit
  pub capacity : new.capacity ≡ old.capacity
  pub servers : (other : ℕ) → other ≢ place → new.servers other ≡ old.servers other
  pub sessions : new.sessions ≡ old.sessions
  pub offers : new.offers ≡ old.offers
  pub items : new.items ≡ old.items
  pub served : new.served ≡ old.served
  pub filed : new.filed ≡ old.filed
  pub core_is : core ≡ core_at new place
