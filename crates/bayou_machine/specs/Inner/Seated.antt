-- The sessions that a script keeps. No public clause cites this.
use Rattle.std.specs.Prelude.{◌≡◌, ◌<◌, ℕ, List, Some, IfSome, length}
use Rattle.std.specs.List.{slice_get}
use Rattle.bayou_base.specs.declared.limits.TheConstants.{SESSIONS}
use Rattle.bayou_base.specs.declared.session.SessionId.{SessionId}
use Rattle.bayou_machine.specs.Seats.{Seat, new_seat}
use Rattle.bayou_machine.specs.Standing.{nothing_asked}

-- one for each session that there may be, and what each may ask again it asked of a server that there is
pub record AreSeats (count : ℕ) (seats : List Seat) : Type 0 where
  pub one_each : length seats ≡ SESSIONS
  pub within : (at : ℕ) (seat : Seat) → slice_get seats at ≡ Some seat → IfSome seat.asked (λ asked. asked.server < count)

-- so many, none of which was opened
pub record AreUnopened (done : ℕ) (seats : List Seat) : Type 0 where
  pub one_each : length seats ≡ done
  pub new : (who : SessionId) → who.index < done → slice_get seats who.index ≡ Some (new_seat who nothing_asked)
