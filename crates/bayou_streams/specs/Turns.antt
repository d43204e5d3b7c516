-- The turns of a stream: this project's own.
use Rattle.std.specs.Prelude.{◌≡◌, ℕ, Bool, true, Result, Ok, Err}
use Rattle.bayou_streams.specs.declared.channel.StreamFault.{StreamFault}
use Rattle.bayou_streams.specs.declared.channel.StreamFault.TheVariants.{Failed, TooManyTurns}
use Rattle.bayou_streams.specs.declared.channel.Turn.{Turn}
use Rattle.bayou_streams.specs.declared.channel.Turn.TheVariants.{Moved, Interrupted}

-- how many bytes a turn moved, where its call wasn't interrupted and didn't fail
abbrev pub count_of : Result Turn StreamFault → Result ℕ (Unit {0})
count_of (Ok (Moved count)) = Ok count
count_of (Ok Interrupted) = Err tt
count_of (Err fault) = Err tt

-- how many turns were spent: one, but for where none was left
abbrev pub turns_of : Result Turn StreamFault → ℕ
turns_of (Ok turn) = 1
turns_of (Err Failed) = 1
turns_of (Err TooManyTurns) = 0

-- whether a call failed, where this one did or one before it
abbrev pub failed_behind : Bool → Result Turn StreamFault → Bool
failed_behind has_failed (Ok turn) = has_failed
failed_behind has_failed (Err Failed) = true
failed_behind has_failed (Err TooManyTurns) = has_failed

-- a fault is reported only where a call failed, or no turn is left
abbrev pub StopsStream : Bool → ℕ → StreamFault → Type 0
StopsStream has_failed turns_left Failed = has_failed ≡ true
StopsStream has_failed turns_left TooManyTurns = turns_left ≡ 0
