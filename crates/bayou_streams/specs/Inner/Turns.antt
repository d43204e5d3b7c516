-- What a call's answer tells of a turn: this project's own.
use Rattle.std.specs.Prelude.{◌≡◌, ℕ, Result, Ok, Err}
use Rattle.bayou_streams.specs.declared.channel.StreamFault.{StreamFault}
use Rattle.bayou_streams.specs.declared.channel.StreamFault.TheVariants.{Failed, TooManyTurns}
use Rattle.bayou_streams.specs.declared.channel.Turn.{Turn}
use Rattle.bayou_streams.specs.declared.channel.Turn.TheVariants.{Moved, Interrupted}

-- where only such errors are interruptions, and each other one is a failure
abbrev pub IsTurnOf : {E : Type 0} → (E → Type 0) → Result ℕ E → Result Turn StreamFault → Type 0
IsTurnOf IsInterruption (Ok count) turn = turn ≡ Ok (Moved count)
IsTurnOf IsInterruption (Err error) (Ok (Moved count)) = ⊥
IsTurnOf IsInterruption (Err error) (Ok Interrupted) = IsInterruption error
IsTurnOf IsInterruption (Err error) (Err Failed) = IsInterruption error → ⊥
IsTurnOf IsInterruption (Err error) (Err TooManyTurns) = ⊥
