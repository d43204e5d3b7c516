-- When a call may end for its streams: this project's own.
use Rattle.std.specs.Prelude.{◌≡◌, ℕ, Bool, true}
use Rattle.bayou_frames.specs.declared.fault.ChannelFault.{ChannelFault}
use Rattle.bayou_frames.specs.declared.fault.ChannelFault.TheVariants.{Read, Write, Cut, BadFrame, TooManyTurns, OutOfMemory}

-- a stream is at fault only where a call of it failed, and turns only where none is left
abbrev pub Stops : Bool → Bool → ℕ → ChannelFault → Type 0
Stops read_failed write_failed turns_left Read = read_failed ≡ true
Stops read_failed write_failed turns_left Write = write_failed ≡ true
Stops read_failed write_failed turns_left Cut = Unit {0}
Stops read_failed write_failed turns_left BadFrame = Unit {0}
Stops read_failed write_failed turns_left TooManyTurns = turns_left ≡ 0
Stops read_failed write_failed turns_left OutOfMemory = Unit {0}

-- what may end a call that only sends
abbrev pub IsSendFault : ChannelFault → Type 0
IsSendFault Read = ⊥
IsSendFault Write = Unit {0}
IsSendFault Cut = ⊥
IsSendFault BadFrame = ⊥
IsSendFault TooManyTurns = Unit {0}
IsSendFault OutOfMemory = Unit {0}
