-- What a piece of a stream of frames gives, and what may end a read of it: this project's own.
use Rattle.std.specs.Prelude.{◌≡◌, ℕ, Bool, true, false, List, ◌++◌, Option, Some}
use Rattle.std.specs.List.{AllByRecursion}
use Rattle.bayou_frames.specs.declared.fault.ChannelFault.{ChannelFault}
use Rattle.bayou_frames.specs.declared.fault.ChannelFault.TheVariants.{Read, Write, Cut, BadFrame, TooManyTurns, OutOfMemory}
use Rattle.bayou_wire.specs.declared.fault.DecodeFault.{DecodeFault}
use Rattle.bayou_wire.specs.declared.frame.Frame.{Frame}
use Rattle.bayou_wire.specs.Spelling.{IsFrame}
use Rattle.bayou_wire.specs.Stream.{IsFaulty, IsPartial, spellings}

-- what may end a read
abbrev pub IsReadFault : ChannelFault → Type 0
IsReadFault Read = Unit {0}
IsReadFault Write = ⊥
IsReadFault Cut = ⊥
IsReadFault BadFrame = ⊥
IsReadFault TooManyTurns = Unit {0}
IsReadFault OutOfMemory = ⊥

-- The bytes held back and the piece are these frames, and then a rest. Where that is less than a frame, it is what is held back now;
-- else it has a fault.
pub record Comes (held piece : List ℕ) (frames : List Frame) (is_bad : Bool) (now : Option (List ℕ)) : Type 0 where
  pub rest : List ℕ
  pub whole : held ++ piece ≡ spellings frames ++ rest
  pub each : AllByRecursion IsFrame frames
  pub waits : is_bad ≡ false → IsPartial rest × (now ≡ Some rest)
  pub bad : is_bad ≡ true → (fault : DecodeFault) × IsFaulty rest fault
