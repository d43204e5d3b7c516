-- What a read of one greeting comes to: this project's own.
use Rattle.std.specs.Prelude.{◌≡◌, ℕ, List, [], Option, None, Some}
use Rattle.bayou_frames.specs.declared.fault.ChannelFault.{ChannelFault}
use Rattle.bayou_frames.specs.declared.fault.ChannelFault.TheVariants.{Read, Write, Cut, BadFrame, TooManyTurns, OutOfMemory}
use Rattle.bayou_wire.specs.declared.greeting.Greeting.{Greeting}
use Rattle.bayou_wire.specs.Greetings.{SpellsGreeting}

-- all that was read is this; it is nothing only where the input had ended
pub record IsTextRead (read : List ℕ) (is_end : Type 0) (text : List ℕ) : Type 0 where
  pub whole : text ≡ read
  pub none : text ≡ [] → is_end

-- what may end a read of a frame's bytes
abbrev pub IsTextFault : ChannelFault → Type 0
IsTextFault Read = Unit {0}
IsTextFault Write = ⊥
IsTextFault Cut = Unit {0}
IsTextFault BadFrame = ⊥
IsTextFault TooManyTurns = Unit {0}
IsTextFault OutOfMemory = ⊥

-- what was read is this greeting; or nothing was, since the input had ended
abbrev pub IsGreetingRead : (read : List ℕ) → (is_end : Type 0) → Option Greeting → Type 0
IsGreetingRead read is_end None = (read ≡ []) × is_end
IsGreetingRead read is_end (Some greeting) = SpellsGreeting read greeting

-- what was read is this; or nothing was, since the input had ended
-- what may end such a read
abbrev pub IsReadingFault : ChannelFault → Type 0
IsReadingFault Read = Unit {0}
IsReadingFault Write = ⊥
IsReadingFault Cut = Unit {0}
IsReadingFault BadFrame = Unit {0}
IsReadingFault TooManyTurns = Unit {0}
IsReadingFault OutOfMemory = ⊥
