-- What the steps of serving come to. No public clause cites it.
use Rattle.std.specs.Prelude.{◌≡◌, ℕ, List, Option, Some, Result, Ok, Err}
use Rattle.std.specs.Io.KnownBytes.{Appends}
use Rattle.bayou_net.specs.Serving.{HasServed, IsRequest, ServeEnds, Serves, Steps}
use Rattle.bayou_frames.specs.declared.fault.ChannelFault.{ChannelFault}
use Rattle.bayou_frames.specs.declared.fault.ChannelFault.TheVariants as faults
use Rattle.bayou_streams.specs.Written.{AppendsFront}
use Rattle.bayou_wire.specs.declared.frame.Frame.{Frame}
use Rattle.bayou_wire.specs.Stream.{IsPartial}

-- what may end serving at what came
abbrev pub IsServeFault : ChannelFault → Type 0
IsServeFault faults.Read = ⊥
IsServeFault faults.Write = Unit {0}
IsServeFault faults.Cut = ⊥
IsServeFault faults.BadFrame = Unit {0}
IsServeFault faults.TooManyTurns = Unit {0}
IsServeFault faults.OutOfMemory = Unit {0}

-- what becomes of one frame
abbrev pub DoesOne : {S : Type 0} → {T : Type 0} → Steps S → S → Frame → (before after : Option (List ℕ)) → Result T ChannelFault → S → Type 0
DoesOne steps old frame before after (Ok done) new = (reply : List ℕ) × Serves steps old frame reply new × Appends before after reply
DoesOne steps old frame before after (Err faults.BadFrame) new = (¬ (IsRequest frame)) × (after ≡ before) × (new ≡ old)
DoesOne steps old frame before after (Err faults.Write) new = (reply : List ℕ) × Serves steps old frame reply new × AppendsFront before after reply
DoesOne steps old frame before after (Err faults.TooManyTurns) new = (reply : List ℕ) × Serves steps old frame reply new × AppendsFront before after reply
DoesOne steps old frame before after (Err faults.OutOfMemory) new = (reply : List ℕ) × Serves steps old frame reply new × AppendsFront before after reply
DoesOne steps old frame before after (Err faults.Read) new = ⊥
DoesOne steps old frame before after (Err faults.Cut) new = ⊥

-- after frames: serving goes on with this rest, or it ends
abbrev pub Goes : {S : Type 0} → {T : Type 0} → Steps S → (start now : S) → (read rest : List ℕ) → ℕ → (before after : Option (List ℕ)) → Result T ChannelFault → Type 0
Goes steps start now read rest number before after (Ok done) = HasServed steps start now read rest number before after
Goes steps start now read rest number before after (Err fault) = ServeEnds steps start now read before after ⊥ (Err fault)

-- between two pieces: what is held back is less than a frame, and each whole request before it was served
pub record Waiting {S : Type 0} (steps : Steps S) (start now : S) (read : List ℕ) (frames : Option (List ℕ)) (number : ℕ) (before after : Option (List ℕ)) : Type 0 where
  pub held : List ℕ
  pub partial : IsPartial held
  pub waits : frames ≡ Some held
  pub served : HasServed steps start now read held number before after

-- after a piece
abbrev pub GoesOn : {S : Type 0} → {T : Type 0} → Steps S → (start now : S) → (read : List ℕ) → Option (List ℕ) → ℕ → (before after : Option (List ℕ)) → Result T ChannelFault → Type 0
GoesOn steps start now read frames number before after (Ok done) = Waiting steps start now read frames number before after
GoesOn steps start now read frames number before after (Err fault) = ServeEnds steps start now read before after ⊥ (Err fault)
