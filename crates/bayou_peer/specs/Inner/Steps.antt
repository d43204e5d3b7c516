-- What the steps of a pull come to. No public clause cites it.
use Rattle.std.specs.Prelude.{◌≡◌, ◌≢◌, ℕ, Bool, true, false, List, ◌∷◌, ◌++◌, [], Option, None, Some, Result, Ok, Err}
use Rattle.bayou_lang.specs.declared.write.Write.{Write}
use Rattle.bayou_frames.specs.declared.fault.ChannelFault.TheVariants as faults
use Rattle.bayou_frames.specs.Framing.{Comes}
use Rattle.bayou_frames.specs.Spelled.{items_of}
use Rattle.bayou_peer.specs.declared.fault.PullFault.{PullFault}
use Rattle.bayou_peer.specs.declared.fault.PullFault.TheVariants.{Stream, Refused}
use Rattle.bayou_peer.specs.declared.pulling.Pulled.{Pulled}
use Rattle.bayou_peer.specs.declared.pulling.Stop.{Stop}
use Rattle.bayou_peer.specs.Pulls.{PullEnds, PullStops, Received, Ways}
use Rattle.bayou_wire.specs.declared.frame.Frame.{Frame}
use Rattle.bayou_wire.specs.declared.frame.Frame.TheVariants.{Item}
use Rattle.bayou_wire.specs.Stream.{IsPartial}

-- what stands after the Items: nothing, or first a frame that is no Item
abbrev pub FollowsItems : Option Frame → List Frame → Type 0
FollowsItems None rest = rest ≡ []
FollowsItems (Some next) rest = (behind : List Frame) × (rest ≡ next ∷ behind) × ((write : Write) → next ≢ Item write)

-- the Writes of the Items that stand in front of the frames, and the frame after them, if one came
pub record IsFrontOf (frames : List Frame) (writes : List Write) (next : Option Frame) : Type 0 where
  pub rest : List Frame
  pub split : frames ≡ items_of writes ++ rest
  pub follows : FollowsItems next rest

-- a frame that is no Item, if there is one
abbrev pub IsNoItem : Option Frame → Type 0
IsNoItem None = Unit {0}
IsNoItem (Some frame) = (write : Write) → frame ≢ Item write

-- What bytes after those held back gave: some frames, of which these are the Writes of the Items in front and the frame after them.
pub record Gathers (held bytes : List ℕ) (writes : List Write) (next : Option Frame) (is_bad : Bool) (now : Option (List ℕ)) : Type 0 where
  pub came : List Frame
  pub comes : Comes held bytes came is_bad now
  pub front : IsFrontOf came writes next

-- what may end a pull at what came
abbrev pub IsTakeFault : PullFault → Type 0
IsTakeFault (Stream faults.Read) = ⊥
IsTakeFault (Stream faults.Write) = ⊥
IsTakeFault (Stream faults.Cut) = ⊥
IsTakeFault (Stream faults.BadFrame) = Unit {0}
IsTakeFault (Stream faults.TooManyTurns) = ⊥
IsTakeFault (Stream faults.OutOfMemory) = Unit {0}
IsTakeFault (Refused refusal) = Unit {0}

-- After a step of a pull that has read these bytes: the pull goes on with this rest, or it came to its End, or it ends in a fault.
abbrev pub Goes : {S : Type 0} → Ways S → (start now : S) → (read rest : List ℕ) → Pulled → Result Bool Stop → Type 0
Goes ways start now read rest pulled (Ok false) = Received ways start now read rest pulled.taken pulled.had
Goes ways start now read rest pulled (Ok true) = PullEnds ways start now read ⊥ (Ok pulled)
Goes ways start now read rest pulled (Err stop) = PullStops ways start now read ⊥ pulled stop.refused stop.fault

-- between two pieces: what is held back is less than a frame, and each whole Item before it was taken
pub record Standing {S : Type 0} (ways : Ways S) (start now : S) (read : List ℕ) (frames : Option (List ℕ)) (pulled : Pulled) : Type 0 where
  pub held : List ℕ
  pub partial : IsPartial held
  pub waits : frames ≡ Some held
  pub received : Received ways start now read held pulled.taken pulled.had

-- after a piece
abbrev pub GoesOn : {S : Type 0} → Ways S → (start now : S) → (read : List ℕ) → Option (List ℕ) → Pulled → Result Bool Stop → Type 0
GoesOn ways start now read frames pulled (Ok false) = Standing ways start now read frames pulled
GoesOn ways start now read frames pulled (Ok true) = PullEnds ways start now read ⊥ (Ok pulled)
GoesOn ways start now read frames pulled (Err stop) = PullStops ways start now read ⊥ pulled stop.refused stop.fault
