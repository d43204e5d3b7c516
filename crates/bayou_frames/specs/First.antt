-- What reading one frame from a stream gives: this project's own.
use Rattle.std.specs.Prelude.{◌≡◌, ◌≢◌, ◌⊎◌, ◌≤◌, ℕ, List, [], ◌++◌, Option, None, Some, Result, Ok, Err, length}
use Rattle.bayou_base.specs.declared.limits.TheConstants.{READ_BYTES}
use Rattle.bayou_frames.specs.declared.fault.ChannelFault.{ChannelFault}
use Rattle.bayou_frames.specs.declared.fault.ChannelFault.TheVariants.{Read, Write, Cut, BadFrame, TooManyTurns, OutOfMemory}
use Rattle.bayou_wire.specs.declared.fault.DecodeFault.{DecodeFault}
use Rattle.bayou_wire.specs.declared.frame.Frame.{Frame}
use Rattle.bayou_wire.specs.declared.frame.Frame.TheVariants.{Offer}
use Rattle.bayou_wire.specs.Spelling.{IsFrame}
use Rattle.bayou_wire.specs.Stream.{IsFaulty, IsPartial, spelling}

-- the bytes begin with the frame
abbrev pub BeginsWith : List ℕ → Frame → Type 0
BeginsWith read frame = IsFrame frame × ((behind : List ℕ) × (read ≡ spelling frame ++ behind))

-- No more was read than a piece with which a frame may be whole: all before it is less than a frame.
abbrev pub StopsInTime : List ℕ → Type 0
StopsInTime read = (before piece : List ℕ) × (read ≡ before ++ piece) × IsPartial before × (length piece ≤ READ_BYTES)

-- How a read of one frame ends that reads these bytes, and where this says whether the input has ended. What was read after the
-- frame is dropped.
abbrev pub FrameRead : (read : List ℕ) → (is_end : Type 0) → Result Frame ChannelFault → Type 0
FrameRead read is_end (Ok frame) = BeginsWith read frame
FrameRead read is_end (Err Cut) = is_end × IsPartial read
FrameRead read is_end (Err Read) = IsPartial read
FrameRead read is_end (Err TooManyTurns) = IsPartial read
FrameRead read is_end (Err BadFrame) = (fault : DecodeFault) × IsFaulty read fault
FrameRead read is_end (Err OutOfMemory) = Unit {0}
FrameRead read is_end (Err Write) = ⊥

-- after a piece: there is a whole frame, or a fault, or all that was read is held back, and is less than a frame
abbrev pub FirstOf : (read : List ℕ) → Option (List ℕ) → Result (Option Frame) ChannelFault → Type 0
FirstOf read now (Ok (Some frame)) = FrameRead read ⊥ (Ok frame)
FirstOf read now (Ok None) = IsPartial read × (now ≡ Some read)
FirstOf read now (Err fault) = FrameRead read ⊥ (Err fault)

-- what may end a read at what came
abbrev pub IsFeedFault : ChannelFault → Type 0
IsFeedFault Read = ⊥
IsFeedFault Write = ⊥
IsFeedFault Cut = ⊥
IsFeedFault BadFrame = Unit {0}
IsFeedFault TooManyTurns = ⊥
IsFeedFault OutOfMemory = Unit {0}

-- the bytes begin with a fault in a frame's place, or with a frame that is no Offer
abbrev pub IsNoOffer : List ℕ → Type 0
IsNoOffer read =
    ((fault : DecodeFault) × IsFaulty read fault)
    ⊎ ((frame : Frame) × BeginsWith read frame × ((counts : List ℕ) → frame ≢ Offer counts))

-- How a read of one Offer ends.
abbrev pub OfferRead : (read : List ℕ) → (is_end : Type 0) → Result (List ℕ) ChannelFault → Type 0
OfferRead read is_end (Ok counts) = BeginsWith read (Offer counts)
OfferRead read is_end (Err Cut) = is_end × IsPartial read
OfferRead read is_end (Err Read) = IsPartial read
OfferRead read is_end (Err TooManyTurns) = IsPartial read
OfferRead read is_end (Err BadFrame) = IsNoOffer read
OfferRead read is_end (Err OutOfMemory) = Unit {0}
OfferRead read is_end (Err Write) = ⊥

-- How a read of one Offer from known input ends: it read a front of it.
abbrev pub OfferOf : (input : List ℕ) → Result (List ℕ) ChannelFault → Type 0
OfferOf input result = (read left : List ℕ) × (input ≡ read ++ left) × OfferRead read (left ≡ []) result
