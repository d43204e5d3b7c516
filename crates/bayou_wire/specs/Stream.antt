-- Streams of frames: which bytes are whole frames, which are less than one, and which faults stand in a frame's place.
-- This project's own format.
use Rattle.std.specs.Prelude.{◌≡◌, ◌≢◌, ◌⊎◌, ℕ, ◌+◌, ◌*◌, ◌<◌, ◌≤◌, ◌^◌, List, [], ◌∷◌, ◌++◌, Option, None, Some, Result, Ok, Err, length}
use Rattle.std.specs.Global.{Vec}
use Rattle.std.specs.List.{flat_map, AllByRecursion}
use Rattle.std.specs.Int.{w16, to_be_bytes}
use Rattle.bayou_base.specs.declared.limits.TheConstants.{MAX_FRAME_BYTES}
use Rattle.bayou_wire.specs.declared.fault.DecodeFault.{DecodeFault}
use Rattle.bayou_wire.specs.declared.fault.DecodeFault.TheVariants.{TooLong, BadKind, BadBody, Trailing}
use Rattle.bayou_wire.specs.declared.frame.Frame.{Frame}
use Rattle.bayou_wire.specs.declared.stream.FeedFault.{FeedFault}
use Rattle.bayou_wire.specs.declared.stream.FeedFault.TheVariants as feeds
use Rattle.bayou_wire.specs.Spelling.{IsFrame, SpellsFrame, frame_bytes, kind_of, packed, payload_bytes}

-- ---- in a frame's place

-- a kind of the table: some frame has it
abbrev pub IsKind : ℕ → Type 0
IsKind kind = (frame : Frame) × (kind_of frame ≡ kind)

-- the payload begins with a whole payload of this kind, and this stands after it
abbrev pub PayloadBegins : ℕ → List ℕ → List ℕ → Type 0
PayloadBegins kind payload rest = (frame : Frame) × IsFrame frame × (kind_of frame ≡ kind) × (payload ≡ payload_bytes frame ++ rest)

-- what is wrong with a kind and a payload
abbrev pub IsPackedFault : ℕ → List ℕ → DecodeFault → Type 0
IsPackedFault kind payload BadKind = ¬ (IsKind kind)
IsPackedFault kind payload Trailing = (rest : List ℕ) × (rest ≢ []) × PayloadBegins kind payload rest
IsPackedFault kind payload BadBody = IsKind kind × ((rest : List ℕ) → ¬ (PayloadBegins kind payload rest))
IsPackedFault kind payload TooLong = ⊥

-- the bytes begin with this kind and payload after their length, which is within the limit
pub record Packs (bytes : List ℕ) (kind : ℕ) (payload more : List ℕ) : Type 0 where
  pub short : length payload < MAX_FRAME_BYTES
  pub begins : bytes ≡ packed kind payload ++ more

-- the bytes begin with this length
abbrev pub HasLength : List ℕ → ℕ → Type 0
HasLength bytes len = (len < 2 ^ 16) × ((more : List ℕ) × (bytes ≡ to_be_bytes w16 len ++ more))

-- in a frame's place stands a whole kind and payload with this fault
abbrev pub HasPackedFault : List ℕ → DecodeFault → Type 0
HasPackedFault bytes fault =
    (kind : ℕ) × (payload : List ℕ) × (more : List ℕ) × Packs bytes kind payload more × IsPackedFault kind payload fault

-- The fault that stands in a frame's place. A length of 0, and one above the limit, are seen by the length alone; the others once the frame is whole.
abbrev pub IsFaulty : List ℕ → DecodeFault → Type 0
IsFaulty bytes TooLong = (len : ℕ) × (MAX_FRAME_BYTES < len) × HasLength bytes len
IsFaulty bytes BadKind = HasPackedFault bytes BadKind
IsFaulty bytes BadBody = HasLength bytes 0 ⊎ HasPackedFault bytes BadBody
IsFaulty bytes Trailing = HasPackedFault bytes Trailing

-- less than a whole frame, and no fault so far: nothing, one byte, or a length that has no fault with fewer bytes than it counts
abbrev pub IsPartial : List ℕ → Type 0
IsPartial [] = Unit {0}
IsPartial (high ∷ []) = Unit {0}
IsPartial (high ∷ low ∷ more) = (256 * high + low ≤ MAX_FRAME_BYTES) × (length more < 256 * high + low)

-- the fault that stands in a frame's place, if any
abbrev pub IsFaultAt : List ℕ → Option DecodeFault → Type 0
IsFaultAt bytes (Some fault) = IsFaulty bytes fault
IsFaultAt bytes None = (fault : DecodeFault) → ¬ (IsFaulty bytes fault)

-- what decoding a frame answers
abbrev pub FrameAnswer : List ℕ → Result Frame DecodeFault → Type 0
FrameAnswer bytes (Ok frame) = SpellsFrame bytes frame
FrameAnswer bytes (Err TooLong) = IsFaulty bytes TooLong
FrameAnswer bytes (Err BadKind) = IsFaulty bytes BadKind
FrameAnswer bytes (Err BadBody) = IsPartial bytes ⊎ IsFaulty bytes BadBody
FrameAnswer bytes (Err Trailing) =
    IsFaulty bytes Trailing ⊎ ((frame : Frame) × (rest : List ℕ) × IsFrame frame × (rest ≢ []) × (bytes ≡ frame_bytes frame ++ rest))

-- ---- streams

-- A frame's one spelling, after a word of its own: what is said in it stays short, however much a frame says.
unfoldable pub spelling : Frame → List ℕ
spelling frame = frame_bytes frame

-- frames in their one spelling, one after another
abbrev pub spellings : List Frame → List ℕ
spellings frames = flat_map spelling frames

-- frames, and what stands after them
abbrev pub stream_of : List Frame → List ℕ → List ℕ
stream_of frames rest = flat_map frame_bytes frames ++ rest

-- a rest that is no whole frame: less than one, or one with a fault
abbrev pub IsRest : List ℕ → Type 0
IsRest rest = IsPartial rest ⊎ ((fault : DecodeFault) × IsFaulty rest fault)

-- the stream is these frames, and then this rest
pub record Splits (stream : List ℕ) (frames : List Frame) (left : List ℕ) : Type 0 where
  pub whole : stream ≡ stream_of frames left
  pub each : AllByRecursion IsFrame frames
  pub rest : IsRest left

-- ---- feeding

-- what may be held back of this rest: all of it where it is less than a frame; where it has a fault, a front of it with that fault
abbrev pub Holds : List ℕ → List ℕ → Type 0
Holds rest held = (IsPartial rest × (held ≡ rest)) ⊎ ((fault : DecodeFault) × IsFaulty held fault × ((behind : List ℕ) × (rest ≡ held ++ behind)))

-- the bytes are these frames and a rest, of which this is held back; with no frame there is no fault yet
pub record TakesIn (bytes : List ℕ) (frames : List Frame) (held : List ℕ) : Type 0 where
  pub left : List ℕ
  pub splits : Splits bytes frames left
  pub holds : Holds left held
  pub no_fault : frames ≡ [] → IsPartial left

-- the frames in an answer
abbrev pub listed : Result (Vec Frame) FeedFault → Result (List Frame) FeedFault
listed (Ok frames) = Ok frames.items
listed (Err fault) = Err fault

-- One call: what was held back, the piece, the answer, and what is held back then, which is nothing once a fault was reported.
-- Frames are given, or the fault is reported where it stands first. A call that lacks memory leaves what was held back, which
-- has no fault. Once a fault was reported there is no other answer.
abbrev pub Fed : Option (List ℕ) → List ℕ → Result (List Frame) FeedFault → Option (List ℕ) → Type 0
Fed (Some held) piece (Ok frames) (Some now) = TakesIn (held ++ piece) frames now
Fed (Some held) piece (Ok frames) None = ⊥
Fed (Some held) piece (Err (feeds.Fault fault)) None = IsFaulty (held ++ piece) fault
Fed (Some held) piece (Err (feeds.Fault fault)) (Some now) = ⊥
Fed (Some held) piece (Err feeds.OutOfMemory) new = (new ≡ Some held) × ((fault : DecodeFault) → ¬ (IsFaulty held fault))
Fed (Some held) piece (Err feeds.Failed) new = ⊥
Fed None piece (Err feeds.Failed) new = new ≡ None
Fed None piece (Err (feeds.Fault fault)) new = ⊥
Fed None piece (Err feeds.OutOfMemory) new = ⊥
Fed None piece (Ok frames) new = ⊥

-- one call after another
abbrev pub Feeds : Option (List ℕ) → List (List ℕ) → List (Result (List Frame) FeedFault) → Option (List ℕ) → Type 0
Feeds old [] [] new = new ≡ old
Feeds old (piece ∷ pieces) (answer ∷ answers) new = (middle : Option (List ℕ)) × Fed old piece answer middle × Feeds middle pieces answers new
Feeds old [] (answer ∷ answers) new = ⊥
Feeds old (piece ∷ pieces) [] new = ⊥

-- the frames given
abbrev pub frames_given : List (Result (List Frame) FeedFault) → List Frame
frames_given [] = []
frames_given (Ok frames ∷ answers) = frames ++ frames_given answers
frames_given (Err fault ∷ answers) = frames_given answers

-- the stream so far: the pieces, but for those that lacked memory and those after a fault was reported
abbrev pub bytes_fed : List (List ℕ) → List (Result (List Frame) FeedFault) → List ℕ
bytes_fed [] answers = []
bytes_fed (piece ∷ pieces) [] = []
bytes_fed (piece ∷ pieces) (Ok frames ∷ answers) = piece ++ bytes_fed pieces answers
bytes_fed (piece ∷ pieces) (Err (feeds.Fault fault) ∷ answers) = piece
bytes_fed (piece ∷ pieces) (Err feeds.Failed ∷ answers) = []
bytes_fed (piece ∷ pieces) (Err feeds.OutOfMemory ∷ answers) = bytes_fed pieces answers

-- what is held back, or that a fault was reported, as the rest of the stream has it
abbrev pub IsLeft : Option (List ℕ) → List ℕ → Type 0
IsLeft (Some held) rest = Holds rest held
IsLeft None rest = (fault : DecodeFault) × IsFaulty rest fault
