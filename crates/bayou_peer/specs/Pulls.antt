-- What a pull makes of the bytes that it reads (anti-entropy, Petersen et al. 1997).
use Rattle.std.specs.Prelude.{◌≡◌, ◌≢◌, ◌⊎◌, ℕ, ◌+◌, List, [], ◌++◌, Option, None, Some, Result, Ok, Err, IfSome, length}
use Rattle.std.specs.List.{AllByRecursion}
use Rattle.bayou_base.specs.declared.wid.Wid.{Wid}
use Rattle.bayou_lang.specs.declared.write.Write.{Write}
use Rattle.bayou_lang.specs.Ranges.{IsWrite}
use Rattle.bayou_frames.specs.declared.fault.ChannelFault.TheVariants as faults
use Rattle.bayou_peer.specs.declared.fault.PullFault.{PullFault}
use Rattle.bayou_peer.specs.declared.fault.PullFault.TheVariants.{Stream, Refused}
use Rattle.bayou_peer.specs.declared.pulling.PullStopped.{PullStopped}
use Rattle.bayou_peer.specs.declared.pulling.Pulled.{Pulled}
use Rattle.bayou_frames.specs.Spelled.{items_of}
use Rattle.bayou_peer.specs.Taking.{new_ones}
use Rattle.bayou_server.specs.TakesAll.{TakesEach, hads, news}
use Rattle.bayou_server.specs.declared.answer.Took.{Took}
use Rattle.bayou_server.specs.declared.fault.TakeFault.{TakeFault}
use Rattle.bayou_wire.specs.declared.fault.DecodeFault.{DecodeFault}
use Rattle.bayou_wire.specs.declared.frame.Frame.{Frame}
use Rattle.bayou_wire.specs.declared.frame.Frame.TheVariants.{Item, End, Read, Write as WriteFrame, Reopen, Dump, Offer, Seen, Accepted, Refused as RefusedFrame, Reopened}
use Rattle.bayou_wire.specs.Spelling.{IsFrame}
use Rattle.bayou_wire.specs.Stream.{IsFaulty, IsPartial, spelling, spellings}

-- how something holds its Writes, and how it takes one
pub record Ways (S : Type 0) : Type 1 where
  pub list : S → Option (List Write)
  pub takes : S → Write → Result Took TakeFault → S → Type 0

-- What was read so far begins with the Items of these Writes, each of which was taken, and then there is a rest. What is held are the
-- Writes held before, and after them the Items that were new, in their order.
pub record Received {S : Type 0} (ways : Ways S) (start now : S) (read rest : List ℕ) (taken had : ℕ) : Type 0 where
  pub writes : List Write
  pub tooks : List Took
  pub whole : read ≡ spellings (items_of writes) ++ rest
  pub each : AllByRecursion IsWrite writes
  pub took : TakesEach ways.takes start writes tooks now
  pub holds : IfSome (ways.list start) (λ held. ways.list now ≡ Some (held ++ new_ones writes tooks))
  pub new : taken ≡ news tooks
  pub held : had ≡ hads tooks
  pub number : taken + had ≡ length writes

-- a frame that has no place after so many Items: no Item, and no End of their number
abbrev pub HasNoPlace : ℕ → Frame → Type 0
HasNoPlace number (Item write) = ⊥
HasNoPlace number (End count) = count ≢ number
HasNoPlace number (Read need key) = Unit {0}
HasNoPlace number (WriteFrame tag need program) = Unit {0}
HasNoPlace number Reopen = Unit {0}
HasNoPlace number Dump = Unit {0}
HasNoPlace number (Offer vector) = Unit {0}
HasNoPlace number (Seen seen) = Unit {0}
HasNoPlace number (Accepted accepted) = Unit {0}
HasNoPlace number (RefusedFrame refusal) = Unit {0}
HasNoPlace number (Reopened adopted) = Unit {0}

-- the bytes begin with what may not follow so many Items: a fault in a frame's place, or a frame that has no place there
abbrev pub IsBad : ℕ → List ℕ → Type 0
IsBad number bytes =
    ((fault : DecodeFault) × IsFaulty bytes fault)
    ⊎ ((frame : Frame) × (behind : List ℕ) × IsFrame frame × (bytes ≡ spelling frame ++ behind) × HasNoPlace number frame)

-- nothing came
abbrev pub nothing_pulled : Pulled
nothing_pulled = record { taken = 0; had = 0 }

-- each whole Item that was read was taken, and less than a frame is after them
abbrev pub Stands : {S : Type 0} → Ways S → S → S → List ℕ → Pulled → Type 0
Stands ways start now read before = (rest : List ℕ) × IsPartial rest × Received ways start now read rest before.taken before.had

-- How a pull ends early that reads these bytes, after so many Writes that came, with a Write of this name refused, or none; and where this says whether
-- the input has ended.
abbrev pub PullStops : {S : Type 0} → Ways S → (start now : S) → (read : List ℕ) → (is_end : Type 0) → (before : Pulled) → (refused : Option Wid) → PullFault → Type 0
PullStops {S} ways start now read is_end before refused (Refused fault) =
    (mid : S) × (write : Write) × (behind : List ℕ) × IsWrite write
    × Received ways start mid read (spelling (Item write) ++ behind) before.taken before.had
    × ways.takes mid write (Err fault) now × IfSome (ways.list mid) (λ held. ways.list now ≡ Some held) × (refused ≡ Some write.wid)
PullStops ways start now read is_end before refused (Stream faults.Cut) = is_end × Stands ways start now read before × (refused ≡ None)
PullStops ways start now read is_end before refused (Stream faults.Read) = Stands ways start now read before × (refused ≡ None)
PullStops ways start now read is_end before refused (Stream faults.TooManyTurns) = Stands ways start now read before × (refused ≡ None)
PullStops ways start now read is_end before refused (Stream faults.BadFrame) =
    (rest : List ℕ) × IsBad (before.taken + before.had) rest × Received ways start now read rest before.taken before.had × (refused ≡ None)
PullStops ways start now read is_end before refused (Stream faults.OutOfMemory) =
    (rest : List ℕ) × Received ways start now read rest before.taken before.had × (refused ≡ None)
-- the Offer wasn't sent
PullStops ways start now read is_end before refused (Stream faults.Write) = (read ≡ []) × (now ≡ start) × (before ≡ nothing_pulled) × (refused ≡ None)

-- How a pull ends that reads these bytes.
abbrev pub PullEnds : {S : Type 0} → Ways S → (start now : S) → (read : List ℕ) → (is_end : Type 0) → Result Pulled PullStopped → Type 0
-- what was read after the End is dropped
PullEnds ways start now read is_end (Ok pulled) =
    (behind : List ℕ) × Received ways start now read (spelling (End (pulled.taken + pulled.had)) ++ behind) pulled.taken pulled.had
PullEnds ways start now read is_end (Err stopped) = PullStops ways start now read is_end stopped.before stopped.refused stopped.fault

-- how a pull of known input ends: it read a front of it
abbrev pub EndsOf : {S : Type 0} → Ways S → (start now : S) → (input : List ℕ) → Result Pulled PullStopped → Type 0
EndsOf ways start now input result = (read left : List ℕ) × (input ≡ read ++ left) × PullEnds ways start now read (left ≡ []) result

-- what may end a pull whose input is bytes in memory: no stream fails, and no turn is missed
abbrev pub EndsInMemory : PullFault → Type 0
EndsInMemory (Stream faults.Read) = ⊥
EndsInMemory (Stream faults.Write) = ⊥
EndsInMemory (Stream faults.Cut) = Unit {0}
EndsInMemory (Stream faults.BadFrame) = Unit {0}
EndsInMemory (Stream faults.TooManyTurns) = ⊥
EndsInMemory (Stream faults.OutOfMemory) = Unit {0}
EndsInMemory (Refused refusal) = Unit {0}
