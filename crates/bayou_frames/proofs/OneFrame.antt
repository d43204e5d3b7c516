-- How a read of one frame ends.
use Rattle.std.proofs.Common.{arith, ◌≡◌, ◌++◌, List, [], ℕ, Err, length, take, length-take, refl, sym}
use Rattle.std.proofs.lemmas.List.{append-nil}
use Rattle.bayou_base.specs.declared.limits.TheConstants.{READ_BYTES}
use Rattle.bayou_frames.specs.declared.fault.ChannelFault.{ChannelFault}
use Rattle.bayou_frames.specs.declared.fault.ChannelFault.TheVariants as faults
use Rattle.bayou_frames.specs.First.{FrameRead, StopsInTime}
use Rattle.bayou_frames.specs.Framing.{IsReadFault}
use Rattle.bayou_wire.specs.Stream.{IsPartial}

-- a fault that isn't told by the end of the input is a fault wherever that is
pub fails_anywhere : (read : List ℕ) (is_end : Type 0) (fault : ChannelFault) → FrameRead read ⊥ (Err fault) → FrameRead read is_end (Err fault)
fails_anywhere read is_end faults.Read h = h
fails_anywhere read is_end faults.Write h = h
fails_anywhere read is_end faults.Cut h = absurd h.0
fails_anywhere read is_end faults.BadFrame h = h
fails_anywhere read is_end faults.TooManyTurns h = h
fails_anywhere read is_end faults.OutOfMemory h = h

-- what was read is held back where a read failed
pub fails_reading : (read : List ℕ) (is_end : Type 0) (fault : ChannelFault) → IsReadFault fault → IsPartial read → FrameRead read is_end (Err fault)
fails_reading read is_end faults.Read is partial = partial
fails_reading read is_end faults.Write is partial = is
fails_reading read is_end faults.Cut is partial = absurd is
fails_reading read is_end faults.BadFrame is partial = absurd is
fails_reading read is_end faults.TooManyTurns is partial = partial
fails_reading read is_end faults.OutOfMemory is partial = absurd is

-- ---- when it stops

pub stops_before : (read : List ℕ) → IsPartial read → StopsInTime read
stops_before read partial = (read, [], sym (append-nil read), partial, omega arith)

pub stops_in_time : (read : List ℕ) (count : ℕ) (piece : List ℕ) → IsPartial read → length piece ≡ READ_BYTES → StopsInTime (read ++ take count piece)
stops_in_time read count piece partial size = (read, take count piece, refl, partial, omega (arith, size, length-take count piece))
