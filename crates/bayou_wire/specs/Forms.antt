-- The two forms in which Writes and frames are read: plain, which takes no memory, and at rest, which takes it at the size of what is said.
-- By their values they are the same.
use Rattle.std.specs.Prelude.{Result, Ok, Err}
use Rattle.bayou_wire.specs.declared.fault.DecodeFault.{DecodeFault}
use Rattle.bayou_wire.specs.declared.fault.RestingFault.{RestingFault}
use Rattle.bayou_wire.specs.declared.fault.RestingFault.TheVariants.{Fault, OutOfMemory}
use Rattle.bayou_wire.specs.declared.frame.Frame.{Frame}
use Rattle.bayou_wire.specs.declared.frame.Frame.TheVariants as frames
use Rattle.bayou_wire.specs.declared.frame.PlainFrame.{PlainFrame}
use Rattle.bayou_wire.specs.declared.frame.PlainFrame.TheVariants as plain

-- the frame that a plain frame is
abbrev pub frame_of : PlainFrame → Frame
frame_of (plain.Read need key) = frames.Read need key
frame_of (plain.Write tag need program) = frames.Write tag need program
frame_of plain.Reopen = frames.Reopen
frame_of plain.Dump = frames.Dump
frame_of (plain.Offer vector) = frames.Offer vector
frame_of (plain.Seen seen) = frames.Seen seen
frame_of (plain.Accepted accepted) = frames.Accepted accepted
frame_of (plain.Refused refusal) = frames.Refused refusal
frame_of (plain.Reopened adopted) = frames.Reopened adopted
frame_of (plain.Item write) = frames.Item write
frame_of (plain.End number) = frames.End number

-- the answer that a plain answer is
abbrev pub plainly : Result PlainFrame DecodeFault → Result Frame DecodeFault
plainly (Ok frame) = Ok (frame_of frame)
plainly (Err fault) = Err fault

-- the answer is so, where memory wasn't lacking
abbrev pub UnlessWanting : {T : Type 0} → (Result T DecodeFault → Type 0) → Result T RestingFault → Type 0
UnlessWanting is (Ok given) = is (Ok given)
UnlessWanting is (Err (Fault fault)) = is (Err fault)
UnlessWanting is (Err OutOfMemory) = Unit {0}
