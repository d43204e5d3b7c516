-- What a server's answers look like on a stream: this project's own frames.
use Rattle.std.specs.Prelude.{Result, Ok, Err}
use Rattle.bayou_base.specs.declared.answer.Seen.{Seen}
use Rattle.bayou_server.specs.declared.answer.Reopened.{Reopened}
use Rattle.bayou_server.specs.declared.answer.Written.{Written}
use Rattle.bayou_server.specs.declared.answer.Written.TheVariants as written
use Rattle.bayou_server.specs.declared.fault.Behind.{Behind}
use Rattle.bayou_server.specs.declared.fault.ReopenFault.{ReopenFault}
use Rattle.bayou_server.specs.declared.fault.WriteFault.{WriteFault}
use Rattle.bayou_server.specs.Faults.{reopen_refusal, write_refusal}
use Rattle.bayou_wire.specs.declared.frame.Frame.{Frame}
use Rattle.bayou_wire.specs.declared.frame.Frame.TheVariants as frames
use Rattle.bayou_base.specs.declared.refusal.Refusal.TheVariants as refusals

abbrev pub read_reply : Result Seen Behind → Frame
read_reply (Ok seen) = frames.Seen seen
read_reply (Err behind) = frames.Refused (refusals.Behind behind.vector)

-- a Write that was made before gets its first answer again
abbrev pub write_reply : Result Written WriteFault → Frame
write_reply (Ok (written.New accepted)) = frames.Accepted accepted
write_reply (Ok (written.Known accepted)) = frames.Accepted accepted
write_reply (Err fault) = frames.Refused (write_refusal fault)

abbrev pub reopen_reply : Result Reopened ReopenFault → Frame
reopen_reply (Ok reopened) = frames.Reopened reopened.adopted
reopen_reply (Err fault) = frames.Refused (reopen_refusal fault)
