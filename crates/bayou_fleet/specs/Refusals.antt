-- What is answered where a server, or the way to it, didn't serve an operation, and what a reopening is answered: this project's own.
use Rattle.std.specs.Prelude.{◌≡◌, Option, Result, Ok, Err}
use Rattle.bayou_base.specs.declared.refusal.Refusal.TheVariants as refusals
use Rattle.bayou_base.specs.declared.session.SessionId.{SessionId}
use Rattle.bayou_client.specs.declared.fault.ClientFault.{ClientFault}
use Rattle.bayou_client.specs.declared.fault.ClientFault.TheVariants.{AuditFull, Link}
use Rattle.bayou_client.specs.declared.fault.LinkFault.TheVariants as links
use Rattle.bayou_answers.specs.declared.answer.Answer.{Answer}
use Rattle.bayou_answers.specs.declared.answer.Answer.TheVariants.{Lost, Refused}
use Rattle.bayou_answers.specs.declared.answer.Recovery.{Recovery}
use Rattle.bayou_answers.specs.declared.answer.Recovery.TheVariants.{NotReopened, Reopened}
use Rattle.bayou_base.specs.declared.server.ServerId.{ServerId}
use Rattle.bayou_base.specs.declared.wid.Wid.{Wid}
use Rattle.bayou_client.specs.declared.fault.LinkFault.{LinkFault}
use Rattle.bayou_fleet.specs.declared.fault.FleetFault.{FleetFault}
use Rattle.bayou_fleet.specs.declared.fault.FleetFault.TheVariants as fleet

-- An operation that wasn't served: it was refused, or memory ran out at the session's end, or no reply of it came.
abbrev pub UnservedAs : SessionId → ClientFault → Answer → Type 0
UnservedAs who AuditFull answer = answer ≡ Lost who
UnservedAs who (Link links.Lost) answer = answer ≡ Lost who
UnservedAs who (Link links.BadFrame) answer = answer ≡ Lost who
UnservedAs who (Link (links.Refused refusal)) answer = answer ≡ Refused who refusal
UnservedAs who (Link links.OutOfMemory) answer = answer ≡ Refused who refusals.OutOfMemory

-- where a server sends no dump the run ends: for want of memory, or since the way to it failed
abbrev pub undumped : LinkFault → FleetFault
undumped links.OutOfMemory = fleet.Memory
undumped (links.Refused refusals.OutOfMemory) = fleet.Memory
undumped _ = fleet.Network

-- what a server's reopening comes to by its reply; without one the run ends
abbrev pub reopening_told : ServerId → Result (Option Wid) LinkFault → Result Recovery FleetFault
reopening_told server (Ok adopted) = Ok (Reopened server adopted)
reopening_told server (Err (links.Refused refusal)) = Ok (NotReopened refusal)
reopening_told server (Err links.OutOfMemory) = Err fleet.Memory
reopening_told server (Err links.Lost) = Err fleet.Network
reopening_told server (Err links.BadFrame) = Err fleet.Network
