-- What a server answers that is asked under a tag, at a place that was begun. No public clause cites this.
use Rattle.std.specs.Prelude.{◌≡◌, ◌⊎◌, Bool, Result}
use Rattle.bayou_base.specs.declared.session.SessionId.{SessionId}
use Rattle.bayou_base.specs.declared.tag.Tag.{Tag}
use Rattle.bayou_device.specs.Memory.{Memory, LeadsTo, kept_bytes}
use Rattle.bayou_device.specs.MemoryDevice.{memory_device}
use Rattle.bayou_lang.specs.declared.program.Program.{Program}
use Rattle.bayou_server.specs.declared.answer.Stopped.{Stopped as StoppedServer}
use Rattle.bayou_server.specs.declared.answer.Written.{Written}
use Rattle.bayou_server.specs.declared.fault.WriteFault.{WriteFault}
use Rattle.bayou_journal.specs.Opening.{KeepsChains}
use Rattle.bayou_server.specs.Server.{IsSoundServer}
use Rattle.bayou_server.specs.Stored.{StoresWrite}
use Rattle.bayou_server.specs.Writes.{Writes}
use Rattle.bayou_session.specs.Needs.{write_need}
use Rattle.bayou_answers.specs.declared.answer.Answer.{Answer}
use Rattle.bayou_answers.specs.declared.answer.Answer.TheVariants.{Lost}
use Rattle.bayou_machine.specs.declared.script_server.ScriptServer.{ScriptServer}
use Rattle.bayou_machine.specs.declared.script_server.ScriptServer.TheVariants.{Running, Stopped}
use Rattle.bayou_machine.specs.ScriptServer.{Serving, reply_of, write_answer}
use Rattle.bayou_machine.specs.Seats.{Seat, told_of_write}

-- no reply comes of a server that is stopped
pub record IsSilent (who : SessionId) (before : ScriptServer) (seat : Seat) (answer : Answer) (after : ScriptServer) (now : Seat) : Type 0 where
  pub left : StoppedServer Memory
  pub was : before ≡ Stopped left
  pub answered : answer ≡ Lost who
  pub is : after ≡ before
  pub same : now ≡ seat

-- a server that runs answers, by what the session needs of it
pub record IsReplied (who : SessionId) (tag : Tag) (drops : Bool) (program : Program) (before : ScriptServer) (seat : Seat) (answer : Answer) (after : ScriptServer) (now : Seat) : Type 0 where
  pub old : Serving
  pub new : Serving
  pub result : Result Written WriteFault
  pub was : before ≡ Running old
  pub writes : Writes old.core tag (write_need seat.told) program result new.core
  pub stores : StoresWrite memory_device old result new
  pub sound : IsSoundServer old.core × IsSoundServer new.core
  pub others : new.taking ≡ old.taking
  pub safe : KeepsChains (kept_bytes old.device) (kept_bytes new.device)
  pub calls : LeadsTo 2 old.device new.device
  pub answered : answer ≡ reply_of drops who (write_answer who result)
  pub is : after ≡ Running new
  pub told_of : now ≡ told_of_write drops seat result

abbrev pub AnswersTag : SessionId → Tag → Bool → Program → ScriptServer → Seat → Answer → ScriptServer → Seat → Type 0
AnswersTag who tag drops program before seat answer after now =
    IsSilent who before seat answer after now ⊎ IsReplied who tag drops program before seat answer after now
