-- What the types of a line keep.
use Rattle.std.specs.Prelude.{◌<◌, ◌^◌, IfSome, ⊤}
use Rattle.bayou_base.specs.Vector.{AreCounts}
use Rattle.bayou_base.specs.declared.entry.What.{What}
use Rattle.bayou_base.specs.declared.entry.What.TheVariants as what
use Rattle.bayou_lang.specs.Ranges.{IsKey, IsProgram, IsWrite}
use Rattle.bayou_text.specs.declared.audit.AuditLine.{AuditLine}
use Rattle.bayou_text.specs.declared.audit.AuditLine.TheVariants as audit
use Rattle.bayou_text.specs.declared.command.Attempt.{Attempt}
use Rattle.bayou_text.specs.declared.command.Attempt.TheVariants as attempt
use Rattle.bayou_text.specs.declared.command.Command.{Command}
use Rattle.bayou_text.specs.declared.command.Command.TheVariants as command
use Rattle.bayou_text.specs.declared.command.Extent.{Extent}
use Rattle.bayou_text.specs.declared.command.Extent.TheVariants as extent
use Rattle.bayou_text.specs.declared.command.TrialKind.{TrialKind}
use Rattle.bayou_text.specs.declared.command.TrialKind.TheVariants as kind
use Rattle.bayou_text.specs.declared.line.Line.{Line}
use Rattle.bayou_text.specs.declared.line.Line.TheVariants as line

-- what an operation keeps by its type
abbrev pub IsAttempt : Attempt → Type 0
IsAttempt (attempt.Write place program) = IsProgram program
IsAttempt (attempt.Read place key) = IsKey key
IsAttempt attempt.Again = ⊤

-- what a trial keeps
abbrev pub IsTrialKind : TrialKind → Type 0
IsTrialKind (kind.Fuse failure) = (failure.calls < 2 ^ 32) × (failure.kept < 2 ^ 64)
IsTrialKind (kind.Lose count) = count < 2 ^ 64
IsTrialKind kind.Reopen = ⊤
IsTrialKind kind.Restart = ⊤

-- what an exchange keeps
abbrev pub IsExtent : Extent → Type 0
IsExtent (extent.Lacking cut) = IfSome cut (λ items. items < 2 ^ 32)
IsExtent extent.All = ⊤

-- and each command
abbrev pub IsCommand : Command → Type 0
IsCommand (command.Session who asks) = ⊤
IsCommand (command.Operation operation) = IsAttempt operation.attempt
IsCommand (command.Drop who) = ⊤
IsCommand (command.Trial trial) = IsTrialKind trial.kind
IsCommand (command.Exchange exchange) = IsExtent exchange.extent
IsCommand (command.Question question) = ⊤
IsCommand command.Phase = ⊤

-- what became of an operation
abbrev pub IsWhat : What → Type 0
IsWhat what.Refused = ⊤
IsWhat (what.Read key vector) = IsKey key × AreCounts vector
IsWhat (what.Write wid stamp deps) = AreCounts deps

-- and each line of an audit file
abbrev pub IsAudit : AuditLine → Type 0
IsAudit (audit.Entry told counts) = (told.place < 2 ^ 32) × IsWhat told.what
IsAudit (audit.Held place item counts) = IsWrite item

-- and each line
abbrev pub IsLine : Line → Type 0
IsLine (line.Servers count limit) = (count < 2 ^ 32) × IfSome limit (λ most. most < 2 ^ 32)
IsLine (line.Command command) = IsCommand command
IsLine (line.Audit told) = IsAudit told
