-- What a line says.
use Rattle.std.specs.Prelude.{ℕ, List, Option}
use Rattle.bayou_base.specs.declared.asks.Asks.{Asks}
use Rattle.bayou_base.specs.declared.entry.Entry.{Entry}
use Rattle.bayou_lang.specs.declared.program.Program.{Program}
use Rattle.bayou_lang.specs.declared.write.Write.{Write}
use Rattle.bayou_text.specs.declared.audit.AuditLine.{AuditLine}
use Rattle.bayou_text.specs.declared.audit.AuditLine.TheVariants as audit
use Rattle.bayou_text.specs.declared.command.Attempt.{Attempt}
use Rattle.bayou_text.specs.declared.command.Attempt.TheVariants as attempt
use Rattle.bayou_text.specs.declared.command.Command.{Command}
use Rattle.bayou_text.specs.declared.command.Command.TheVariants as command
use Rattle.bayou_text.specs.declared.command.Exchange.{Exchange}
use Rattle.bayou_text.specs.declared.command.Extent.{Extent}
use Rattle.bayou_text.specs.declared.command.Extent.TheVariants as extent
use Rattle.bayou_text.specs.declared.command.Operation.{Operation}
use Rattle.bayou_text.specs.declared.command.Question.{Question}
use Rattle.bayou_text.specs.declared.command.Question.TheVariants as question
use Rattle.bayou_text.specs.declared.command.Trial.{Trial}
use Rattle.bayou_text.specs.declared.command.TrialKind.{TrialKind}
use Rattle.bayou_text.specs.declared.command.TrialKind.TheVariants as kind
use Rattle.bayou_text.specs.declared.line.Line.{Line}
use Rattle.bayou_text.specs.declared.line.Line.TheVariants as line

-- a line: sessions and servers by their numbers, and how many counts a vector has
pub data Said : Type 0 where
  servers : ℕ → Option ℕ → Said
  session : ℕ → Asks → Said
  write : ℕ → ℕ → Program → Said
  read : ℕ → ℕ → List ℕ → Said
  again : ℕ → Said
  drop : ℕ → Said
  log : ℕ → Said
  fuse : ℕ → ℕ → ℕ → Said
  lose : ℕ → ℕ → Said
  reopen : ℕ → Said
  restart : ℕ → Said
  pull : ℕ → ℕ → Option ℕ → Said
  resend : ℕ → ℕ → Said
  totals : Said
  judge : Said
  survey : Said
  book : Said
  phase : Said
  entry : Entry → Option ℕ → Said
  held : ℕ → Write → ℕ → Said

-- what this session tries
abbrev pub attempt_said : ℕ → Attempt → Said
attempt_said who (attempt.Write place program) = write who place.index program
attempt_said who (attempt.Read place key) = read who place.index key
attempt_said who attempt.Again = again who

abbrev pub operation_said : Operation → Said
operation_said operation = attempt_said operation.session.index operation.attempt

-- what this server is put through
abbrev pub trial_kind_said : ℕ → TrialKind → Said
trial_kind_said place (kind.Fuse failure) = fuse place failure.calls failure.kept
trial_kind_said place (kind.Lose count) = lose place count
trial_kind_said place kind.Reopen = reopen place
trial_kind_said place kind.Restart = restart place

abbrev pub trial_said : Trial → Said
trial_said trial = trial_kind_said trial.server.index trial.kind

-- how much the first of these servers takes from the other
abbrev pub extent_said : ℕ → ℕ → Extent → Said
extent_said to source (extent.Lacking cut) = pull to source cut
extent_said to source extent.All = resend to source

abbrev pub exchange_said : Exchange → Said
exchange_said exchange = extent_said exchange.to.index exchange.from.index exchange.extent

-- what is asked
abbrev pub question_said : Question → Said
question_said (question.Log place) = log place.index
question_said question.Totals = totals
question_said question.Judge = judge
question_said question.Survey = survey
question_said question.Book = book

-- what a command says, by its kind
abbrev pub command_said : Command → Said
command_said (command.Session who asks) = session who.index asks
command_said (command.Operation operation) = operation_said operation
command_said (command.Drop who) = drop who.index
command_said (command.Trial trial) = trial_said trial
command_said (command.Exchange exchange) = exchange_said exchange
command_said (command.Question question) = question_said question
command_said command.Phase = phase

-- what a line of an audit file says
abbrev pub audit_said : AuditLine → Said
audit_said (audit.Entry told counts) = entry told counts
audit_said (audit.Held place item counts) = held place.index item counts

abbrev pub said : Line → Said
said (line.Servers count limit) = servers count limit
said (line.Command command) = command_said command
said (line.Audit told) = audit_said told
