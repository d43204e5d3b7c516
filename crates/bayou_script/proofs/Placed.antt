-- Where the lines of a script stand.
use Rattle.std.proofs.Common.{◌≡◌, ℕ, ◌<◌, ◌≤◌, ◌&&◌, ◌∷◌, Bool, false, List, [], IsTrue, refl, sym, ap}
use Rattle.std.specs.List.{list_all}
use Rattle.std.proofs.lemmas.Bool.{and_from, and_parts, le-leb, lt-leb}
use Rattle.bayou_base.specs.declared.limits.TheConstants.{MAX_LINES}
use Rattle.bayou_text.specs.Said.{Said, attempt_said, audit_said, command_said, extent_said, question_said, trial_kind_said}
use Rattle.bayou_text.specs.declared.audit.AuditLine.{AuditLine}
use Rattle.bayou_text.specs.declared.audit.AuditLine.TheVariants as audit
use Rattle.bayou_text.specs.declared.command.Attempt.{Attempt}
use Rattle.bayou_text.specs.declared.command.Attempt.TheVariants as attempt
use Rattle.bayou_text.specs.declared.command.Command.{Command}
use Rattle.bayou_text.specs.declared.command.Command.TheVariants as command
use Rattle.bayou_text.specs.declared.command.Extent.{Extent}
use Rattle.bayou_text.specs.declared.command.Extent.TheVariants as extent
use Rattle.bayou_text.specs.declared.command.Question.{Question}
use Rattle.bayou_text.specs.declared.command.Question.TheVariants as question
use Rattle.bayou_text.specs.declared.command.TrialKind.{TrialKind}
use Rattle.bayou_text.specs.declared.command.TrialKind.TheVariants as kind
use Rattle.bayou_script.specs.Script.{has_place, is_behind, script_order, use_of}

-- what is no line of an audit file, and starts no servers, stands where what it uses may stand
abbrev IsBehind : Said → Type 0
IsBehind told = (front : List Said) → has_place front told ≡ is_behind front (use_of told)

operation_behind : (who : ℕ) (tried : Attempt) → IsBehind (attempt_said who tried)
operation_behind who (attempt.Write place program) front = refl
operation_behind who (attempt.Read place key) front = refl
operation_behind who attempt.Again front = refl

trial_behind : (place : ℕ) (how : TrialKind) → IsBehind (trial_kind_said place how)
trial_behind place (kind.Fuse failure) front = refl
trial_behind place (kind.Lose count) front = refl
trial_behind place kind.Reopen front = refl
trial_behind place kind.Restart front = refl

exchange_behind : (to source : ℕ) (much : Extent) → IsBehind (extent_said to source much)
exchange_behind to source (extent.Lacking cut) front = refl
exchange_behind to source extent.All front = refl

question_behind : (what : Question) → IsBehind (question_said what)
question_behind (question.Log place) front = refl
question_behind question.Totals front = refl
question_behind question.Judge front = refl
question_behind question.Survey front = refl
question_behind question.Book front = refl

pub command_behind : (asked : Command) → IsBehind (command_said asked)
command_behind (command.Session who asks) front = refl
command_behind (command.Operation operation) front = operation_behind _ operation.attempt front
command_behind (command.Drop who) front = refl
command_behind (command.Trial trial) front = trial_behind _ trial.kind front
command_behind (command.Exchange exchange) front = exchange_behind _ _ exchange.extent front
command_behind (command.Question what) front = question_behind what front
command_behind command.Phase front = refl

-- a line that is early enough has its place where it may stand there
pub in_time : (number : ℕ) (front : List Said) (told : Said) → number ≤ MAX_LINES → has_place front told ≡ script_order number front told
in_time number front told early = sym (ap (λ (b : Bool). b && has_place front told) (le-leb number MAX_LINES early))

-- and none has it behind that
pub too_late : (number : ℕ) (front : List Said) (told : Said) → MAX_LINES < number → script_order number front told ≡ false
too_late number front told late = ap (λ (b : Bool). b && has_place front told) (lt-leb number MAX_LINES late)

pub audit_nowhere : (front : List Said) (told : AuditLine) → has_place front (audit_said told) ≡ false
audit_nowhere front (audit.Entry entry counts) = refl
audit_nowhere front (audit.Held place item counts) = refl

-- what holds of each command holds where it is asked for less

pub all_weaker : {C : Type 0} (test other : C → Bool) (commands : List C) → ((asked : C) → IsTrue (test asked) → IsTrue (other asked))
    → IsTrue (list_all test commands) → IsTrue (list_all other commands)
all_weaker test other [] less all = refl
all_weaker test other (asked ∷ commands) less all =
    let both = and_parts (test asked) (list_all test commands) all in
    and_from _ _ (less asked both.0) (all_weaker test other commands less both.1)
