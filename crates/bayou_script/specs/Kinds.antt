-- What a command is by its kind, whichever of the kind it is.
use Rattle.std.specs.Prelude.{◌≡◌, ◌==◌, ℕ, false, true, None, Some}
use Rattle.bayou_text.specs.Said.{attempt_said, extent_said, question_said, trial_kind_said}
use Rattle.bayou_text.specs.declared.command.Attempt.{Attempt}
use Rattle.bayou_text.specs.declared.command.Attempt.TheVariants as attempt
use Rattle.bayou_text.specs.declared.command.Extent.{Extent}
use Rattle.bayou_text.specs.declared.command.Question.{Question}
use Rattle.bayou_text.specs.declared.command.TrialKind.{TrialKind}
use Rattle.bayou_script.specs.Network.{runs_over_network}
use Rattle.bayou_script.specs.Phases.{ends_phase, is_operation_of, is_opening, is_pull, is_rest}
use Rattle.bayou_script.specs.Capacity.{operation_of}
use Rattle.bayou_script.specs.Script.{Use, at_server, is_audit, of_servers, of_session, of_session_at, use_of}

-- what an attempt of this session uses: the session, and the server that it names
abbrev pub used_by : ℕ → Attempt → Use
used_by who (attempt.Write place program) = of_session_at who place.index
used_by who (attempt.Read place key) = of_session_at who place.index
used_by who attempt.Again = of_session who

-- what an operation of this session is
pub record IsOperation (who : ℕ) (tried : Attempt) : Type 0 where
  pub uses : use_of (attempt_said who tried) ≡ used_by who tried
  pub no_audit : is_audit (attempt_said who tried) ≡ false
  pub goes_on : ends_phase (attempt_said who tried) ≡ false
  pub no_opening : is_opening (attempt_said who tried) ≡ false
  pub own : (number : ℕ) → is_operation_of number (attempt_said who tried) ≡ (who == number)
  pub no_pull : is_pull (attempt_said who tried) ≡ false
  pub no_rest : is_rest (attempt_said who tried) ≡ false
  pub claims : operation_of (attempt_said who tried) ≡ Some who
  pub runs : runs_over_network (attempt_said who tried) ≡ true

-- what a trial of this server is
pub record IsTrial (place : ℕ) (how : TrialKind) : Type 0 where
  pub uses : use_of (trial_kind_said place how) ≡ at_server place
  pub no_audit : is_audit (trial_kind_said place how) ≡ false
  pub goes_on : ends_phase (trial_kind_said place how) ≡ false
  pub no_opening : is_opening (trial_kind_said place how) ≡ false
  pub not_own : (number : ℕ) → is_operation_of number (trial_kind_said place how) ≡ false
  pub claims_none : operation_of (trial_kind_said place how) ≡ None
  pub no_pull : is_pull (trial_kind_said place how) ≡ false
  pub rests : is_rest (trial_kind_said place how) ≡ true

-- what an exchange between these servers is
pub record IsExchange (to source : ℕ) (much : Extent) : Type 0 where
  pub uses : use_of (extent_said to source much) ≡ of_servers to source
  pub no_audit : is_audit (extent_said to source much) ≡ false
  pub goes_on : ends_phase (extent_said to source much) ≡ false
  pub no_opening : is_opening (extent_said to source much) ≡ false
  pub not_own : (number : ℕ) → is_operation_of number (extent_said to source much) ≡ false
  pub claims_none : operation_of (extent_said to source much) ≡ None

-- what a question is
pub record IsQuestion (what : Question) : Type 0 where
  pub no_audit : is_audit (question_said what) ≡ false
  pub goes_on : ends_phase (question_said what) ≡ false
  pub no_opening : is_opening (question_said what) ≡ false
  pub not_own : (number : ℕ) → is_operation_of number (question_said what) ≡ false
  pub claims_none : operation_of (question_said what) ≡ None
  pub no_pull : is_pull (question_said what) ≡ false
  pub rests : is_rest (question_said what) ≡ true
  pub runs : runs_over_network (question_said what) ≡ true
