-- Commands of a kind are alike.
use Rattle.std.specs.Prelude.{ℕ, refl}
use Rattle.bayou_text.specs.declared.command.Attempt.{Attempt}
use Rattle.bayou_text.specs.declared.command.Attempt.TheVariants as attempt
use Rattle.bayou_text.specs.declared.command.Extent.{Extent}
use Rattle.bayou_text.specs.declared.command.Extent.TheVariants as extent
use Rattle.bayou_text.specs.declared.command.Question.{Question}
use Rattle.bayou_text.specs.declared.command.Question.TheVariants as question
use Rattle.bayou_text.specs.declared.command.TrialKind.{TrialKind}
use Rattle.bayou_text.specs.declared.command.TrialKind.TheVariants as kind
use Rattle.bayou_script.specs.Kinds.{IsExchange, IsOperation, IsQuestion, IsTrial}

pub operation_is : (who : ℕ) (tried : Attempt) → IsOperation who tried
operation_is who (attempt.Write place program) = record {
  uses = refl;
  no_audit = refl;
  goes_on = refl;
  no_opening = refl;
  own = λ number. refl;
  no_pull = refl;
  no_rest = refl;
  claims = refl;
  runs = refl;
}
operation_is who (attempt.Read place key) = record {
  uses = refl;
  no_audit = refl;
  goes_on = refl;
  no_opening = refl;
  own = λ number. refl;
  no_pull = refl;
  no_rest = refl;
  claims = refl;
  runs = refl;
}
operation_is who attempt.Again = record {
  uses = refl;
  no_audit = refl;
  goes_on = refl;
  no_opening = refl;
  own = λ number. refl;
  no_pull = refl;
  no_rest = refl;
  claims = refl;
  runs = refl;
}

pub trial_is : (place : ℕ) (how : TrialKind) → IsTrial place how
trial_is place (kind.Fuse failure) = record {
  uses = refl;
  no_audit = refl;
  goes_on = refl;
  no_opening = refl;
  not_own = λ number. refl;
  claims_none = refl;
  no_pull = refl;
  rests = refl;
}
trial_is place (kind.Lose count) = record {
  uses = refl;
  no_audit = refl;
  goes_on = refl;
  no_opening = refl;
  not_own = λ number. refl;
  claims_none = refl;
  no_pull = refl;
  rests = refl;
}
trial_is place kind.Reopen = record {
  uses = refl;
  no_audit = refl;
  goes_on = refl;
  no_opening = refl;
  not_own = λ number. refl;
  claims_none = refl;
  no_pull = refl;
  rests = refl;
}
trial_is place kind.Restart = record {
  uses = refl;
  no_audit = refl;
  goes_on = refl;
  no_opening = refl;
  not_own = λ number. refl;
  claims_none = refl;
  no_pull = refl;
  rests = refl;
}

pub exchange_is : (to source : ℕ) (much : Extent) → IsExchange to source much
exchange_is to source (extent.Lacking cut) = record {
  uses = refl;
  no_audit = refl;
  goes_on = refl;
  no_opening = refl;
  not_own = λ number. refl;
  claims_none = refl;
}
exchange_is to source extent.All = record {
  uses = refl;
  no_audit = refl;
  goes_on = refl;
  no_opening = refl;
  not_own = λ number. refl;
  claims_none = refl;
}

pub question_is : (what : Question) → IsQuestion what
question_is (question.Log place) = record {
  no_audit = refl;
  goes_on = refl;
  no_opening = refl;
  not_own = λ number. refl;
  claims_none = refl;
  no_pull = refl;
  rests = refl;
  runs = refl;
}
question_is question.Totals = record {
  no_audit = refl;
  goes_on = refl;
  no_opening = refl;
  not_own = λ number. refl;
  claims_none = refl;
  no_pull = refl;
  rests = refl;
  runs = refl;
}
question_is question.Judge = record {
  no_audit = refl;
  goes_on = refl;
  no_opening = refl;
  not_own = λ number. refl;
  claims_none = refl;
  no_pull = refl;
  rests = refl;
  runs = refl;
}
question_is question.Survey = record {
  no_audit = refl;
  goes_on = refl;
  no_opening = refl;
  not_own = λ number. refl;
  claims_none = refl;
  no_pull = refl;
  rests = refl;
  runs = refl;
}
question_is question.Book = record {
  no_audit = refl;
  goes_on = refl;
  no_opening = refl;
  not_own = λ number. refl;
  claims_none = refl;
  no_pull = refl;
  rests = refl;
  runs = refl;
}
