-- Which kinds of commands are operations.
use Rattle.std.proofs.Common.{◌≡◌, ℕ, None, refl}
use Rattle.bayou_machine.specs.Standing.{Standing, tried_at}
use Rattle.bayou_text.specs.declared.command.TrialKind.{TrialKind}
use Rattle.bayou_text.specs.declared.command.TrialKind.TheVariants.{Fuse, Lose, Reopen, Restart}
use Rattle.bayou_text.specs.Said.{trial_kind_said}

pub trial_is_none : (standing : Standing) (place : ℕ) (kind : TrialKind) → tried_at standing (trial_kind_said place kind) ≡ None
trial_is_none standing place (Fuse failure) = refl
trial_is_none standing place (Lose bytes) = refl
trial_is_none standing place Reopen = refl
trial_is_none standing place Restart = refl
