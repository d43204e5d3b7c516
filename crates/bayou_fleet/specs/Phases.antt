-- The commands of a phase, by what is done together.
use Rattle.std.specs.Global.{Vec}
use Rattle.std.specs.Prelude.{◌≡◌, ℕ, ◌<◌, List, ◌++◌, None, map, slice_index_or}
use Rattle.bayou_base.specs.declared.limits.TheConstants.{SESSIONS}
use Rattle.bayou_fleet.specs.declared.phase.Closing.{Closing}
use Rattle.bayou_fleet.specs.declared.phase.Closing.TheVariants as closing
use Rattle.bayou_fleet.specs.declared.phase.Opening.{Opening}
use Rattle.bayou_fleet.specs.declared.phase.Pull.{Pull}
use Rattle.bayou_script.specs.Phases.{operations_of, opens_of, pulls_of, rest_of}
use Rattle.bayou_text.specs.Said.{Said, operation_said, phase, pull, question_said, reopen, session}
use Rattle.bayou_text.specs.declared.command.Operation.{Operation}

-- what each of them says
abbrev pub opening_said : Opening → Said
opening_said opening = session opening.session.index opening.asks

abbrev pub pull_said : Pull → Said
pull_said taking = pull taking.to.index taking.from.index None

abbrev pub closing_said : Closing → Said
closing_said (closing.Reopen place) = reopen place.index
closing_said (closing.Question question) = question_said question
closing_said closing.Phase = phase

-- What these lists say, with what is still to come after each, is what the lines of a phase say of each kind, in order: what opens sessions,
-- the operations of each session, the pulls, and the rest.
pub record AreArranged (openings : List Opening) (operations : List (Vec Operation)) (pulls : List Pull) (closings : List Closing) (coming lines : List Said) : Type 0 where
  pub openings_are : map opening_said openings ++ opens_of coming ≡ opens_of lines
  pub operations_are : (number : ℕ) (none : Vec Operation) → number < SESSIONS
      → map operation_said (slice_index_or operations number none).items ++ operations_of number coming ≡ operations_of number lines
  pub pulls_are : map pull_said pulls ++ pulls_of coming ≡ pulls_of lines
  pub closings_are : map closing_said closings ++ rest_of coming ≡ rest_of lines
