-- A desk that stays open, and lines that are done there one by one: this project's own.
use Rattle.std.specs.Prelude.{◌≡◌, ◌*◌, ℕ, true, List, Option, None, Some, Ok, is_some}
use Rattle.std.specs.Str.{IsTrimAscii}
use Rattle.bayou_connect.specs.Speaking.{DoesLine}
use Rattle.bayou_connect.specs.Taking.{ended_as}
use Rattle.bayou_connect.specs.declared.connecting.LinesEnded.{LinesEnded}
use Rattle.bayou_connect.specs.declared.desk.PersonDesk.{PersonDesk}
use Rattle.bayou_connect.specs.declared.doing.LineBecame.{LineBecame}
use Rattle.bayou_connect.specs.declared.doing.LineBecame.TheVariants as became
use Rattle.bayou_connect.specs.declared.doing.Wrong.{Wrong}
use Rattle.bayou_connect.specs.declared.plan.SessionPlan.{SessionPlan}
use Rattle.bayou_connect.specs.declared.round.TheConstants.{ROUNDS_PER_SECOND}
use Rattle.bayou_streams.specs.Account.{Account}

-- a desk for a plan, at which nothing was done yet
pub record IsDeskOf (plan : SessionPlan) (desk : PersonDesk) : Type 0 where
  pub servers : desk.servers ≡ plan.servers
  pub json : desk.is_json ≡ plan.is_json
  pub rounds : desk.rounds ≡ plan.wait_seconds * ROUNDS_PER_SECOND
  pub served : desk.is_served ≡ true

-- what is wrong with a line, if it couldn't be done
abbrev pub wrong_of : LineBecame → Option Wrong
wrong_of became.Done = None
wrong_of (became.Wrong wrong) = Some wrong
wrong_of became.Quit = None
wrong_of became.Ended = None

-- what becomes of a line, whatever was served before it
abbrev pub DoesAlone : (line : List ℕ) → (old new : PersonDesk) → (before after : Account) → LineBecame → Type 0
DoesAlone line old new before after done = (words : List ℕ) × IsTrimAscii line words × DoesLine line words (Ok done) (record old { is_served = true }) new before after

-- and how it ends: as lines do where it is the only one
abbrev pub EndsAlone : (line : List ℕ) → (old : PersonDesk) → (before after : Account) → LinesEnded → Type 0
EndsAlone line old before after ended = (done : LineBecame) × (new : PersonDesk) × DoesAlone line old new before after done × (ended ≡ ended_as (is_some (wrong_of done)) new.is_served)
