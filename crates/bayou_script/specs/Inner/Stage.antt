-- What the front of a script started and opened, as it is kept while its lines are checked.
use Rattle.std.specs.Prelude.{◌≡◌, ℕ, ◌<◌, Bool, false, List, [], ◌∷◌, Option, None, Some, unwrap_or}
use Rattle.std.specs.List.{slice_index_or}
use Rattle.bayou_base.specs.declared.limits.TheConstants.{DEFAULT_LIMIT, SESSIONS}
use Rattle.bayou_text.specs.Said.{Said, servers}
use Rattle.bayou_script.specs.declared.script.Servers.{Servers}
use Rattle.bayou_script.specs.declared.stage.Stage.{Stage}
use Rattle.bayou_script.specs.Script.{is_open}

-- What was said is what started the servers, and then these lines; it is nothing where no servers were started.
abbrev pub Begins : Option Servers → List Said → List Said → Type 0
Begins None others front = (front ≡ []) × (others ≡ [])
Begins (Some started) others front =
    (most : Option ℕ) × (front ≡ servers started.count most ∷ others) × (started.limit ≡ unwrap_or most DEFAULT_LIMIT)

-- the flags say which sessions were opened
abbrev pub Flags : List Bool → List Said → Type 0
Flags opened front = (who : ℕ) → who < SESSIONS → slice_index_or opened who false ≡ is_open who front

-- the stage of what was said, which is these lines after the one that started the servers
pub record IsStageOf (stage : Stage) (others front : List Said) : Type 0 where
  pub begins : Begins stage.servers others front
  pub flags : Flags stage.opened front
