-- A tag is of one Write, over every run: a Write may be asked again under its tag, which is this project's own.
use Rattle.std.specs.Prelude.{◌≡◌, ◌≢◌, ℕ, ◌<◌, ◌≤◌, List, Some, All, AllPairs}
use Rattle.bayou_base.specs.declared.tag.Tag.{Tag}
use Rattle.bayou_session.specs.declared.session.TheConstants.{FIRST_RUN}
use Rattle.bayou_world.specs.Invariant.{Stands}
use Rattle.bayou_world.specs.Machine.{Answered, Asking, Machine, Made, ServerSets, SessionSets}
use Rattle.bayou_world.specs.Steps.{CoversWrite, IsTagOf}

-- the tag is of an asking: its session is there, in the run that the machine is of, and has begun that place
pub record IsAsked (machine : Machine) (tag : Tag) : Type 0 where
  pub session : SessionSets
  pub there : machine.sessions tag.session.index ≡ Some session
  pub run_is : tag.run ≡ FIRST_RUN
  pub begun : tag.number ≤ session.begun

-- the session may ask for this again
pub record MayAskAgain (machine : Machine) (who : ℕ) (asking : Asking) : Type 0 where
  pub session : SessionSets
  pub there : machine.sessions who ≡ Some session
  pub asked : session.asked ≡ Some asking

-- The Write was made for this: by the server that was asked, of that program, after all that the session needs. And no session learned
-- of it.
pub record IsMadeFor (served : List Answered) (session : SessionSets) (asking : Asking) (made : Made) : Type 0 where
  pub server : made.write.wid.origin.index ≡ asking.server
  pub program : made.write.program ≡ asking.program
  pub covered : CoversWrite session made.past
  pub untold : All (λ (answered : Answered). answered.made ≢ Some made) served

-- Each Write that is held, in doubt or in flight has the tag of an asking, and no two have one tag, whichever servers made them and wherever
-- they stand. What a session may ask again was asked at a place that it has begun, and a Write under that tag was made for it.
pub record AreTagged (machine : Machine) : Type 0 where
  pub asked : (made : Made) → Stands machine made → IsAsked machine made.tag
  pub one : (made other : Made) → Stands machine made → Stands machine other → made.tag ≡ other.tag → made ≡ other
  pub begun : (who : ℕ) (asking : Asking) → (may : MayAskAgain machine who asking) → (0 < asking.number) × (asking.number ≤ may.session.begun)
  pub again : (who : ℕ) (asking : Asking) → (may : MayAskAgain machine who asking) → (made : Made) → Stands machine made → IsTagOf who asking.number made.tag
      → IsMadeFor machine.served may.session asking made

-- of the Writes that the server holds each has a tag of its own, and so has the one in doubt there
pub record HasDistinctTags (server : ServerSets) : Type 0 where
  pub held : AllPairs (λ (a b : Made). a.tag ≢ b.tag) server.held
  pub doubt : (made : Made) → server.doubt ≡ Some made → All (λ (other : Made). other.tag ≢ made.tag) server.held
