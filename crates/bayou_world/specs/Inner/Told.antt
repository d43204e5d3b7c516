-- What sessions learn in the end is what was done: callers don't see it.
use Rattle.std.specs.Prelude.{◌≡◌, ◌≢◌, ℕ, ◌<◌, ◌≤◌, List, [], Option, Some, All, AllPairs, Contains}
use Rattle.bayou_base.specs.declared.asks.Asks.{Asks}
use Rattle.bayou_base.specs.declared.entry.What.{What}
use Rattle.bayou_base.specs.declared.entry.What.TheVariants as whats
use Rattle.bayou_base.specs.declared.wid.Wid.{Wid}
use Rattle.bayou_lang.specs.declared.write.Write.{Write}
use Rattle.bayou_judge.specs.Evidence.{TellsOf}
use Rattle.bayou_judge.specs.History.{IsFrontOf}
use Rattle.bayou_world.specs.Machine.{Answered, Machine, Made, ServerSets, SessionSets, writes}

-- a Write that this tells of is the server's own, and its name, its stamp and what was held are as this says
abbrev pub IsToldBy : What → (server : ℕ) → Option Made → Type 0
IsToldBy (whats.Read key vector) server accepted = Unit {0}
IsToldBy (whats.Write wid stamp deps) server accepted = (made : Made) × (accepted ≡ Some made) × (wid ≡ made.write.wid) × (stamp ≡ made.write.stamp) × (deps ≡ made.write.deps)
    × (made.write.wid.origin.index ≡ server)
IsToldBy whats.Refused server accepted = Unit {0}

-- a server of so many told a session that asks for this
pub record IsToldTrue (count : ℕ) (asks : ℕ → Option Asks) (answered : Answered) : Type 0 where
  pub server : answered.entry.server.index < count
  pub asks_are : asks answered.entry.session.index ≡ Some answered.entry.asks
  pub what : IsToldBy answered.entry.what answered.entry.server.index answered.made

-- the two tell of no Write both
abbrev pub TellsOfOthers : Answered → Answered → Type 0
TellsOfOthers one other = (name : Wid) → TellsOf name one.entry.what → TellsOf name other.entry.what → ⊥

-- the other one was served later
pub record IsLater (one other : Answered) : Type 0 where
  pub place : one.entry.session.index ≡ other.entry.session.index → one.entry.place < other.entry.place
  pub others : TellsOfOthers one other

-- the answer is in flight to the session
abbrev pub Flies : (ℕ → Option SessionSets) → ℕ → Answered → Type 0
Flies sessions who answered = (session : SessionSets) × (sessions who ≡ Some session) × (session.flight ≡ Some answered)

-- the server had each front of what it holds, and beyond the servers that there are none holds anything
pub record IsRemembered (count place : ℕ) (server : ServerSets) : Type 0 where
  pub had : (database : List Write) → IsFrontOf (writes server.held) database → Contains server.had database
  pub beyond : count ≤ place → server.held ≡ []

pub record IsToldMachine (count : ℕ) (asks : ℕ → Option Asks) (machine : Machine) : Type 0 where
  pub count_is : machine.count ≡ count
  pub servers : (place : ℕ) → IsRemembered count place (machine.servers place)
  pub asks_are : (who : ℕ) (session : SessionSets) → machine.sessions who ≡ Some session → asks who ≡ Some session.asks
  pub served : All (IsToldTrue count asks) machine.served
  pub in_order : AllPairs IsLater machine.served
  pub flights : (who : ℕ) (answered : Answered) → Flies machine.sessions who answered → IsToldTrue count asks answered
  pub new : (who : ℕ) (answered : Answered) → Flies machine.sessions who answered → All (λ other. TellsOfOthers other answered) machine.served
  pub apart : (who other : ℕ) (one two : Answered) → who ≢ other → Flies machine.sessions who one → Flies machine.sessions other two → TellsOfOthers one two
