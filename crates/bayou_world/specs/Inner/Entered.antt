-- The entries that are filed, and those that wait to be: callers don't see it.
use Rattle.std.specs.Prelude.{◌≡◌, ℕ, ◌+◌, ◌<◌, ◌⊎◌, List, Option, Some, All, AllPairs, Contains}
use Rattle.bayou_base.specs.declared.asks.Asks.{Asks}
use Rattle.bayou_base.specs.declared.entry.Entry.{Entry}
use Rattle.bayou_base.specs.declared.entry.What.TheVariants as whats
use Rattle.bayou_world.specs.Machine.{Answered, SessionSets}

-- it tells of an operation that was served
abbrev pub IsOfServed : List Answered → Entry → Type 0
IsOfServed served entry = (answered : Answered) × Contains served answered × (answered.entry ≡ entry)

-- a server of so many told it a session that asks for this, as a refusal, or as it served it
pub record IsEntered (count : ℕ) (asks : ℕ → Option Asks) (served : List Answered) (entry : Entry) : Type 0 where
  pub server : entry.server.index < count
  pub asks_are : asks entry.session.index ≡ Some entry.asks
  pub told : (entry.what ≡ whats.Refused) ⊎ IsOfServed served entry

-- the other one is of a later place, where both are of one session
abbrev pub Rises : Entry → Entry → Type 0
Rises one other = one.session.index ≡ other.session.index → one.place < other.place

-- it is of a place before this one, where it is of this session
abbrev pub IsBelow : (who bound : ℕ) → Entry → Type 0
IsBelow who bound entry = entry.session.index ≡ who → entry.place < bound

-- the session's entries that wait stand in its order, after those of it that are filed, and before the answer in flight
pub record IsQueued (count : ℕ) (asks : ℕ → Option Asks) (served : List Answered) (filed : List Entry) (who : ℕ) (session : SessionSets) : Type 0 where
  pub own : All (λ (entry : Entry). entry.session.index ≡ who) session.waiting
  pub entered : All (IsEntered count asks served) session.waiting
  pub in_order : AllPairs Rises session.waiting
  pub behind : All (λ (entry : Entry). All (λ (other : Entry). Rises other entry) filed) session.waiting
  pub filed_begun : All (IsBelow who (session.begun + 1)) filed
  pub waiting_begun : All (IsBelow who (session.begun + 1)) session.waiting
  pub filed_flies : (answered : Answered) → session.flight ≡ Some answered → All (IsBelow who session.begun) filed
  pub waiting_flies : (answered : Answered) → session.flight ≡ Some answered → All (IsBelow who session.begun) session.waiting

-- it waits at some session
abbrev pub Waits : (ℕ → Option SessionSets) → Entry → Type 0
Waits sessions entry = (who : ℕ) × (session : SessionSets) × (sessions who ≡ Some session) × Contains session.waiting entry

-- its entry is filed, or waits to be
abbrev pub IsFiledOrWaits : (filed : List Entry) → (ℕ → Option SessionSets) → Answered → Type 0
IsFiledOrWaits filed sessions answered = Contains filed answered.entry ⊎ Waits sessions answered.entry

pub record AreEntered (count : ℕ) (asks : ℕ → Option Asks) (sessions : ℕ → Option SessionSets) (served : List Answered) (filed : List Entry) : Type 0 where
  pub filed_are : All (IsEntered count asks served) filed
  pub in_order : AllPairs Rises filed
  pub queues : (who : ℕ) (session : SessionSets) → sessions who ≡ Some session → IsQueued count asks served filed who session
  pub none_lost : All (IsFiledOrWaits filed sessions) served
