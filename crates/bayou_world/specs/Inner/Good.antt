-- What stays true of the machine: callers don't see it.
use Rattle.std.specs.Prelude.{◌≡◌, ◌≢◌, ℕ, ◌<◌, ◌≤◌, true, List, ◌∷◌, ◌++◌, None, Some, IfSome, All, Contains, length}
use Rattle.bayou_base.specs.declared.entry.What.{What}
use Rattle.bayou_base.specs.declared.entry.What.TheVariants as whats
use Rattle.bayou_lang.specs.declared.write.Write.{Write}
use Rattle.bayou_lang.specs.Writes.{Fits, IsSound, count_of}
use Rattle.bayou_judge.specs.History.{IsFrontOf}
use Rattle.bayou_world.specs.Machine.{Answered, IsWithin, Machine, Made, Offered, ServerSets, SessionSets, names, writes}
use Rattle.bayou_world.specs.Runs.{IsRead, IsReadAt}
use Rattle.bayou_world.specs.Steps.{CoversWrite}

-- the Write's own server holds it, with that past
abbrev pub IsHome : (ℕ → ServerSets) → Made → Type 0
IsHome servers made = Contains (servers made.write.wid.origin.index).held made

-- the past of a server's own Write is what it held before
abbrev pub HavePasts : ℕ → List Made → Type 0
HavePasts place held = (before : List Made) (made : Made) (after : List Made) → held ≡ before ++ made ∷ after
    → made.write.wid.origin.index ≡ place → made.past ≡ writes before

-- The Write may be in doubt: there is room for it, it fits what is held, the server's own has that as its past, and another's is at home.
pub record MayBeDoubted (count limit : ℕ) (servers : ℕ → ServerSets) (place : ℕ) (held : List Made) (made : Made) : Type 0 where
  pub room : length held < limit
  pub fits : Fits count (writes held) made.write
  pub deps : made.write.wid.origin.index ≡ place → made.write.deps ≡ count_of (writes held)
  pub past : made.write.wid.origin.index ≡ place → made.past ≡ writes held
  pub home : made.write.wid.origin.index ≢ place → IsHome servers made

pub record IsGoodServer (count limit : ℕ) (servers : ℕ → ServerSets) (place : ℕ) (server : ServerSets) : Type 0 where
  pub sound : IsSound place count (writes server.held)
  pub within : length server.held ≤ limit
  pub home : All (IsHome servers) server.held
  pub pasts : HavePasts place server.held
  pub had : All (IsFrontOf (writes server.held)) server.had
  pub doubt : (made : Made) → server.doubt ≡ Some made → MayBeDoubted count limit servers place server.held made

abbrev pub AreGoodServers : (count limit : ℕ) → (ℕ → ServerSets) → Type 0
AreGoodServers count limit servers = (place : ℕ) → IsGoodServer count limit servers place (servers place)

-- each offer is of what its server held
abbrev pub AreOffers : (ℕ → ServerSets) → List Offered → Type 0
AreOffers servers offers = All (λ (offer : Offered). IsFrontOf (writes (servers offer.server).held) offer.database) offers

-- ---- what sessions were answered

-- what an answer tells was so
abbrev pub WasSo : (ℕ → ServerSets) → What → ℕ → Answered → Type 0
WasSo servers (whats.Read key vector) place answered = (answered.made ≡ None) × IsFrontOf (writes (servers place).held) answered.database × (vector ≡ count_of answered.database)
WasSo servers (whats.Write wid stamp deps) place answered = (made : Made) × (answered.made ≡ Some made) × IsHome servers made × (made.write.wid ≡ wid)
WasSo servers whats.Refused place answered = answered.made ≡ None

abbrev pub IsTrueAnswer : (ℕ → ServerSets) → Answered → Type 0
IsTrueAnswer servers answered = WasSo servers answered.entry.what answered.entry.server.index answered

-- the session has been given what it asked for, in its own words
pub record IsCoveredRead (session : SessionSets) (database : List Write) : Type 0 where
  pub ryw : session.asks.ryw ≡ true → IsWithin session.writes (names database)
  pub mr : session.asks.mr ≡ true → IsWithin session.reads (names database)

abbrev pub IsCovered : SessionSets → What → Answered → Type 0
IsCovered session (whats.Read key vector) answered = IsCoveredRead session answered.database
IsCovered session (whats.Write wid stamp deps) answered = (made : Made) → answered.made ≡ Some made → CoversWrite session made.past
IsCovered session whats.Refused answered = Unit {0}

-- The answer in flight is of the session's last place, after all that was served, and was covered. A Write in it has a tag of the session,
-- which may ask none again where it reads.
pub record IsGoodFlight (served : List Answered) (who : ℕ) (session : SessionSets) (answered : Answered) : Type 0 where
  pub session_is : answered.entry.session.index ≡ who
  pub last : answered.entry.place ≡ session.begun
  pub behind : All (λ (other : Answered). other.entry.session.index ≡ who → other.entry.place < session.begun) served
  pub covered : IsCovered session answered.entry.what answered
  pub own : (made : Made) → answered.made ≡ Some made → made.tag.session.index ≡ who
  pub reading : IsRead answered.entry.what → session.asked ≡ None

-- a served operation accepted the Write, with this past
pub record IsMadeAt (served : List Answered) (session place : ℕ) (made : Made) : Type 0 where
  pub answered : Answered
  pub among : Contains served answered
  pub session_is : answered.entry.session.index ≡ session
  pub place_is : answered.entry.place ≡ place
  pub accepted : answered.made ≡ Some made

-- What the session was served is in its sets, and of each two operations the later one had what was asked for.
pub record IsGoodSession (served : List Answered) (who : ℕ) (session : SessionSets) : Type 0 where
  pub begun : All (λ (answered : Answered). answered.entry.session.index ≡ who → answered.entry.place ≤ session.begun) served
  pub reads : (place server : ℕ) (database : List Write) → IsReadAt served who place server database → IsWithin (names database) session.reads
  pub writes : (place : ℕ) (made : Made) → IsMadeAt served who place made → Contains session.writes made.write.wid
  pub ryw : session.asks.ryw ≡ true → (first second server : ℕ) (made : Made) (database : List Write) → first < second
      → IsMadeAt served who first made → IsReadAt served who second server database → Contains (names database) made.write.wid
  pub mr : session.asks.mr ≡ true → (first second other server : ℕ) (earlier later : List Write) → first < second
      → IsReadAt served who first other earlier → IsReadAt served who second server later → IsWithin (names earlier) (names later)
  pub wfr : session.asks.wfr ≡ true → (first second server : ℕ) (database : List Write) (made : Made) → first < second
      → IsReadAt served who first server database → IsMadeAt served who second made → IsWithin (names database) (names made.past)
  pub mw : session.asks.mw ≡ true → (first second : ℕ) (earlier later : Made) → first < second
      → IsMadeAt served who first earlier → IsMadeAt served who second later → Contains (names later.past) earlier.write.wid
  pub flight : IfSome session.flight (IsGoodFlight served who session)

-- all of it
pub record IsGoodMachine (machine : Machine) : Type 0 where
  pub servers : AreGoodServers machine.count machine.limit machine.servers
  pub offers : AreOffers machine.servers machine.offers
  pub items : All (IsHome machine.servers) machine.items
  pub served : All (IsTrueAnswer machine.servers) machine.served
  pub sessions : (who : ℕ) (session : SessionSets) → machine.sessions who ≡ Some session → IsGoodSession machine.served who session
  pub flights : (who : ℕ) (session : SessionSets) (answered : Answered) → machine.sessions who ≡ Some session → session.flight ≡ Some answered → IsTrueAnswer machine.servers answered
