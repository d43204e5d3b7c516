-- Runs of the machine of all servers and sessions, and what they leave: what sessions did and what servers had (Terry et al. 1994).
use Rattle.std.specs.Prelude.{◌≡◌, ℕ, ◌==◌, Bool, true, false, List, [], ◌∷◌, Option, None, Some, Contains, filter, length, max, min, if◌then◌else◌}
use Rattle.std.specs.Option.{option_map}
use Rattle.bayou_base.specs.declared.asks.Asks.{Asks}
use Rattle.bayou_base.specs.declared.entry.Entry.{Entry}
use Rattle.bayou_base.specs.declared.entry.What.{What}
use Rattle.bayou_base.specs.declared.entry.What.TheVariants as whats
use Rattle.bayou_base.specs.declared.limits.TheConstants.{MAX_ENTRIES}
use Rattle.bayou_lang.specs.declared.write.Write.{Write}
use Rattle.bayou_judge.specs.History.{History}
use Rattle.bayou_session.specs.Needs.{Told}
use Rattle.bayou_world.specs.declared.event.Event.{Event}
use Rattle.bayou_world.specs.declared.event.Event.TheVariants as events
use Rattle.bayou_world.specs.declared.reply.Reply.{Reply}
use Rattle.bayou_world.specs.Machine.{Answered, Machine, Made, ServerSets, SessionSets}
use Rattle.bayou_world.specs.Steps.{Step}

-- a server that holds nothing yet: its one database is the empty one
abbrev pub new_server : ServerSets
new_server = record { held = []; doubt = None; stopped = false; had = [] ∷ [] }

-- a session that has tried nothing yet
abbrev pub new_session : Asks → SessionSets
new_session asks = record { asks = asks; begun = 0; asked = None; reads = []; writes = []; flight = None; waiting = [] }

-- what the session of this number asks for, if there is one
abbrev pub asks_of : List Told → ℕ → Option Asks
asks_of [] who = None
asks_of (session ∷ sessions) who = if session.id.index == who then Some session.asks else asks_of sessions who

-- as a run begins, everything is empty, and each server is up
abbrev pub first_machine : (count limit capacity : ℕ) → (ℕ → Option Asks) → Machine
first_machine count limit capacity asks = record {
  count = count;
  limit = limit;
  capacity = capacity;
  servers = λ _. new_server;
  sessions = λ who. option_map new_session (asks who);
  offers = [];
  items = [];
  served = [];
  filed = [];
}

-- the events one after another may get these replies
abbrev pub Run : Machine → List Event → List Reply → Machine → Type 0
Run old [] [] new = new ≡ old
Run old (event ∷ events) (reply ∷ replies) new = (mid : Machine) × Step old event reply mid × Run mid events replies new
Run old [] (reply ∷ replies) new = ⊥
Run old (event ∷ events) [] new = ⊥

-- it enters an operation in the book
abbrev pub is_file : Event → Bool
is_file (events.File session) = true
is_file (events.Read session server key) = false
is_file (events.Write session server program) = false
is_file (events.Again session) = false
is_file (events.Deliver session) = false
is_file (events.Lose session) = false
is_file (events.Offer server) = false
is_file (events.Collect server offer) = false
is_file (events.Take server item) = false
is_file (events.Fuse server call front) = false
is_file (events.Reopen server) = false
is_file (events.Restart server) = false

-- how many entries the book of a run may have: one for each such event, as far as a book may have them, and one at least
abbrev pub capacity_for : List Event → ℕ
capacity_for events = max (min (length (filter is_file events)) MAX_ENTRIES) 1

-- ---- the history of a run

-- at this place of the session
pub record IsAt (session place : ℕ) (entry : Entry) : Type 0 where
  pub session_is : entry.session.index ≡ session
  pub place_is : entry.place ≡ place

abbrev pub IsRead : What → Type 0
IsRead (whats.Read key vector) = Unit {0}
IsRead (whats.Write wid stamp deps) = ⊥
IsRead whats.Refused = ⊥

-- a served operation accepted the Write
pub record IsWriteAt (served : List Answered) (session place : ℕ) (write : Write) : Type 0 where
  pub answered : Answered
  pub among : Contains served answered
  pub at : IsAt session place answered.entry
  pub made : Made
  pub accepted : answered.made ≡ Some made
  pub is : made.write ≡ write

-- a served operation read from the database, at the server
pub record IsReadAt (served : List Answered) (session place server : ℕ) (database : List Write) : Type 0 where
  pub answered : Answered
  pub among : Contains served answered
  pub at : IsAt session place answered.entry
  pub read : IsRead answered.entry.what
  pub by : answered.entry.server.index ≡ server
  pub from : answered.database ≡ database

-- What was served, and every database that a server had: of this history the four guarantees speak.
abbrev pub history_of_machine : Machine → History
history_of_machine machine = record {
  Wrote = λ session place write. IsWriteAt machine.served session place write;
  Read = λ session place server database. IsReadAt machine.served session place server database;
  Had = λ server database. Contains (machine.servers server).had database;
}
