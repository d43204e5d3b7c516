-- A session of the code, and what is on its way to it: callers don't see it.
use Rattle.std.specs.Prelude.{◌≡◌, ℕ, false, List, [], ◌∷◌, ◌++◌, Option, None, Some, Result, Ok, Err}
use Rattle.std.specs.Option.{option_to_list}
use Rattle.bayou_base.specs.declared.answer.Accepted.{Accepted}
use Rattle.bayou_base.specs.declared.answer.Seen.{Seen}
use Rattle.bayou_base.specs.declared.entry.Entry.{Entry}
use Rattle.bayou_base.specs.declared.entry.What.{What}
use Rattle.bayou_base.specs.declared.entry.What.TheVariants as whats
use Rattle.bayou_base.specs.declared.server.ServerId.{ServerId}
use Rattle.bayou_base.specs.declared.tag.Tag.{Tag}
use Rattle.bayou_base.specs.Vector.{joined}
use Rattle.bayou_device.specs.Memory.{Memory}
use Rattle.bayou_server.specs.declared.answer.Written.{Written}
use Rattle.bayou_server.specs.declared.answer.Written.TheVariants.{New, Known}
use Rattle.bayou_server.specs.declared.fault.Behind.{Behind}
use Rattle.bayou_server.specs.declared.fault.WriteFault.{WriteFault}
use Rattle.bayou_server.specs.Server.{ServerState}
use Rattle.bayou_server.specs.Writes.{Writes}
use Rattle.bayou_session.specs.Needs.{HasCounts, IsTagOf, Told, after_write, write_need}
use Rattle.bayou_world.specs.declared.world_session.Asked.{Asked}
use Rattle.bayou_world.specs.declared.world_session.WorldSession.{WorldSession}
use Rattle.bayou_world.specs.Faults.{has_doubt}
use Rattle.bayou_world.specs.Inner.Charges.{Spends}
use Rattle.bayou_world.specs.Inner.WorldServers.{StaysHonest}

-- what an answer to a read tells
abbrev pub seen_as : List ℕ → Result Seen Behind → What
seen_as key (Ok seen) = whats.Read key seen.vector
seen_as key (Err behind) = whats.Refused

-- what an answer to a program tells
abbrev pub accepted_as : Result Written WriteFault → What
accepted_as (Ok (New accepted)) = whats.Write accepted.wid accepted.stamp accepted.deps
accepted_as (Ok (Known accepted)) = whats.Write accepted.wid accepted.stamp accepted.deps
accepted_as (Err fault) = whats.Refused

abbrev pub accepted_of : Result Written WriteFault → Option Accepted
accepted_of (Ok (New accepted)) = Some accepted
accepted_of (Ok (Known accepted)) = Some accepted
accepted_of (Err fault) = None

-- at the place that it began last the server answers it this, which is on its way
pub record IsAnswered (old : WorldSession) (server : ℕ) (what : What) (accepted : Option Accepted) (new : WorldSession) : Type 0 where
  pub entry : Entry
  pub session_is : entry.session ≡ old.session.id
  pub place_is : entry.place ≡ old.session.begun
  pub asks_are : entry.asks ≡ old.session.asks
  pub server_is : entry.server.index ≡ server
  pub what_is : entry.what ≡ what
  pub session : new.session ≡ old.session
  pub asked : new.asked ≡ old.asked
  pub flight : new.flight ≡ Some (record { entry = entry; accepted = accepted })
  pub waiting : new.waiting ≡ old.waiting

-- It has begun its next place, by which its session and what it may ask again are these, and is answered there.
abbrev pub Begins : WorldSession → Told → Option Asked → (server : ℕ) → What → Option Accepted → WorldSession → Type 0
Begins old session asked server what accepted new = IsAnswered (record old { session = session; asked = asked }) server what accepted new

-- the server that was asked
abbrev pub server_of : Asked → ServerId
server_of asked = asked.server

-- At a place that it begins, by which its session is this, it asks the server for a Write of the program, under the tag of the place
-- `number`, and may ask that again.
pub record Asks (old : WorldSession) (session : Told) (asked : Asked) (number : ℕ) (server : ServerState Memory) (answer : Result Written WriteFault) (new : WorldSession)
    (new_server : ServerState Memory) : Type 0 where
  pub tag : Tag
  pub tag_is : IsTagOf old.session number tag
  pub counts : HasCounts old.session
  pub writes : Writes server.core tag (write_need old.session) asked.program answer new_server.core
  pub begun : Begins old session (Some asked) server.core.id (accepted_as answer) (accepted_of answer) new
  pub honest : StaysHonest server new_server
  pub spends : Spends (has_doubt answer) false server.device new_server.device

-- what a session learns
abbrev pub after_read : What → Told → Told
after_read (whats.Read key vector) told = record told { reads = joined told.reads vector }
after_read (whats.Write wid stamp deps) told = told
after_read whats.Refused told = told

abbrev pub after_accepted : Option Accepted → Told → Told
after_accepted None told = told
after_accepted (Some accepted) told = after_write told accepted

-- what was accepted is asked no more
abbrev pub asked_after : Option Accepted → Option Asked → Option Asked
asked_after None asked = asked
asked_after (Some accepted) asked = None

-- it hears what was on its way, or nothing was
abbrev pub Hears : WorldSession → Option Entry → WorldSession → Type 0
Hears old None new = (old.flight ≡ None) × (new ≡ old)
Hears old (Some entry) new = (accepted : Option Accepted) × (old.flight ≡ Some (record { entry = entry; accepted = accepted }))
    × (new.session ≡ after_accepted accepted (after_read entry.what old.session)) × (new.asked ≡ asked_after accepted old.asked) × (new.flight ≡ None) × (new.waiting.items ≡ old.waiting.items ++ entry ∷ [])

-- the oldest entry that waited is taken off, if one did
pub record Pops (old : WorldSession) (popped : Option Entry) (new : WorldSession) : Type 0 where
  pub items : old.waiting.items ≡ option_to_list popped ++ new.waiting.items
  pub none : popped ≡ None → new.waiting.items ≡ []
  pub session : new.session ≡ old.session
  pub asked : new.asked ≡ old.asked
  pub flight : new.flight ≡ old.flight

-- what of an answer is served
abbrev pub served_entries : What → Entry → List Entry
served_entries (whats.Read key vector) entry = entry ∷ []
served_entries (whats.Write wid stamp deps) entry = entry ∷ []
served_entries whats.Refused entry = []
