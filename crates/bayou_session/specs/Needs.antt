-- What a session has read and written, what it may ask again, and what it needs of a server (Terry et al. 1994; that a Write
-- may be asked again is this project's own).
use Rattle.std.specs.Prelude.{◌≡◌, ℕ, ◌+◌, Bool, true, false, List, replicate, Option, Some, None}
use Rattle.bayou_base.specs.declared.limits.TheConstants.{SERVERS}
use Rattle.bayou_base.specs.declared.answer.Accepted.{Accepted}
use Rattle.bayou_base.specs.declared.answer.Seen.{Seen}
use Rattle.bayou_base.specs.declared.asks.Asks.{Asks}
use Rattle.bayou_base.specs.declared.session.SessionId.{SessionId}
use Rattle.bayou_base.specs.declared.tag.Tag.{Tag}
use Rattle.bayou_base.specs.Vector.{AreCounts, joined, raised}
use Rattle.bayou_session.specs.declared.past.Past.{Past}

-- A session: its name, what it asks for, the run of the program that it belongs to, how many places it has begun, the place
-- of the Write that it may ask again, if there is one, the join of the vectors that its served reads saw (read-set), and the
-- counts raised to each Write that it heard of (write-set).
pub record Told : Type 0 where
  pub id : SessionId
  pub asks : Asks
  pub run : ℕ
  pub begun : ℕ
  pub asked : Option ℕ
  pub reads : List ℕ
  pub writes : List ℕ

-- each of its two vectors has one count for each server, within what a log can hold
abbrev pub HasCounts : Told → Type 0
HasCounts session = AreCounts session.reads × AreCounts session.writes

-- a session that has tried nothing yet
abbrev pub new_session : SessionId → ℕ → Asks → Told
new_session id run asks = record { id = id; asks = asks; run = run; begun = 0; asked = None; reads = replicate SERVERS 0; writes = replicate SERVERS 0 }

-- a session that goes on from what it learned and tried before
abbrev pub resumed : SessionId → Asks → Past → Told
resumed id asks past =
    record { id = id; asks = asks; run = past.run; begun = past.begun; asked = past.asked; reads = past.reads; writes = past.writes }

-- it has begun one place more, for an operation that is never asked again: what it asked before it, it asks no more
abbrev pub one_place_more : Told → Told
one_place_more session = record session { begun = session.begun + 1; asked = None }

-- it has begun one place more, for a Write, which it may ask again
abbrev pub asks_first : Told → Told
asks_first session = record session { begun = session.begun + 1; asked = Some (session.begun + 1) }

-- it has begun one place more, for a Write that it asked at another place, which it may ask once more
abbrev pub asks_again : Told → Told
asks_again session = record session { begun = session.begun + 1 }

-- the tag of the Write that the session asked first at the place `number`
abbrev pub IsTagOf : Told → ℕ → Tag → Type 0
IsTagOf session number tag = (tag.session ≡ session.id) × (tag.run ≡ session.run) × (tag.number ≡ number)

-- it learned what a read was served: its read-set has all that the server held
abbrev pub after_read : Told → Seen → Told
after_read session seen = record session { reads = joined session.reads seen.vector }

-- it was reported that a Write was accepted, which its write-set then has, and which it asks no more
abbrev pub after_write : Told → Accepted → Told
after_write session accepted = record session { writes = raised session.writes accepted.wid; asked = None }

-- the counts where they are asked for, else of no Write
abbrev pub if_asked : Bool → List ℕ → List ℕ
if_asked true counts = counts
if_asked false counts = replicate SERVERS 0

-- What a read needs of a server: the session's Writes where it asks for Read Your Writes, and what its reads saw where it
-- asks for Monotonic Reads.
abbrev pub read_need : Told → List ℕ
read_need session = joined (if_asked session.asks.ryw session.writes) (if_asked session.asks.mr session.reads)

-- What a Write needs of a server: what the session's reads saw where it asks for Writes Follow Reads, and the session's
-- Writes where it asks for Monotonic Writes.
abbrev pub write_need : Told → List ℕ
write_need session = joined (if_asked session.asks.wfr session.reads) (if_asked session.asks.mw session.writes)
