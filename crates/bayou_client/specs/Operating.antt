-- What becomes of a session and of its share of the book as it reads or writes over a link, and what is entered of that (Terry et al. 1994; the
-- book is this project's own).
use Rattle.std.specs.Prelude.{◌≡◌, ℕ, ◌+◌, Bool, List, [], Option, None, Some, IsSomeAnd, Result, Ok, Err}
use Rattle.bayou_audit.specs.Totals.{Shared, counted}
use Rattle.bayou_base.specs.declared.answer.Accepted.{Accepted}
use Rattle.bayou_base.specs.declared.answer.Seen.{Seen}
use Rattle.bayou_base.specs.declared.entry.Entry.{Entry}
use Rattle.bayou_base.specs.declared.entry.What.{What}
use Rattle.bayou_base.specs.declared.entry.What.TheVariants as whats
use Rattle.bayou_base.specs.declared.server.ServerId.{ServerId}
use Rattle.bayou_base.specs.declared.tag.Tag.{Tag}
use Rattle.bayou_client.specs.declared.asker.Asked.{Asked}
use Rattle.bayou_client.specs.declared.asker.Heard.{Heard}
use Rattle.bayou_client.specs.declared.fault.ClientFault.{ClientFault}
use Rattle.bayou_client.specs.declared.fault.ClientFault.TheVariants.{AuditFull, Link}
use Rattle.bayou_client.specs.declared.fault.LinkFault.TheVariants.{Lost, BadFrame, Refused, OutOfMemory}
use Rattle.bayou_client.specs.declared.fault.LinkFault.{LinkFault}
use Rattle.bayou_client.specs.Exchange.{Asks, LinkEnds, asks_read, asks_write}
use Rattle.bayou_lang.specs.declared.program.Program.{Program}
use Rattle.bayou_session.specs.Needs.{IsTagOf, Told, after_read, after_write, asks_again, asks_first, one_place_more, read_need, write_need}
use Rattle.bayou_wire.specs.declared.frame.Frame.TheVariants as frames
use Rattle.bayou_wire.specs.Stream.{spelling}

-- a session, and what it asked last and may ask again, if anything
pub record Asking : Type 0 where
  pub session : Told
  pub asked : Option Asked

-- a Write is begun, at this server, which may be asked again from then on
abbrev pub asks_at : Asking → ServerId → Program → Asking
asks_at asking server program = record { session = asks_first asking.session; asked = Some (record { server = server; program = program }) }

-- the Write that was asked last is begun once more
abbrev pub asks_once_more : Asking → Asking
asks_once_more asking = record asking { session = asks_again asking.session }

-- a read is begun: what was asked before it is asked no more
abbrev pub begins_read : Asking → Asking
begins_read asking = record { session = one_place_more asking.session; asked = None }

-- a read saw what its server held
abbrev pub told_seen : Asking → Seen → Asking
told_seen begun seen = record begun { session = after_read begun.session seen }

-- a Write was reported as accepted, and is asked no more
abbrev pub told_accepted : Asking → Accepted → Asking
told_accepted begun accepted = record { session = after_write begun.session accepted; asked = None }

-- An operation of a session: what it asks for, which bytes are its request, what becomes of the session and of what it may ask again as it
-- begins its place, what it hears by an answer, and what is entered of it.
pub record Operation (A : Type 0) : Type 1 where
  pub asks : Asks A
  pub is_request : List ℕ → Type 0
  pub begins : Asking → Asking
  pub tells : Asking → A → Asking
  pub what : A → What

abbrev pub read_what : (key : List ℕ) → Seen → What
read_what key seen = whats.Read key seen.vector

abbrev pub write_what : Accepted → What
write_what accepted = whats.Write accepted.wid accepted.stamp accepted.deps

-- the session's need is sent
abbrev pub reading : Told → (key : List ℕ) → Operation Seen
reading session key = record {
  asks = asks_read (read_need session);
  is_request = λ request. request ≡ spelling (frames.Read (read_need session) key);
  begins = begins_read;
  tells = told_seen;
  what = read_what key;
}

-- what may be asked again is sent at the place that was begun last, under the tag that it has, with the session's need
abbrev pub sending : Told → Asked → Operation Accepted
sending session asked = record {
  asks = asks_write (write_need session) asked.server;
  is_request = λ request. (number : ℕ) × (tag : Tag) × (session.asked ≡ Some number) × IsTagOf session number tag
      × (request ≡ spelling (frames.Write tag (write_need session) asked.program));
  begins = λ begun. begun;
  tells = told_accepted;
  what = write_what;
}

-- the session's need is sent, under the tag of the place that it begins, and the Write may be asked again
abbrev pub writing : Told → ServerId → Program → Operation Accepted
writing session server program = record {
  asks = asks_write (write_need session) server;
  is_request = λ request. (tag : Tag) × IsTagOf session (session.begun + 1) tag × (request ≡ spelling (frames.Write tag (write_need session) program));
  begins = λ old. asks_at old server program;
  tells = told_accepted;
  what = write_what;
}

-- what was asked is sent once more, under the tag that it had, with the need of now
abbrev pub asking_again : Told → Asked → Operation Accepted
asking_again session asked = record {
  asks = asks_write (write_need session) asked.server;
  is_request = λ request. (number : ℕ) × (tag : Tag) × (session.asked ≡ Some number) × IsTagOf session number tag
      × (request ≡ spelling (frames.Write tag (write_need session) asked.program));
  begins = asks_once_more;
  tells = told_accepted;
  what = write_what;
}

-- what becomes of its request
abbrev pub Ends : {A : Type 0} → Operation A → (before after : Option (List ℕ)) → (read : List ℕ) → (was_closed is_closed : Bool) → (gone : Type 0) → Result A LinkFault → Type 0
Ends operation before after read was_closed is_closed gone told =
    (request : List ℕ) × operation.is_request request × LinkEnds operation.asks request before after read was_closed is_closed gone told

-- ---- what is heard of it, and what is entered

-- what becomes of a session that has begun a place: it learns what an answer says, and nothing where there is none
abbrev pub heard_by : {A : Type 0} → (tells : Asking → A → Asking) → (begun : Asking) → Result A LinkFault → Asking
heard_by tells begun (Ok answer) = tells begun answer
heard_by tells begun (Err fault) = begun

abbrev pub after_told : {A : Type 0} → Operation A → (old : Asking) → Result A LinkFault → Asking
after_told operation old told = heard_by operation.tells (operation.begins old) told

-- what is entered of it: what an answer says, or that it was refused
abbrev pub entered_of : {A : Type 0} → (A → What) → Result A LinkFault → Option What
entered_of what (Ok answer) = Some (what answer)
entered_of what (Err (Refused refusal)) = Some whats.Refused
entered_of what (Err Lost) = None
entered_of what (Err BadFrame) = None
entered_of what (Err OutOfMemory) = None

-- an entry of an operation of this session, at the place that it began last, at this server
pub record IsEntryOf (session : Told) (server : ServerId) (what : What) (entry : Entry) : Type 0 where
  pub session_is : entry.session ≡ session.id
  pub place_is : entry.place ≡ session.begun
  pub asks_are : entry.asks ≡ session.asks
  pub server_is : entry.server ≡ server
  pub what_is : entry.what ≡ what

-- an entry of this, where there is anything to enter
abbrev pub IsEntered : Told → ServerId → Option What → Option Entry → Type 0
IsEntered session server None entry = entry ≡ None
IsEntered session server (Some what) entry = IsSomeAnd entry (IsEntryOf session server what)

-- What is heard of an operation at this server: how its request ended, what became of the session, which began a place, and what is entered.
pub record Hears {A : Type 0} (operation : Operation A) (server : ServerId) (old new : Asking) (before after : Option (List ℕ)) (read : List ℕ) (was_closed is_closed : Bool) (gone : Type 0)
    (heard : Heard A) : Type 0 where
  pub ends : Ends operation before after read was_closed is_closed gone heard.told
  pub becomes : new ≡ after_told operation old heard.told
  pub entered : IsEntered (operation.begins old).session server (entered_of operation.what heard.told) heard.entry

-- ---- with a share of the book

-- a session, its share of the book, and what it asked last and may ask again, if anything
pub record Sharing : Type 0 where
  pub session : Told
  pub share : Shared
  pub asked : Option Asked

abbrev pub without_share : Sharing → Asking
without_share sharing = record { session = sharing.session; asked = sharing.asked }

-- one entry more of this is counted, where there is anything to enter
abbrev pub with_entered : Option What → Shared → Shared
with_entered None share = share
with_entered (Some what) share = record share { totals = counted what share.totals }

-- what becomes of the session is so, and its share counts what is entered
abbrev pub after_hearing : {A : Type 0} → Operation A → (old : Sharing) → Result A LinkFault → Sharing
after_hearing operation old told =
    let asking = after_told operation (without_share old) told in
    record { session = asking.session; share = with_entered (entered_of operation.what told) old.share; asked = asking.asked }

-- How an operation ends: the session has begun a place, and learns just what a reply that answers the request says, which is entered. A
-- refusal is entered, and nothing is reported. Where no such reply came, the session's two vectors are as they were, and nothing is entered.
-- Where the book is full, nothing is done.
abbrev pub Operates : {A : Type 0} → Operation A → (old new : Sharing) → (before after : Option (List ℕ)) → (read : List ℕ) → (was_closed is_closed : Bool) → (gone : Type 0)
    → Result A ClientFault → Type 0
Operates operation old new before after read was_closed is_closed gone (Ok answer) =
    Ends operation before after read was_closed is_closed gone (Ok answer) × (new ≡ after_hearing operation old (Ok answer))
Operates operation old new before after read was_closed is_closed gone (Err (Link fault)) =
    Ends operation before after read was_closed is_closed gone (Err fault) × (new ≡ after_hearing operation old (Err fault))
Operates operation old new before after read was_closed is_closed gone (Err AuditFull) =
    (new ≡ old) × (is_closed ≡ was_closed) × (after ≡ before) × (read ≡ [])
