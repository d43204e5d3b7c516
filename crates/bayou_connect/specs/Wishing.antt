-- What short lines do: this project's own.
use Rattle.std.specs.Prelude.{◌≡◌, ◌≢◌, ◌&&◌, if◌then◌else◌, ℕ, Bool, true, All, IsSomeAnd, List, [], ◌∷◌, MatchBool, MatchOption, Option, None, Some, is_some, map, slice_get}
use Rattle.bayou_base.specs.declared.server.ServerId.{ServerId}
use Rattle.bayou_connect.specs.Claiming.{ClaimsOne, MakesAddition, MakesPlainly, ReadsKey, TellsBecame}
use Rattle.bayou_connect.specs.Desks.{IsSameDesk, IsSameSeat}
use Rattle.bayou_connect.specs.Listing.{Lists}
use Rattle.bayou_connect.specs.Objects.{server_json}
use Rattle.bayou_connect.specs.Printing.{IsAsksLine}
use Rattle.bayou_connect.specs.Standing.{TellsKeyStanding}
use Rattle.bayou_connect.specs.Sessions.{kept_of, own_session}
use Rattle.bayou_connect.specs.declared.desk.PersonDesk.{PersonDesk}
use Rattle.bayou_connect.specs.declared.reach.Access.{Access}
use Rattle.bayou_lang.specs.declared.program.Program.{Program}
use Rattle.bayou_person.specs.Doing.{Does}
use Rattle.bayou_person.specs.declared.wish.Wish.{Wish}
use Rattle.bayou_person.specs.declared.wish.Wish.TheVariants as wishes
use Rattle.bayou_print.specs.Connected.{dumped_text, seat_text, server_text}
use Rattle.bayou_print.specs.declared.connected.Holds.{Holds}
use Rattle.bayou_streams.specs.Account.{Account, TakesBytes}

-- The session of short lines reads a key; and how its value stands is printed after it.
pub record GetsKey (key : List ℕ) (old new : PersonDesk) (before after : Account) : Type 0 where
  pub read : PersonDesk
  pub line : Account
  pub reads : ReadsKey own_session key old read before line
  pub stands : TellsKeyStanding key read new line after
  pub same : IsSameDesk read new

-- and these keys, one after another
unfoldable pub GetsKeys : List (List ℕ) → (old new : PersonDesk) → (before after : Account) → Type 0
GetsKeys [] old new before after = (new ≡ old) × (after ≡ before)
GetsKeys (key ∷ keys) old new before after = (got : PersonDesk) × (line : Account) × GetsKey key old got before line × GetsKeys keys got new line after

-- A Write of this program is made, as such a line asks for it.
abbrev pub MakesAs : Wish → Program → (old new : PersonDesk) → (before after : Account) → Type 0
MakesAs (wishes.Claim key others value) program old new before after = ClaimsOne own_session value (key ∷ others.items) program old new before after
MakesAs (wishes.Add key number) program old new before after = MakesAddition own_session program old new before after
MakesAs (wishes.Put key value) program old new before after = MakesPlainly own_session program old new before after
MakesAs (wishes.Del key) program old new before after = MakesPlainly own_session program old new before after
MakesAs (wishes.Get key others) program old new before after = ⊥
MakesAs (wishes.At server) program old new before after = ⊥
MakesAs wishes.List program old new before after = ⊥
MakesAs (wishes.Rows prefix) program old new before after = ⊥
MakesAs (wishes.Became wid) program old new before after = ⊥
MakesAs wishes.Servers program old new before after = ⊥
MakesAs wishes.Session program old new before after = ⊥
MakesAs wishes.Dump program old new before after = ⊥

-- the program does what was wished
abbrev pub Makes : Wish → (old new : PersonDesk) → (before after : Account) → Type 0
Makes wish old new before after = (program : Program) × Does wish program × MakesAs wish program old new before after

-- what is printed of the session of short lines
abbrev pub TellsSession : PersonDesk → (before after : Account) → Type 0
TellsSession desk before after = MatchOption (kept_of desk.store.sessions.items own_session) (after ≡ before)
    (λ kept. (asks : List ℕ) × (line : Account) × IsAsksLine own_session kept.session.asks asks × TakesBytes before line asks
    × TakesBytes line after (seat_text 0 desk.servers kept.session.reads kept.session.writes))

-- the servers, in the order in which they are listed
abbrev pub servers_at : List Access → List ServerId
servers_at accesses = map (λ (access : Access). access.place.id) accesses

-- what is printed of what a server holds, or that it is away: a line, or an object
abbrev pub server_told : (is_json : Bool) → (server servers : ℕ) → Option Holds → List ℕ
server_told is_json server servers held = if is_json then server_json server servers held else server_text server servers held

-- What a server holds is printed, or that it is away, which isn't what was asked for.
pub record TellsServer (server : ServerId) (old new : PersonDesk) (before after : Account) : Type 0 where
  pub held : Option Holds
  pub served : new.is_served ≡ (old.is_served && is_some held)
  pub printed : TakesBytes before after (server_told old.is_json server.index old.servers held)
  pub same : IsSameDesk old new

-- and of these servers, one after another
unfoldable pub TellServers : List ServerId → (old new : PersonDesk) → (before after : Account) → Type 0
TellServers [] old new before after = (new ≡ old) × (after ≡ before)
TellServers (server ∷ servers) old new before after = (told : PersonDesk) × (line : Account) × TellsServer server old told before line × TellServers servers told new line after

-- So many Writes go into the book as a server holds, or none where it sends nothing, which isn't what was asked for: that is printed.
pub record DumpsServer (server : ServerId) (old new : PersonDesk) (before after : Account) : Type 0 where
  pub sent : Option ℕ
  pub served : new.is_served ≡ (old.is_served && is_some sent)
  pub printed : TakesBytes before after (dumped_text server.index sent)
  pub seat : IsSameSeat old new
  pub sessions : (new.store.sessions ≡ old.store.sessions) × (new.store.state ≡ old.store.state)

-- and of these servers, one after another
unfoldable pub DumpServers : List ServerId → (old new : PersonDesk) → (before after : Account) → Type 0
DumpServers [] old new before after = (new ≡ old) × (after ≡ before)
DumpServers (server ∷ servers) old new before after = (told : PersonDesk) × (line : Account) × DumpsServer server old told before line × DumpServers servers told new line after

-- where there is a book
abbrev pub Dumps : (old new : PersonDesk) → (before after : Account) → (done : Bool) → Type 0
Dumps old new before after done = (done ≡ is_some old.store.book)
    × MatchBool done (DumpServers (servers_at old.store.accesses.items) old new before after) ((new ≡ old) × (after ≡ before))

-- the server is asked first from then on, if it is at hand
abbrev pub GoesTo : ServerId → (old new : PersonDesk) → (done : Bool) → Type 0
GoesTo server old new done = MatchBool done
    ((at : ℕ) × IsSomeAnd (slice_get old.store.accesses.items at) (λ access. access.place.id ≡ server) × (new ≡ record old { first = at }))
    (All (λ access. access.place.id ≢ server) old.store.accesses.items × (new ≡ old))

-- What a short line does, and whether that can be done here.
abbrev pub DoesWish : Wish → (old new : PersonDesk) → (before after : Account) → (done : Bool) → Type 0
DoesWish (wishes.Get key others) old new before after done = (done ≡ true) × GetsKeys (key ∷ others.items) old new before after
DoesWish (wishes.At server) old new before after done = GoesTo server old new done × (after ≡ before)
DoesWish wishes.List old new before after done = (done ≡ true) × Lists own_session None old new before after
DoesWish (wishes.Rows prefix) old new before after done = (done ≡ true) × Lists own_session (Some prefix) old new before after
DoesWish (wishes.Became wid) old new before after done = (done ≡ true) × TellsBecame own_session wid old new before after
DoesWish wishes.Servers old new before after done = (done ≡ true) × TellServers (servers_at old.store.accesses.items) old new before after
DoesWish wishes.Session old new before after done = (done ≡ true) × (new ≡ old) × TellsSession old before after
DoesWish wishes.Dump old new before after done = Dumps old new before after done
DoesWish (wishes.Put key value) old new before after done = (done ≡ true) × Makes (wishes.Put key value) old new before after
DoesWish (wishes.Add key number) old new before after done = (done ≡ true) × Makes (wishes.Add key number) old new before after
DoesWish (wishes.Del key) old new before after done = (done ≡ true) × Makes (wishes.Del key) old new before after
DoesWish (wishes.Claim key others value) old new before after done = (done ≡ true) × Makes (wishes.Claim key others value) old new before after
