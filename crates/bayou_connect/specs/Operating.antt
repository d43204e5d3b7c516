-- What becomes of a session at one server, by what it hears: this project's own (sessions by Terry et al. 1994).
use Rattle.std.specs.Prelude.{◌≡◌, ◌≢◌, Bool, true, false, Option, None, Some, Result, Ok, Err}
use Rattle.bayou_answers.specs.declared.answer.Recovery.{Recovery}
use Rattle.bayou_answers.specs.declared.answer.Recovery.TheVariants.{NotReopened, Reopened}
use Rattle.bayou_base.specs.declared.server.ServerId.{ServerId}
use Rattle.bayou_base.specs.declared.value.Value.{Value}
use Rattle.bayou_base.specs.declared.wid.Wid.{Wid}
use Rattle.bayou_client.specs.declared.asker.Asked.{Asked}
use Rattle.bayou_client.specs.declared.fault.LinkFault.{LinkFault}
use Rattle.bayou_client.specs.declared.fault.LinkFault.TheVariants.{Refused}
use Rattle.bayou_client.specs.Operating.{Asking, asks_at, asks_once_more, begins_read, told_accepted, told_seen}
use Rattle.bayou_connect.specs.declared.asking.Requested.{Requested}
use Rattle.bayou_connect.specs.declared.asking.Requested.TheVariants as attempts
use Rattle.bayou_connect.specs.declared.reach.Purpose.{Purpose}
use Rattle.bayou_connect.specs.declared.reach.Purpose.TheVariants.{Requests, Lookups}
use Rattle.bayou_connect.specs.declared.told.ServerTold.{ServerTold}
use Rattle.bayou_connect.specs.declared.told.ServerTold.TheVariants as told
use Rattle.bayou_wire.specs.declared.lookup.Fate.{Fate}
use Rattle.bayou_wire.specs.declared.lookup.Page.{Page}

-- it is a read, which changes nothing
abbrev pub is_read : Requested → Bool
is_read (attempts.Read key) = true
is_read (attempts.List asked) = true
is_read (attempts.Became wid) = true
is_read (attempts.Write program) = false
is_read attempts.Again = false

-- what is asked beside one key has a connection of its own
abbrev pub purpose_of : Requested → Purpose
purpose_of (attempts.Read key) = Requests
purpose_of (attempts.List asked) = Lookups
purpose_of (attempts.Became wid) = Lookups
purpose_of (attempts.Write program) = Requests
purpose_of attempts.Again = Requests

-- rows, and what became of a Write, are reads of what their server held
abbrev pub told_rows : Asking → Page → Asking
told_rows sent page = told_seen sent (record { value = None; vector = page.vector })

abbrev pub told_fate : Asking → Fate → Asking
told_fate sent fate = told_seen sent (record { value = None; vector = fate.vector })

-- as what it asked is sent once more: there is nothing to ask again where nothing was asked
abbrev pub sent_again : Asking → Option Asked → Asking
sent_again old None = old
sent_again old (Some asked) = asks_once_more old

-- what a session is after each answer: a read saw what the server held, and it learns of no other answer
abbrev pub TellsRead : (sent new : Asking) → ServerTold → Type 0
TellsRead sent new told.Away = ⊥
TellsRead sent new (told.Seen seen) = new ≡ told_seen sent seen
TellsRead sent new (told.Rows page) = ⊥
TellsRead sent new (told.Fate fate) = ⊥
TellsRead sent new (told.Accepted accepted) = ⊥
TellsRead sent new (told.Refused fault) = new ≡ sent
TellsRead sent new told.Lost = new ≡ sent

-- so did rows
abbrev pub TellsRows : (sent new : Asking) → ServerTold → Type 0
TellsRows sent new told.Away = ⊥
TellsRows sent new (told.Seen seen) = ⊥
TellsRows sent new (told.Rows page) = new ≡ told_rows sent page
TellsRows sent new (told.Fate fate) = ⊥
TellsRows sent new (told.Accepted accepted) = ⊥
TellsRows sent new (told.Refused fault) = new ≡ sent
TellsRows sent new told.Lost = new ≡ sent

-- and what became of a Write
abbrev pub TellsFate : (sent new : Asking) → ServerTold → Type 0
TellsFate sent new told.Away = ⊥
TellsFate sent new (told.Seen seen) = ⊥
TellsFate sent new (told.Rows page) = ⊥
TellsFate sent new (told.Fate fate) = new ≡ told_fate sent fate
TellsFate sent new (told.Accepted accepted) = ⊥
TellsFate sent new (told.Refused fault) = new ≡ sent
TellsFate sent new told.Lost = new ≡ sent

-- a Write that was accepted is asked no more
abbrev pub TellsWrite : (sent new : Asking) → ServerTold → Type 0
TellsWrite sent new told.Away = ⊥
TellsWrite sent new (told.Seen seen) = ⊥
TellsWrite sent new (told.Rows page) = ⊥
TellsWrite sent new (told.Fate fate) = ⊥
TellsWrite sent new (told.Accepted accepted) = new ≡ told_accepted sent accepted
TellsWrite sent new (told.Refused fault) = new ≡ sent
TellsWrite sent new told.Lost = new ≡ sent

-- the same after what was attempted at this server: as it is sent one place more is begun, and a Write may be asked again from then on
abbrev pub HasDone : Requested → ServerId → (old new : Asking) → ServerTold → Type 0
HasDone (attempts.Read key) server old new told = TellsRead (begins_read old) new told
HasDone (attempts.List asked) server old new told = TellsRows (begins_read old) new told
HasDone (attempts.Became wid) server old new told = TellsFate (begins_read old) new told
HasDone (attempts.Write program) server old new told = TellsWrite (asks_at old server program) new told
HasDone attempts.Again server old new told = TellsWrite (sent_again old old.asked) new told

-- no answer that serves it
abbrev pub IsNoService : ServerTold → Type 0
IsNoService told.Away = ⊥
IsNoService (told.Seen seen) = ⊥
IsNoService (told.Rows page) = ⊥
IsNoService (told.Fate fate) = ⊥
IsNoService (told.Accepted accepted) = ⊥
IsNoService (told.Refused fault) = Unit {0}
IsNoService told.Lost = Unit {0}

-- a read was served, and saw another value than this, or none
abbrev pub SeesOther : Value → ServerTold → Type 0
SeesOther value told.Away = ⊥
SeesOther value (told.Seen seen) = seen.value ≢ Some value
SeesOther value (told.Rows page) = ⊥
SeesOther value (told.Fate fate) = ⊥
SeesOther value (told.Accepted accepted) = ⊥
SeesOther value (told.Refused fault) = ⊥
SeesOther value told.Lost = ⊥

-- what a server's reopening comes to by its reply, unless none came
abbrev pub recovery_told : ServerId → Result (Option Wid) LinkFault → Option Recovery
recovery_told server (Ok adopted) = Some (Reopened server adopted)
recovery_told server (Err (Refused refusal)) = Some (NotReopened refusal)
recovery_told server (Err _) = None
