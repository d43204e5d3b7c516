-- What each event does to the machine, with each answer that it may have (Terry et al. 1994, 1995; Petersen et al. 1997).
use Rattle.std.specs.Prelude.{◌≡◌, ℕ, ◌+◌, ◌<◌, ◌≤◌, ◌⊎◌, ◌↔◌, true, false, List, [], ◌∷◌, ◌++◌, Option, None, Some, Ok, Err, IsSome, AllPairs, Contains, Result, length, max}
use Rattle.std.specs.List.{slice_get}
use Rattle.std.specs.Option.{option_map}
use Rattle.bayou_base.specs.declared.answer.Accepted.{Accepted}
use Rattle.bayou_base.specs.declared.answer.Seen.{Seen}
use Rattle.bayou_base.specs.declared.entry.Entry.{Entry}
use Rattle.bayou_base.specs.declared.entry.What.{What}
use Rattle.bayou_base.specs.declared.entry.What.TheVariants as whats
use Rattle.bayou_base.specs.declared.limits.TheConstants.{MAX_NUMBER, MAX_PLACES}
use Rattle.bayou_base.specs.declared.server.ServerId.{ServerId}
use Rattle.bayou_base.specs.declared.tag.Tag.{Tag}
use Rattle.bayou_base.specs.declared.wid.Wid.{Wid}
use Rattle.bayou_base.specs.Order.{is_before}
use Rattle.bayou_lang.specs.declared.program.Program.{Program}
use Rattle.bayou_lang.specs.declared.write.Write.{Write}
use Rattle.bayou_lang.specs.Database.{value_at}
use Rattle.bayou_lang.specs.Writes.{IsNextWrite, count_of}
use Rattle.bayou_log.specs.Replay.{replay}
use Rattle.bayou_server.specs.declared.answer.Took.TheVariants.{New, Had}
use Rattle.bayou_server.specs.declared.answer.Written.{Written}
use Rattle.bayou_server.specs.declared.answer.Written.TheVariants as written
use Rattle.bayou_server.specs.declared.fault.JournalFault.TheVariants.{Device, NotAJournal, OtherServer}
use Rattle.bayou_server.specs.declared.fault.ReopenFault.{ReopenFault}
use Rattle.bayou_server.specs.declared.fault.ReopenFault.TheVariants as reopening
use Rattle.bayou_server.specs.declared.fault.StartFault.{StartFault}
use Rattle.bayou_server.specs.declared.fault.TakeFault.{TakeFault}
use Rattle.bayou_server.specs.declared.fault.TakeFault.TheVariants as taking
use Rattle.bayou_server.specs.declared.fault.WriteFault.{WriteFault}
use Rattle.bayou_server.specs.declared.fault.WriteFault.TheVariants as writing
use Rattle.bayou_server.specs.Honest.{IsHonestRefusal}
use Rattle.bayou_session.specs.declared.session.TheConstants.{FIRST_RUN}
use Rattle.bayou_world.specs.declared.event.Event.{Event}
use Rattle.bayou_world.specs.declared.event.Event.TheVariants as events
use Rattle.bayou_world.specs.declared.reply.Reply.{Reply}
use Rattle.bayou_world.specs.declared.reply.Reply.TheVariants as replies
use Rattle.bayou_world.specs.Machine.{Answered, Asking, IsWithin, Machine, Made, ServerSets, SessionSets, names, with_server, with_session, writes}

-- the server is there, and isn't stopped
pub record IsRunning (old : Machine) (place : ℕ) : Type 0 where
  pub there : place < old.count
  pub runs : (old.servers place).stopped ≡ false

-- ---- an operation of a session

-- The session may begin an operation at the server: both are there, the server runs, no answer is in flight to the session, and it has a
-- place left.
pub record MayBegin (old : Machine) (who place : ℕ) (session : SessionSets) : Type 0 where
  pub there : old.sessions who ≡ Some session
  pub server : IsRunning old place
  pub idle : session.flight ≡ None
  pub left : session.begun < MAX_PLACES

abbrev pub CannotBegin : Machine → (who place : ℕ) → Type 0
CannotBegin old who place = (session : SessionSets) → ¬ MayBegin old who place session

-- The server holds what a read of the session needs: its Writes where it asks for Read Your Writes, and what its reads saw where it
-- asks for Monotonic Reads.
pub record MayRead (session : SessionSets) (held : List Made) : Type 0 where
  pub ryw : session.asks.ryw ≡ true → IsWithin session.writes (names (writes held))
  pub mr : session.asks.mr ≡ true → IsWithin session.reads (names (writes held))

-- The server holds what a Write of the session needs: what its reads saw where it asks for Writes Follow Reads, and its Writes where it
-- asks for Monotonic Writes.
pub record MayWrite (session : SessionSets) (held : List Made) : Type 0 where
  pub wfr : session.asks.wfr ≡ true → IsWithin session.reads (names (writes held))
  pub mw : session.asks.mw ≡ true → IsWithin session.writes (names (writes held))

-- a past that has what a Write of the session needs
pub record CoversWrite (session : SessionSets) (past : List Write) : Type 0 where
  pub wfr : session.asks.wfr ≡ true → IsWithin session.reads (names past)
  pub mw : session.asks.mw ≡ true → IsWithin session.writes (names past)

-- the entry of what the session is answered by the server at its next place
pub record IsEntry (who place : ℕ) (session : SessionSets) (what : What) (entry : Entry) : Type 0 where
  pub session_is : entry.session.index ≡ who
  pub place_is : entry.place ≡ session.begun + 1
  pub asks_are : entry.asks ≡ session.asks
  pub server_is : entry.server.index ≡ place
  pub what_is : entry.what ≡ what

-- it begins the place, after which it may ask this again, if there is such a Write, and the answer goes in flight to it
abbrev pub with_answer : Machine → ℕ → SessionSets → Option Asking → Answered → Machine
with_answer machine who session asked answered = with_session machine who (record session { begun = session.begun + 1; asked = asked; flight = Some answered })

-- a refusal: nothing was read, and nothing made
abbrev pub refusal : Entry → Answered
refusal entry = record { entry = entry; database = []; made = None }

-- ---- a read

pub data ReadStep (old : Machine) (who place : ℕ) (key : List ℕ) (reply : Reply) (new : Machine) : Type 0 where
  skipped : CannotBegin old who place → reply ≡ replies.Skipped → new ≡ old → ReadStep old who place key reply new
  behind : (session : SessionSets) (entry : Entry) → MayBegin old who place session → (¬ MayRead session (old.servers place).held)
      → reply ≡ replies.Read (Err (record { vector = count_of (writes (old.servers place).held) }))
      → IsEntry who place session whats.Refused entry → new ≡ with_answer old who session None (refusal entry) → ReadStep old who place key reply new
  served : (session : SessionSets) (entry : Entry) (seen : Seen) → MayBegin old who place session → MayRead session (old.servers place).held
      → seen.value ≡ value_at (replay (writes (old.servers place).held)) key → seen.vector ≡ count_of (writes (old.servers place).held) → reply ≡ replies.Read (Ok seen)
      → IsEntry who place session (whats.Read key seen.vector) entry
      → new ≡ with_answer old who session None (record { entry = entry; database = writes (old.servers place).held; made = None }) → ReadStep old who place key reply new

-- ---- a Write

-- what the session asks at its next place, a Write of the program, of the server
abbrev pub first_asking : (place : ℕ) → SessionSets → Program → Asking
first_asking place session program = record { number = session.begun + 1; server = place; program = program }

-- the tag of what the session asked first at the place `number`, in the run, the first one, that the machine is of
pub record IsTagOf (who number : ℕ) (tag : Tag) : Type 0 where
  pub session_is : tag.session.index ≡ who
  pub run_is : tag.run ≡ FIRST_RUN
  pub number_is : tag.number ≡ number

-- no Write is in doubt, and what the session needs is held
pub record IsReady (session : SessionSets) (server : ServerSets) : Type 0 where
  pub up : server.doubt ≡ None
  pub covered : MayWrite session server.held

-- Why no Write is made of what is asked. The cases stand in their order: each says that those before it don't hold. No Write is held under
-- the tag: that of a first asking is new, and one that is asked again is answered by the Write that is held under it.
abbrev pub RefusesWrite : ℕ → SessionSets → ServerSets → WriteFault → Type 0
RefusesWrite limit session server writing.TagUsed = ⊥
RefusesWrite limit session server writing.Down = IsSome server.doubt
RefusesWrite limit session server (writing.Behind vector) = (server.doubt ≡ None) × (¬ MayWrite session server.held) × (vector ≡ count_of (writes server.held))
RefusesWrite limit session server writing.LogFull = IsReady session server × (length server.held ≡ limit)
RefusesWrite limit session server writing.OutOfMemory = IsReady session server × (length server.held < limit)
RefusesWrite limit session server writing.Journal = ⊥

-- the Write that the server makes of what is asked: the next of its own, whose past is what it holds, with the tag of the asking
pub record Makes (limit who : ℕ) (session : SessionSets) (server : ServerSets) (asking : Asking) (made : Made) : Type 0 where
  pub ready : IsReady session server
  pub room : length server.held < limit
  pub next : IsNextWrite (writes server.held) asking.server asking.program made.write
  pub past : made.past ≡ writes server.held
  pub tag : IsTagOf who asking.number made.tag

-- an accepted Write is answered by its name and stamp, and what was held just before
pub record IsAccepted (made : Made) (accepted : Accepted) : Type 0 where
  pub wid : accepted.wid ≡ made.write.wid
  pub stamp : accepted.stamp ≡ made.write.stamp
  pub deps : accepted.deps ≡ count_of made.past

-- the Write is held after the others, and so there is one database more
abbrev pub with_write : ServerSets → Made → ServerSets
with_write server made = record server { held = server.held ++ made ∷ []; had = server.had ++ writes (server.held ++ made ∷ []) ∷ [] }

-- a device call failed as the Write was to be stored: it is in doubt, and the server is down
abbrev pub with_doubt : ServerSets → Made → ServerSets
with_doubt server made = record server { doubt = Some made }

-- The session asks at its next place, and the server that is asked makes no Write, or has it in doubt, or accepts it.
pub data AskStep (old : Machine) (who : ℕ) (session : SessionSets) (asking : Asking) (answer : Result Written WriteFault) (new : Machine) : Type 0 where
  refused : (entry : Entry) (fault : WriteFault) → RefusesWrite old.limit session (old.servers asking.server) fault → answer ≡ Err fault
      → IsEntry who asking.server session whats.Refused entry → new ≡ with_answer old who session (Some asking) (refusal entry) → AskStep old who session asking answer new
  doubted : (entry : Entry) (made : Made) → Makes old.limit who session (old.servers asking.server) asking made → answer ≡ Err writing.Journal
      → IsEntry who asking.server session whats.Refused entry
      → new ≡ with_answer (with_server old asking.server (with_doubt (old.servers asking.server) made)) who session (Some asking) (refusal entry) → AskStep old who session asking answer new
  accepted : (entry : Entry) (made : Made) (accepted : Accepted) → Makes old.limit who session (old.servers asking.server) asking made → IsAccepted made accepted
      → answer ≡ Ok (written.New accepted) → IsEntry who asking.server session (whats.Write accepted.wid accepted.stamp accepted.deps) entry
      → new ≡ with_answer (with_server old asking.server (with_write (old.servers asking.server) made)) who session (Some asking)
      (record { entry = entry; database = made.past; made = Some made })
      → AskStep old who session asking answer new

pub data WriteStep (old : Machine) (who place : ℕ) (program : Program) (reply : Reply) (new : Machine) : Type 0 where
  skipped : CannotBegin old who place → reply ≡ replies.Skipped → new ≡ old → WriteStep old who place program reply new
  asked : (session : SessionSets) (answer : Result Written WriteFault) → MayBegin old who place session → AskStep old who session (first_asking place session program) answer new
      → reply ≡ replies.Wrote answer → WriteStep old who place program reply new

-- ---- a Write that is asked again

-- The session may ask its last Write again: there is one that it may, and it may begin an operation at the server that it asked.
pub record MayRepeat (old : Machine) (who : ℕ) (session : SessionSets) (asking : Asking) : Type 0 where
  pub asked : session.asked ≡ Some asking
  pub begin : MayBegin old who asking.server session

abbrev pub CannotRepeat : Machine → ℕ → Type 0
CannotRepeat old who = (session : SessionSets) (asking : Asking) → ¬ MayRepeat old who session asking

-- the server that was asked holds the Write, under the tag of what was asked
pub record HoldsAsked (old : Machine) (who : ℕ) (asking : Asking) (made : Made) : Type 0 where
  pub held : Contains (old.servers asking.server).held made
  pub under : IsTagOf who asking.number made.tag

-- the reply names the server that answered
abbrev pub AnswersAgain : (place : ℕ) → Result Written WriteFault → Reply → Type 0
AnswersAgain place answer reply = (server : ServerId) × (server.index ≡ place) × (reply ≡ replies.AskedAgain server answer)

-- Where the Write is held, nothing is done, and it is answered as it was when it was made; else it is asked for, under the tag that it had.
pub data AgainStep (old : Machine) (who : ℕ) (reply : Reply) (new : Machine) : Type 0 where
  skipped : CannotRepeat old who → reply ≡ replies.Skipped → new ≡ old → AgainStep old who reply new
  known : (session : SessionSets) (asking : Asking) (entry : Entry) (made : Made) (accepted : Accepted) → MayRepeat old who session asking → HoldsAsked old who asking made
      → IsAccepted made accepted → AnswersAgain asking.server (Ok (written.Known accepted)) reply → IsEntry who asking.server session (whats.Write accepted.wid accepted.stamp accepted.deps) entry
      → new ≡ with_answer old who session (Some asking) (record { entry = entry; database = made.past; made = Some made }) → AgainStep old who reply new
  asked : (session : SessionSets) (asking : Asking) (answer : Result Written WriteFault) → MayRepeat old who session asking → ((made : Made) → ¬ HoldsAsked old who asking made)
      → AskStep old who session asking answer new → AnswersAgain asking.server answer reply → AgainStep old who reply new

-- ---- the answer in flight

-- what the session learns: a read adds what it was served from to the read-set, and an accepted Write its name to the write-set, which is
-- then asked no more
abbrev pub told : What → Answered → SessionSets → SessionSets
told (whats.Read key vector) answered session = record session { reads = session.reads ++ names answered.database }
told (whats.Write wid stamp deps) answered session = record session { writes = session.writes ++ wid ∷ []; asked = None }
told whats.Refused answered session = session

-- an operation is served when an answer that is no refusal reached its session
abbrev pub served_by : What → Answered → List Answered
served_by (whats.Read key vector) answered = answered ∷ []
served_by (whats.Write wid stamp deps) answered = answered ∷ []
served_by whats.Refused answered = []

-- nothing is in flight to the session any more
abbrev pub landed : SessionSets → SessionSets
landed session = record session { flight = None }

-- and its entry waits to be entered in the book
abbrev pub heard : Answered → SessionSets → SessionSets
heard answered session = record (told answered.entry.what answered session) { flight = None; waiting = session.waiting ++ answered.entry ∷ [] }

-- the answer is in flight to the session
pub record IsInFlight (old : Machine) (who : ℕ) (session : SessionSets) (answered : Answered) : Type 0 where
  pub there : old.sessions who ≡ Some session
  pub flight : session.flight ≡ Some answered

abbrev pub NothingIsInFlight : Machine → ℕ → Type 0
NothingIsInFlight old who = (session : SessionSets) (answered : Answered) → ¬ IsInFlight old who session answered

pub data DeliverStep (old : Machine) (who : ℕ) (reply : Reply) (new : Machine) : Type 0 where
  skipped : NothingIsInFlight old who → reply ≡ replies.Skipped → new ≡ old → DeliverStep old who reply new
  delivered : (session : SessionSets) (answered : Answered) → IsInFlight old who session answered → reply ≡ replies.Delivered
      → new ≡ record (with_session old who (heard answered session)) { served = old.served ++ served_by answered.entry.what answered } → DeliverStep old who reply new

pub data LoseStep (old : Machine) (who : ℕ) (reply : Reply) (new : Machine) : Type 0 where
  skipped : NothingIsInFlight old who → reply ≡ replies.Skipped → new ≡ old → LoseStep old who reply new
  dropped : (session : SessionSets) (answered : Answered) → IsInFlight old who session answered → reply ≡ replies.Dropped
      → new ≡ with_session old who (landed session) → LoseStep old who reply new

-- ---- anti-entropy

pub data OfferStep (old : Machine) (place : ℕ) (reply : Reply) (new : Machine) : Type 0 where
  skipped : (¬ IsRunning old place) ⊎ (MAX_NUMBER < length old.offers) → reply ≡ replies.Skipped → new ≡ old → OfferStep old place reply new
  kept : IsRunning old place → length old.offers ≤ MAX_NUMBER → reply ≡ replies.Kept (length old.offers)
      → new ≡ record old { offers = old.offers ++ record { server = place; database = writes (old.servers place).held } ∷ [] } → OfferStep old place reply new

-- just those that the server holds and the offer hasn't, in stamp order
pub record AreLacking (offered : List Write) (held lacking : List Made) : Type 0 where
  pub those : (made : Made) → Contains lacking made ↔ (Contains held made × (¬ Contains (names offered) made.write.wid))
  pub in_order : AllPairs (λ a b. is_before a.write.stamp b.write.stamp ≡ true) lacking

-- the server runs, the offer is there, and the last of so many items, or the next where there are none, has a number
pub record MayCollect (old : Machine) (place offer : ℕ) (offered : List Write) (lacking : List Made) : Type 0 where
  pub server : IsRunning old place
  pub by : ℕ
  pub there : slice_get old.offers offer ≡ Some (record { server = by; database = offered })
  pub those : AreLacking offered (old.servers place).held lacking
  pub numbered : length old.items + max (length lacking) 1 ≤ MAX_NUMBER + 1

abbrev pub CannotCollect : Machine → (place offer : ℕ) → Type 0
CannotCollect old place offer = (offered : List Write) (lacking : List Made) → ¬ MayCollect old place offer offered lacking

pub data CollectStep (old : Machine) (place offer : ℕ) (reply : Reply) (new : Machine) : Type 0 where
  skipped : CannotCollect old place offer → reply ≡ replies.Skipped → new ≡ old → CollectStep old place offer reply new
  no_memory : (by : ℕ) (offered : List Write) (made : Made) → IsRunning old place → slice_get old.offers offer ≡ Some (record { server = by; database = offered })
      → Contains (old.servers place).held made → (¬ Contains (names offered) made.write.wid) → reply ≡ replies.NoMemory → new ≡ old → CollectStep old place offer reply new
  flown : (offered : List Write) (lacking : List Made) → MayCollect old place offer offered lacking → reply ≡ replies.Flown (length old.items) (length lacking)
      → new ≡ record old { items = old.items ++ lacking } → CollectStep old place offer reply new

-- a Write of its name is held
abbrev pub HoldsName : ServerSets → Made → Type 0
HoldsName server made = Contains (names (writes server.held)) made.write.wid

-- the server is up, and the Write is new to it
pub record IsNew (server : ServerSets) (made : Made) : Type 0 where
  pub missing : ¬ HoldsName server made
  pub up : server.doubt ≡ None

-- and all of its past is held (the prefix property, Petersen et al. 1997)
pub record IsNext (server : ServerSets) (made : Made) : Type 0 where
  pub fresh : IsNew server made
  pub past : IsWithin (names made.past) (names (writes server.held))

-- Why an item isn't taken. The cases stand in their order: each says that those before it don't hold.
abbrev pub RefusesItem : ℕ → ServerSets → Made → TakeFault → Type 0
RefusesItem limit server made taking.Conflict = ⊥
RefusesItem limit server made taking.Down = (¬ HoldsName server made) × IsSome server.doubt
RefusesItem limit server made taking.OwnLost = ⊥
RefusesItem limit server made taking.Gap = IsNew server made × (¬ IsWithin (names made.past) (names (writes server.held)))
RefusesItem limit server made taking.BadStamp = ⊥
RefusesItem limit server made taking.LogFull = IsNext server made × (length server.held ≡ limit)
RefusesItem limit server made taking.OutOfMemory = IsNext server made × (length server.held < limit)
RefusesItem limit server made taking.Journal = ⊥

-- the server runs, and the item is there
pub record IsGiven (old : Machine) (place item : ℕ) (made : Made) : Type 0 where
  pub server : IsRunning old place
  pub there : slice_get old.items item ≡ Some made

pub data TakeStep (old : Machine) (place item : ℕ) (reply : Reply) (new : Machine) : Type 0 where
  skipped : ((made : Made) → ¬ IsGiven old place item made) → reply ≡ replies.Skipped → new ≡ old → TakeStep old place item reply new
  had : (made : Made) → IsGiven old place item made → HoldsName (old.servers place) made → reply ≡ replies.Took (Ok Had) → new ≡ old → TakeStep old place item reply new
  refused : (made : Made) (fault : TakeFault) → IsGiven old place item made → RefusesItem old.limit (old.servers place) made fault
      → reply ≡ replies.Took (Err fault) → new ≡ old → TakeStep old place item reply new
  doubted : (made : Made) → IsGiven old place item made → IsNext (old.servers place) made → length (old.servers place).held < old.limit
      → reply ≡ replies.Took (Err taking.Journal) → new ≡ with_server old place (with_doubt (old.servers place) made) → TakeStep old place item reply new
  taken : (made : Made) → IsGiven old place item made → IsNext (old.servers place) made → length (old.servers place).held < old.limit
      → reply ≡ replies.Took (Ok New) → new ≡ with_server old place (with_write (old.servers place) made) → TakeStep old place item reply new

-- ---- failures

-- a device call of the server is to fail: nothing here
pub data FuseStep (old : Machine) (place call : ℕ) (reply : Reply) (new : Machine) : Type 0 where
  skipped : (old.count ≤ place) ⊎ (call ≡ 0) → reply ≡ replies.Skipped → new ≡ old → FuseStep old place call reply new
  fused : place < old.count → 0 < call → reply ≡ replies.Fused → new ≡ old → FuseStep old place call reply new

-- up, with what was held
abbrev pub up_again : ServerSets → ServerSets
up_again server = record server { doubt = None; stopped = false }

-- its start was refused: what was held and what was in doubt stand
abbrev pub stopped_now : ServerSets → ServerSets
stopped_now server = record server { stopped = true }

-- An honest opening of its journal brings a server up: with the Writes that it held, and the one in doubt is forgotten; or with those and
-- the one in doubt, which is adopted.
abbrev pub Recovers : (old : ServerSets) → (adopted : Option Made) → (new : ServerSets) → Type 0
Recovers old None new = new ≡ up_again old
Recovers old (Some made) new = (old.doubt ≡ Some made) × (new ≡ with_write (up_again old) made)

-- the name of it
abbrev pub wid_of : Made → Wid
wid_of made = made.write.wid

-- Why a server that runs isn't reopened: it is up, a device call failed, or memory was refused.
abbrev pub RefusesReopening : ServerSets → ReopenFault → Type 0
RefusesReopening server reopening.NotDown = server.doubt ≡ None
RefusesReopening server (reopening.Journal Device) = IsSome server.doubt
RefusesReopening server (reopening.Journal NotAJournal) = ⊥
RefusesReopening server (reopening.Journal OtherServer) = ⊥
RefusesReopening server reopening.Lost = ⊥
RefusesReopening server (reopening.BadRecord at) = ⊥
RefusesReopening server reopening.OutOfMemory = IsSome server.doubt

pub data ReopenStep (old : Machine) (place : ℕ) (reply : Reply) (new : Machine) : Type 0 where
  skipped : (¬ IsRunning old place) → reply ≡ replies.Skipped → new ≡ old → ReopenStep old place reply new
  refused : (fault : ReopenFault) → IsRunning old place → RefusesReopening (old.servers place) fault → reply ≡ replies.Reopened (Err fault) → new ≡ old → ReopenStep old place reply new
  reopened : (adopted : Option Made) (server : ServerSets) → IsRunning old place → IsSome (old.servers place).doubt → Recovers (old.servers place) adopted server
      → reply ≡ replies.Reopened (Ok (record { adopted = option_map wid_of adopted })) → new ≡ with_server old place server → ReopenStep old place reply new

-- The server is stopped and started on what its device has, be it up, down or stopped; a start is refused for a device call or for memory
-- alone.
pub data RestartStep (old : Machine) (place : ℕ) (reply : Reply) (new : Machine) : Type 0 where
  skipped : old.count ≤ place → reply ≡ replies.Skipped → new ≡ old → RestartStep old place reply new
  refused : (fault : StartFault) → place < old.count → IsHonestRefusal fault → reply ≡ replies.Restarted (Err fault)
      → new ≡ with_server old place (stopped_now (old.servers place)) → RestartStep old place reply new
  restarted : (adopted : Option Made) (server : ServerSets) → place < old.count → Recovers (old.servers place) adopted server
      → reply ≡ replies.Restarted (Ok (length server.held)) → new ≡ with_server old place server → RestartStep old place reply new

-- ---- the book

-- the session's oldest delivered operation that isn't in the book yet, where the book has room for it
pub record MayFile (old : Machine) (who : ℕ) (session : SessionSets) (entry : Entry) (later : List Entry) : Type 0 where
  pub there : old.sessions who ≡ Some session
  pub waits : session.waiting ≡ entry ∷ later
  pub room : length old.filed < old.capacity

pub data FileStep (old : Machine) (who : ℕ) (reply : Reply) (new : Machine) : Type 0 where
  skipped : ((session : SessionSets) (entry : Entry) (later : List Entry) → ¬ MayFile old who session entry later) → reply ≡ replies.Skipped → new ≡ old → FileStep old who reply new
  filed : (session : SessionSets) (entry : Entry) (later : List Entry) → MayFile old who session entry later → reply ≡ replies.Filed
      → new ≡ record (with_session old who (record session { waiting = later })) { filed = old.filed ++ entry ∷ [] } → FileStep old who reply new

-- ---- an event

-- From old, the event may get this reply and leave new.
abbrev pub Step : Machine → Event → Reply → Machine → Type 0
Step old (events.Read session server key) reply new = ReadStep old session.index server.index key reply new
Step old (events.Write session server program) reply new = WriteStep old session.index server.index program reply new
Step old (events.Again session) reply new = AgainStep old session.index reply new
Step old (events.Deliver session) reply new = DeliverStep old session.index reply new
Step old (events.Lose session) reply new = LoseStep old session.index reply new
Step old (events.Offer server) reply new = OfferStep old server.index reply new
Step old (events.Collect server offer) reply new = CollectStep old server.index offer reply new
Step old (events.Take server item) reply new = TakeStep old server.index item reply new
Step old (events.Fuse server call front) reply new = FuseStep old server.index call reply new
Step old (events.Reopen server) reply new = ReopenStep old server.index reply new
Step old (events.Restart server) reply new = RestartStep old server.index reply new
Step old (events.File session) reply new = FileStep old session.index reply new
