-- What a line of a script stands for: events of the machine of all servers (Terry et al. 1994, 1995), and their replies.
use Rattle.std.specs.Prelude.{◌≡◌, ℕ, zero, suc, ◌+◌, ◌==◌, Bool, true, false, IsTrue, List, [], ◌∷◌, ◌++◌, Option, None, Some, Result, Ok, Err, length, map}
use Rattle.std.specs.List.{list_any}
use Rattle.bayou_base.specs.declared.answer.Seen.{Seen}
use Rattle.bayou_base.specs.declared.server.ServerId.{ServerId}
use Rattle.bayou_base.specs.declared.session.SessionId.{SessionId}
use Rattle.bayou_base.specs.declared.limits.TheConstants.{MAX_PLACES}
use Rattle.bayou_base.specs.declared.wid.Wid.{Wid}
use Rattle.bayou_lang.specs.declared.program.Program.{Program}
use Rattle.bayou_script.specs.Capacity.{operation_of}
use Rattle.bayou_server.specs.declared.answer.Took.{Took}
use Rattle.bayou_server.specs.declared.answer.Written.{Written}
use Rattle.bayou_server.specs.declared.fault.Behind.{Behind}
use Rattle.bayou_server.specs.declared.fault.ReopenFault.{ReopenFault}
use Rattle.bayou_server.specs.declared.fault.TakeFault.{TakeFault}
use Rattle.bayou_server.specs.declared.fault.WriteFault.{WriteFault}
use Rattle.bayou_server.specs.Faults.{reopen_refusal}
use Rattle.bayou_server.specs.Honest.{IsHonestAnswer}
use Rattle.bayou_server.specs.TakesAll.{hads, news}
use Rattle.bayou_peer.specs.declared.fault.PullFault.{PullFault}
use Rattle.bayou_peer.specs.declared.fault.PullFault.TheVariants.{Refused as RefusedItem, Stream}
use Rattle.bayou_peer.specs.declared.pulling.Pulled.{Pulled}
use Rattle.bayou_peer.specs.declared.pulling.PullStopped.{PullStopped}
use Rattle.bayou_text.specs.Said.{Said, session, write, read, again, drop, log, fuse, lose, reopen, restart, pull, resend, totals, judge, survey, book, phase}
use Rattle.bayou_answers.specs.declared.answer.Answer.{Answer}
use Rattle.bayou_answers.specs.declared.answer.Answer.TheVariants.{Lost, NotAgain, Recovered, Exchanged}
use Rattle.bayou_answers.specs.declared.answer.Recovery.{Recovery}
use Rattle.bayou_answers.specs.declared.answer.Recovery.TheVariants as recoveries
use Rattle.bayou_answers.specs.declared.answer.Transfer.TheVariants.{NotRunning, Ended}
use Rattle.bayou_machine.specs.ScriptServer.{read_answer, write_answer}
use Rattle.bayou_world.specs.declared.event.Event.{Event}
use Rattle.bayou_world.specs.declared.event.Event.TheVariants as events
use Rattle.bayou_world.specs.declared.reply.Reply.{Reply}
use Rattle.bayou_world.specs.declared.reply.Reply.TheVariants as replies
use Rattle.bayou_world.specs.Machine.{Machine, SessionSets}
use Rattle.bayou_world.specs.Runs.{Run}

-- the reply is heard, and its entry filed; or it is lost
pub data Ends (who : SessionId) (told : Answer) : Answer → List Event → List Reply → Type 0 where
  heard : Ends who told told (events.Deliver who ∷ events.File who ∷ []) (replies.Delivered ∷ replies.Filed ∷ [])
  lost : Ends who told (Lost who) (events.Lose who ∷ []) (replies.Dropped ∷ [])

-- so many items, from this one on, are given to the server
abbrev pub takes : ServerId → (first number : ℕ) → List Event
takes to first zero = []
takes to first (suc number) = events.Take to first ∷ takes to (first + 1) number

-- what became of the items that were given
abbrev pub tells_took : Result Took TakeFault → Reply
tells_took told = replies.Took told

-- the items before the one at which a pull ended were taken, and are counted
pub record AreCounted (tooks : List Took) (pulled : Pulled) : Type 0 where
  pub taken : pulled.taken ≡ news tooks
  pub had : pulled.had ≡ hads tooks

-- what the items that were given came to, and how the pull ended by that
abbrev pub EndsBy : List Took → List (Result Took TakeFault) → PullFault → Type 0
EndsBy tooks told (RefusedItem fault) = told ≡ map (λ (took : Took). Ok took) tooks ++ Err fault ∷ []
EndsBy tooks told (Stream fault) = told ≡ map (λ (took : Took). Ok took) tooks

abbrev pub IsEnd : List (Result Took TakeFault) → Result Pulled PullStopped → Type 0
IsEnd told (Ok pulled) = (tooks : List Took) × AreCounted tooks pulled × (told ≡ map (λ (took : Took). Ok took) tooks)
IsEnd told (Err stopped) = (tooks : List Took) × AreCounted tooks stopped.before × EndsBy tooks told stopped.fault

-- lines that do nothing to servers and sessions, as all see them
abbrev pub is_quiet : Said → Bool
is_quiet (session who asks) = true
is_quiet (drop who) = true
is_quiet (log place) = true
is_quiet (fuse place calls kept) = true
is_quiet (lose place count) = true
is_quiet totals = true
is_quiet judge = true
is_quiet survey = true
is_quiet book = true
is_quiet phase = true
is_quiet _ = false

-- a server that is stopped does nothing, nor does a start that is refused change what it holds
abbrev pub IsOfStopped : Recovery → Type 0
IsOfStopped recoveries.NotRunning = Unit {0}
IsOfStopped (recoveries.NotRestarted fault) = Unit {0}
IsOfStopped (recoveries.Reopened server adopted) = ⊥
IsOfStopped (recoveries.NotReopened refusal) = ⊥
IsOfStopped (recoveries.Restarted server holds dropped) = ⊥

-- the device of the server at this place loses bytes by the line
abbrev pub loses : (place : ℕ) → Said → Bool
loses place (lose other count) = other == place
loses place _ = false

-- or by one of these lines
abbrev pub has_lost : (place : ℕ) → List Said → Bool
has_lost place front = list_any (loses place) front

-- The events and the replies that tell a line and its answer. An operation of a session that has no place left is none, nor is one that is asked again
-- where there is nothing to ask, nor what a stopped server is asked for. A pull is an Offer, a Collect of that, and a Take of each item; a resend
-- collects for the first offer that there is, of a server that held nothing. A reopening that finds another journal than the server's is no event: bytes of that were lost
-- by a line before.
pub data IsLine (front : List Said) (old : Machine) : Said → Answer → List Event → List Reply → Type 0 where
  quiet : (said : Said) (answer : Answer) → IsTrue (is_quiet said) → IsLine front old said answer [] []
  no_place : (said : Said) (who : SessionId) (session : SessionSets) → operation_of said ≡ Some who.index → old.sessions who.index ≡ Some session → session.begun ≡ MAX_PLACES → IsLine front old said (Lost who) [] []
  not_again : (who : SessionId) (session : SessionSets) → old.sessions who.index ≡ Some session → session.asked ≡ None → IsLine front old (again who.index) (NotAgain who) [] []
  a_read : (who : SessionId) (place : ServerId) (key : List ℕ) (result : Result Seen Behind) (answer : Answer) (es : List Event) (rs : List Reply) → Ends who (read_answer who key result) answer es rs
      → IsLine front old (read who.index place.index key) answer (events.Read who place key ∷ es) (replies.Read result ∷ rs)
  a_write : (who : SessionId) (place : ServerId) (program : Program) (result : Result Written WriteFault) (answer : Answer) (es : List Event) (rs : List Reply) → Ends who (write_answer who result) answer es rs
      → IsLine front old (write who.index place.index program) answer (events.Write who place program ∷ es) (replies.Wrote result ∷ rs)
  an_again : (who : SessionId) (place : ServerId) (result : Result Written WriteFault) (answer : Answer) (es : List Event) (rs : List Reply) → Ends who (write_answer who result) answer es rs
      → IsLine front old (again who.index) answer (events.Again who ∷ es) (replies.AskedAgain place result ∷ rs)
  a_pull : (to source : ServerId) (cut : Option ℕ) (number : ℕ) (told : List (Result Took TakeFault)) (result : Result Pulled PullStopped) → IsEnd told result
      → IsLine front old (pull to.index source.index cut) (Exchanged (Ended result))
      (events.Offer to ∷ events.Collect source (length old.offers) ∷ takes to (length old.items) (length told))
      (replies.Kept (length old.offers) ∷ replies.Flown (length old.items) number ∷ map tells_took told)
  a_resend : (to source : ServerId) (number : ℕ) (told : List (Result Took TakeFault)) (result : Result Pulled PullStopped) → IsEnd told result
      → IsLine front old (resend to.index source.index) (Exchanged (Ended result)) (events.Collect source 0 ∷ takes to (length old.items) (length told))
      (replies.Flown (length old.items) number ∷ map tells_took told)
  not_running : (said : Said) → IsLine front old said (Exchanged NotRunning) [] []
  of_stopped : (said : Said) (recovery : Recovery) → IsOfStopped recovery → IsLine front old said (Recovered recovery) [] []
  reopened : (place : ServerId) (adopted : Option Wid) → IsLine front old (reopen place.index) (Recovered (recoveries.Reopened place adopted))
      (events.Reopen place ∷ []) (replies.Reopened (Ok (record { adopted = adopted })) ∷ [])
  not_reopened : (place : ServerId) (fault : ReopenFault) → IsHonestAnswer (Err fault) → IsLine front old (reopen place.index) (Recovered (recoveries.NotReopened (reopen_refusal fault)))
      (events.Reopen place ∷ []) (replies.Reopened (Err fault) ∷ [])
  finds_another : (place : ServerId) (fault : ReopenFault) → has_lost place.index front ≡ true → (¬ IsHonestAnswer (Err fault)) → IsLine front old (reopen place.index) (Recovered (recoveries.NotReopened (reopen_refusal fault))) [] []
  restarted : (place : ServerId) (holds dropped : ℕ) → IsLine front old (restart place.index) (Recovered (recoveries.Restarted place holds dropped))
      (events.Restart place ∷ []) (replies.Restarted (Ok holds) ∷ [])

-- a line after these, and what it does to the machine
pub record IsTurn (front : List Said) (old : Machine) (said : Said) (answer : Answer) (new : Machine) : Type 0 where
  pub events : List Event
  pub replies : List Reply
  pub is : IsLine front old said answer events replies
  pub run : Run old events replies new
