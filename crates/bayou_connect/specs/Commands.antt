-- What a script's line does where lines come one by one: this project's own.
use Rattle.std.specs.Prelude.{◌≡◌, ◌≢◌, ◌&&◌, ◌⊎◌, ℕ, All, Bool, false, true, List, MatchBool, MatchOption, Option, None, Some, Result, slice_get, slice_set}
use Rattle.bayou_answers.specs.declared.answer.Answer.TheVariants as answers
use Rattle.bayou_base.specs.declared.asks.Asks.{Asks}
use Rattle.bayou_base.specs.declared.server.ServerId.{ServerId}
use Rattle.bayou_base.specs.declared.session.SessionId.{SessionId}
use Rattle.bayou_base.specs.declared.wid.Wid.{Wid}
use Rattle.bayou_client.specs.declared.fault.LinkFault.{LinkFault}
use Rattle.bayou_connect.specs.Anywhere.{AsksServer}
use Rattle.bayou_connect.specs.Claims.{IsMade}
use Rattle.bayou_connect.specs.Desks.{IsSameSeat}
use Rattle.bayou_connect.specs.Printing.{is_reopened, is_service, reopened_text, told_text}
use Rattle.bayou_connect.specs.Sessions.{IsOpenedFrom, kept_of}
use Rattle.bayou_connect.specs.declared.asking.Requested.{Requested}
use Rattle.bayou_connect.specs.declared.asking.Requested.TheVariants as attempts
use Rattle.bayou_connect.specs.declared.desk.PersonDesk.{PersonDesk}
use Rattle.bayou_connect.specs.declared.desk.MadeWrite.{MadeWrite}
use Rattle.bayou_connect.specs.declared.store.Store.{Store}
use Rattle.bayou_connect.specs.declared.told.ServerTold.{ServerTold}
use Rattle.bayou_print.specs.Printed.{last_text}
use Rattle.bayou_streams.specs.Account.{Account, TakesBytes}
use Rattle.bayou_text.specs.declared.command.Attempt.{Attempt as Said}
use Rattle.bayou_text.specs.declared.command.Attempt.TheVariants as said
use Rattle.bayou_text.specs.declared.command.Command.{Command}
use Rattle.bayou_text.specs.declared.command.Command.TheVariants as commands
use Rattle.bayou_text.specs.declared.command.Operation.{Operation}
use Rattle.bayou_text.specs.declared.command.TrialKind.{TrialKind}
use Rattle.bayou_text.specs.declared.command.TrialKind.TheVariants as trials

-- A session's operation at one server, with its key if it is a read: what it hears is printed, and it is noted whether that is what was asked for.
pub record AsksOnce (who : SessionId) (server : ServerId) (key : Option (List ℕ)) (attempt : Requested) (old new : PersonDesk) (before after : Account) (told : ServerTold) : Type 0 where
  pub asked : AsksServer who server attempt old.store new.store told
  pub printed : TakesBytes before after (told_text old.servers who key told)
  pub served : new.is_served ≡ (old.is_served && is_service told)
  pub seat : IsSameSeat old new

-- no server of this number is at hand, or the session isn't open
abbrev pub IsNowhere : Store → SessionId → ServerId → Type 0
IsNowhere store who server = All (λ access. access.place.id ≢ server) store.accesses.items ⊎ (kept_of store.sessions.items who ≡ None)

-- At the server that the line names, and nowhere else, the session does this; where that isn't at hand, or the session isn't open, nothing is done.
abbrev pub OperatesAt : SessionId → ServerId → (key : Option (List ℕ)) → Requested → (old new : PersonDesk) → (before after : Account) → (done : Bool) → Type 0
OperatesAt who server key attempt old new before after done = MatchBool done
    ((told : ServerTold) × AsksOnce who server key attempt old new before after told)
    (IsNowhere old.store who server × (new ≡ old) × (after ≡ before))

-- it is printed that the session has no Write that may be asked again
abbrev pub TellsNoneAgain : SessionId → (old new : PersonDesk) → (before after : Account) → Type 0
TellsNoneAgain who old new before after = (new ≡ old) × TakesBytes before after (last_text old.servers (answers.NotAgain who))

-- The session's Write that may be asked again, once more, at the server that was asked for it last.
abbrev pub AsksAgain : SessionId → (old new : PersonDesk) → (before after : Account) → (done : Bool) → Type 0
AsksAgain who old new before after done = MatchOption (kept_of old.store.sessions.items who)
    ((done ≡ false) × (new ≡ old) × (after ≡ before))
    (λ kept. MatchOption kept.asked ((done ≡ true) × TellsNoneAgain who old new before after)
    (λ asked. OperatesAt who asked.server None attempts.Again old new before after done))

-- The same by a short line: where that server isn't at hand, nothing is done.
abbrev pub WritesAgainAt : SessionId → ServerId → (old new : PersonDesk) → (before after : Account) → Option MadeWrite → Type 0
WritesAgainAt who server old new before after made =
    ((told : ServerTold) × AsksOnce who server None attempts.Again old new before after told × IsMade new.store.accesses.items told made)
    ⊎ (All (λ access. access.place.id ≢ server) old.store.accesses.items × (made ≡ None) × (new ≡ old) × (after ≡ before))

-- and as what it was accepted, if it was
abbrev pub WritesAgain : SessionId → (old new : PersonDesk) → (before after : Account) → Option MadeWrite → Type 0
WritesAgain who old new before after made = MatchOption (kept_of old.store.sessions.items who)
    ((made ≡ None) × (new ≡ old) × (after ≡ before))
    (λ kept. MatchOption kept.asked ((made ≡ None) × TellsNoneAgain who old new before after)
    (λ asked. WritesAgainAt who asked.server old new before after made))

-- an operation, by what the line says
abbrev pub OperatesAs : SessionId → Said → (old new : PersonDesk) → (before after : Account) → (done : Bool) → Type 0
OperatesAs who (said.Write server program) old new before after done = OperatesAt who server None (attempts.Write program) old new before after done
OperatesAs who (said.Read server key) old new before after done = OperatesAt who server (Some key) (attempts.Read key) old new before after done
OperatesAs who said.Again old new before after done = AsksAgain who old new before after done

abbrev pub Operates : Operation → (old new : PersonDesk) → (before after : Account) → (done : Bool) → Type 0
Operates operation old new before after done = OperatesAs operation.session operation.attempt old new before after done

-- The session is opened, unless a line did so before.
abbrev pub Opens : SessionId → Asks → (old new : PersonDesk) → (done : Bool) → Type 0
Opens who asks old new done = MatchBool done
    ((slice_get old.opened who.index ≡ Some false) × (new.opened ≡ slice_set old.opened who.index true)
    × IsOpenedFrom old.first_number who old.run asks old.store.sessions.items new.store.sessions.items)
    ((slice_get old.opened who.index ≢ Some false) × (new ≡ old))

-- The server opens its journal again, if it is at hand: what that came to is printed, and it is noted whether that is what was asked for.
abbrev pub Reopens : ServerId → (old new : PersonDesk) → (before after : Account) → (done : Bool) → Type 0
Reopens server old new before after done = MatchBool done
    ((told : Option (Result (Option Wid) LinkFault)) × (new.is_served ≡ (old.is_served && is_reopened told))
    × TakesBytes before after (reopened_text old.servers server told))
    (All (λ access. access.place.id ≢ server) old.store.accesses.items × (new ≡ old) × (after ≡ before))

-- what a trial of a server does: only that it opens its journal again can be done here
abbrev pub Tries : TrialKind → ServerId → (old new : PersonDesk) → (before after : Account) → (done : Bool) → Type 0
Tries trials.Reopen server old new before after done = Reopens server old new before after done
Tries (trials.Fuse failure) server old new before after done = (done ≡ false) × (new ≡ old) × (after ≡ before)
Tries (trials.Lose bytes) server old new before after done = (done ≡ false) × (new ≡ old) × (after ≡ before)
Tries trials.Restart server old new before after done = (done ≡ false) × (new ≡ old) × (after ≡ before)

-- What a script's line does, and whether that can be done here: what only a script does, which has its servers at hand, can't.
abbrev pub DoesCommand : Command → (old new : PersonDesk) → (before after : Account) → (done : Bool) → Type 0
DoesCommand (commands.Session who asks) old new before after done = Opens who asks old new done × (after ≡ before)
DoesCommand (commands.Operation operation) old new before after done = Operates operation old new before after done
DoesCommand (commands.Trial trial) old new before after done = Tries trial.kind trial.server old new before after done
DoesCommand (commands.Drop who) old new before after done = (done ≡ false) × (new ≡ old) × (after ≡ before)
DoesCommand (commands.Exchange exchange) old new before after done = (done ≡ false) × (new ≡ old) × (after ≡ before)
DoesCommand (commands.Question question) old new before after done = (done ≡ false) × (new ≡ old) × (after ≡ before)
DoesCommand commands.Phase old new before after done = (done ≡ false) × (new ≡ old) × (after ≡ before)
