-- What is printed of an operation, and of what a session asks for: this project's own lines.
use Rattle.std.specs.Prelude.{◌≡◌, ℕ, Bool, true, false, List, ◌++◌, Option, None, Some, Result, Ok, Err, codes, decimal, option_and_then}
use Rattle.bayou_answers.specs.declared.answer.Answer.TheVariants as answers
use Rattle.bayou_base.specs.declared.asks.Asks.{Asks}
use Rattle.bayou_base.specs.declared.session.SessionId.{SessionId}
use Rattle.bayou_connect.specs.Plans.{asks_said}
use Rattle.bayou_connect.specs.declared.told.ServerTold.{ServerTold}
use Rattle.bayou_connect.specs.declared.told.ServerTold.TheVariants as told
use Rattle.bayou_print.specs.Connected.{away_text}
use Rattle.bayou_base.specs.declared.wid.Wid.{Wid}
use Rattle.bayou_wire.specs.declared.lookup.Became.{Became}
use Rattle.bayou_wire.specs.declared.lookup.Became.TheVariants.{Updated, Merged, Nothing}
use Rattle.bayou_wire.specs.declared.lookup.Placed.{Placed}
use Rattle.bayou_print.specs.Printed.{last_text}
use Rattle.bayou_print.specs.declared.connected.TheConstants.{REOPEN_AWAY}
use Rattle.bayou_answers.specs.declared.answer.Recovery.{Recovery}
use Rattle.bayou_base.specs.declared.server.ServerId.{ServerId}
use Rattle.bayou_client.specs.declared.fault.LinkFault.{LinkFault}
use Rattle.bayou_connect.specs.Operating.{recovery_told}

-- the line of what an operation heard, with its key if it is a read
abbrev pub told_text : (servers : ℕ) → SessionId → (key : Option (List ℕ)) → ServerTold → List ℕ
told_text servers who key told.Away = away_text who.index
told_text servers who (Some key) (told.Seen seen) = last_text servers (answers.Read who key seen)
told_text servers who None (told.Seen seen) = last_text servers (answers.Lost who)
told_text servers who key (told.Rows page) = last_text servers (answers.Lost who)
told_text servers who key (told.Fate fate) = last_text servers (answers.Lost who)
told_text servers who key (told.Accepted accepted) = last_text servers (answers.Wrote who accepted)
told_text servers who key (told.Refused fault) = last_text servers (answers.Refused who fault)
told_text servers who key told.Lost = last_text servers (answers.Lost who)

-- it was served
abbrev pub is_service : ServerTold → Bool
is_service told.Away = false
is_service (told.Seen seen) = true
is_service (told.Rows page) = true
is_service (told.Fate fate) = true
is_service (told.Accepted accepted) = true
is_service (told.Refused fault) = false
is_service told.Lost = false

-- the line of what a session asks for, in words that ask for just that
abbrev pub IsAsksLine : SessionId → Asks → List ℕ → Type 0
IsAsksLine who asks line =
    (words : List ℕ) × (asks_said words ≡ Some asks) × (line ≡ codes "session " ++ (decimal who.index ++ (codes " asks " ++ (words ++ codes "\n"))))

-- an update or an alternative was applied
abbrev pub was_applied : Became → Bool
was_applied Updated = true
was_applied (Merged alternative) = true
was_applied Nothing = false

-- a Write changes something, as far as is known
abbrev pub changes_something : Option Placed → Bool
changes_something None = true
changes_something (Some placed) = was_applied placed.became

-- the line of a Write that did nothing
abbrev pub nothing_text : SessionId → List ℕ
nothing_text who = decimal who.index ++ codes " did nothing\n"

-- what became of a server that was to open its journal again, if it was reached and a reply tells that
abbrev pub recovery_of : ServerId → Option (Result (Option Wid) LinkFault) → Option Recovery
recovery_of server told = option_and_then (recovery_told server) told

-- the line of it
abbrev pub recovery_text : (servers : ℕ) → Option Recovery → List ℕ
recovery_text servers None = REOPEN_AWAY.now
recovery_text servers (Some recovery) = last_text servers (answers.Recovered recovery)

abbrev pub reopened_text : (servers : ℕ) → ServerId → Option (Result (Option Wid) LinkFault) → List ℕ
reopened_text servers server told = recovery_text servers (recovery_of server told)

-- it has opened its journal again
abbrev pub is_reopened : Option (Result (Option Wid) LinkFault) → Bool
is_reopened None = false
is_reopened (Some (Ok adopted)) = true
is_reopened (Some (Err fault)) = false
