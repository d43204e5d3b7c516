-- How often device calls of a server failed, as the replies tell, and how often they were to: this project's own.
use Rattle.std.specs.Prelude.{ℕ, ◌+◌, ◌<◌, ◌≤◌, ◌==◌, Bool, true, false, List, [], ◌∷◌, Result, Ok, Err, take, if◌then◌else◌}
use Rattle.bayou_server.specs.declared.answer.Written.{Written}
use Rattle.bayou_server.specs.declared.fault.JournalFault.TheVariants.{Device, NotAJournal, OtherServer}
use Rattle.bayou_server.specs.declared.fault.ReopenFault.TheVariants as reopening
use Rattle.bayou_server.specs.declared.fault.StartFault.TheVariants as starting
use Rattle.bayou_server.specs.declared.fault.TakeFault.TheVariants as taking
use Rattle.bayou_server.specs.declared.fault.WriteFault.{WriteFault}
use Rattle.bayou_server.specs.declared.fault.WriteFault.TheVariants as writing
use Rattle.bayou_world.specs.declared.event.Event.{Event}
use Rattle.bayou_world.specs.declared.event.Event.TheVariants as events
use Rattle.bayou_world.specs.declared.reply.Reply.{Reply}
use Rattle.bayou_world.specs.declared.reply.Reply.TheVariants as replies

-- a device call failed as a Write was to be stored
abbrev pub has_doubt : Result Written WriteFault → Bool
has_doubt (Err writing.Journal) = true
has_doubt (Err writing.TagUsed) = false
has_doubt (Err writing.Down) = false
has_doubt (Err (writing.Behind vector)) = false
has_doubt (Err writing.LogFull) = false
has_doubt (Err writing.OutOfMemory) = false
has_doubt (Ok written) = false

-- a device call failed
abbrev pub tells_fault : Reply → Bool
tells_fault (replies.Wrote answer) = has_doubt answer
tells_fault (replies.AskedAgain server answer) = has_doubt answer
tells_fault (replies.Took (Err taking.Journal)) = true
tells_fault (replies.Took (Err taking.Conflict)) = false
tells_fault (replies.Took (Err taking.Down)) = false
tells_fault (replies.Took (Err taking.OwnLost)) = false
tells_fault (replies.Took (Err taking.Gap)) = false
tells_fault (replies.Took (Err taking.BadStamp)) = false
tells_fault (replies.Took (Err taking.LogFull)) = false
tells_fault (replies.Took (Err taking.OutOfMemory)) = false
tells_fault (replies.Took (Ok took)) = false
tells_fault (replies.Reopened (Err (reopening.Journal Device))) = true
tells_fault (replies.Reopened (Err (reopening.Journal NotAJournal))) = false
tells_fault (replies.Reopened (Err (reopening.Journal OtherServer))) = false
tells_fault (replies.Reopened (Err reopening.NotDown)) = false
tells_fault (replies.Reopened (Err reopening.Lost)) = false
tells_fault (replies.Reopened (Err (reopening.BadRecord at))) = false
tells_fault (replies.Reopened (Err reopening.OutOfMemory)) = false
tells_fault (replies.Reopened (Ok reopened)) = false
tells_fault (replies.Restarted (Err (starting.Journal Device))) = true
tells_fault (replies.Restarted (Err (starting.Journal NotAJournal))) = false
tells_fault (replies.Restarted (Err (starting.Journal OtherServer))) = false
tells_fault (replies.Restarted (Err (starting.BadRecord at))) = false
tells_fault (replies.Restarted (Err (starting.Gap at))) = false
tells_fault (replies.Restarted (Err starting.LogFull)) = false
tells_fault (replies.Restarted (Err starting.OutOfMemory)) = false
tells_fault (replies.Restarted (Ok holds)) = false
tells_fault (replies.Read answer) = false
tells_fault (replies.Kept offer) = false
tells_fault (replies.Flown first number) = false
tells_fault replies.Delivered = false
tells_fault replies.Dropped = false
tells_fault replies.Fused = false
tells_fault replies.Filed = false
tells_fault replies.NoMemory = false
tells_fault replies.Skipped = false

-- one is to fail
abbrev pub tells_fuse : Reply → Bool
tells_fuse replies.Fused = true
tells_fuse (replies.Read answer) = false
tells_fuse (replies.Wrote answer) = false
tells_fuse (replies.AskedAgain server answer) = false
tells_fuse (replies.Took answer) = false
tells_fuse (replies.Kept offer) = false
tells_fuse (replies.Flown first number) = false
tells_fuse replies.Delivered = false
tells_fuse replies.Dropped = false
tells_fuse (replies.Reopened answer) = false
tells_fuse (replies.Restarted answer) = false
tells_fuse replies.Filed = false
tells_fuse replies.NoMemory = false
tells_fuse replies.Skipped = false

-- the reply names that server
abbrev pub names_server : ℕ → Reply → Bool
names_server place (replies.AskedAgain server answer) = place == server.index
names_server place (replies.Read answer) = false
names_server place (replies.Wrote answer) = false
names_server place (replies.Took answer) = false
names_server place (replies.Kept offer) = false
names_server place (replies.Flown first number) = false
names_server place replies.Delivered = false
names_server place replies.Dropped = false
names_server place replies.Fused = false
names_server place (replies.Reopened answer) = false
names_server place (replies.Restarted answer) = false
names_server place replies.Filed = false
names_server place replies.NoMemory = false
names_server place replies.Skipped = false

-- The event may make device calls of that server, or have one fail. Which server is asked again, the reply tells.
abbrev pub is_of : ℕ → Event → Reply → Bool
is_of place (events.Write session server program) reply = place == server.index
is_of place (events.Again session) reply = names_server place reply
is_of place (events.Take server item) reply = place == server.index
is_of place (events.Fuse server call front) reply = place == server.index
is_of place (events.Reopen server) reply = place == server.index
is_of place (events.Restart server) reply = place == server.index
is_of place (events.Read session server key) reply = false
is_of place (events.Deliver session) reply = false
is_of place (events.Lose session) reply = false
is_of place (events.Offer server) reply = false
is_of place (events.Collect server offer) reply = false
is_of place (events.File session) reply = false

-- of the events of that server, how many replies tell so
abbrev pub number_at : (Reply → Bool) → ℕ → List Event → List Reply → ℕ
number_at tells place (event ∷ events) (reply ∷ replies) = (if is_of place event reply then (if tells reply then 1 else 0) else 0) + number_at tells place events replies
number_at tells place [] replies = 0
number_at tells place (event ∷ events) [] = 0

-- At no time had a server more device calls that failed than fuses: each fault has a Fuse of its own before it.
abbrev pub AreFused : (count : ℕ) → List Event → List Reply → Type 0
AreFused count events replies = (place many : ℕ) → place < count
    → number_at tells_fault place (take many events) (take many replies) ≤ number_at tells_fuse place (take many events) (take many replies)
