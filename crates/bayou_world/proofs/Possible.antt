-- What no item is refused for.
use Rattle.std.proofs.Common.{◌≡◌, ℕ, List, [], ◌∷◌, Result, Err, All, sym, subst}
use Rattle.std.proofs.lemmas.List.Elements.{All-cons, All-nil}
use Rattle.bayou_base.specs.declared.server.ServerId.{ServerId}
use Rattle.bayou_lang.specs.declared.program.Program.{Program}
use Rattle.bayou_server.specs.declared.answer.Written.{Written}
use Rattle.bayou_server.specs.declared.fault.JournalFault.TheVariants.{Device, NotAJournal, OtherServer}
use Rattle.bayou_server.specs.declared.fault.ReopenFault.{ReopenFault}
use Rattle.bayou_server.specs.declared.fault.ReopenFault.TheVariants as reopening
use Rattle.bayou_server.specs.declared.fault.StartFault.{StartFault}
use Rattle.bayou_server.specs.declared.fault.StartFault.TheVariants as starting
use Rattle.bayou_server.specs.declared.fault.TakeFault.{TakeFault}
use Rattle.bayou_server.specs.declared.fault.TakeFault.TheVariants as taking
use Rattle.bayou_server.specs.declared.fault.WriteFault.{WriteFault}
use Rattle.bayou_server.specs.declared.fault.WriteFault.TheVariants as writing
use Rattle.bayou_server.specs.Honest.{IsHonestRefusal}
use Rattle.bayou_world.specs.declared.event.Event.{Event}
use Rattle.bayou_world.specs.declared.event.Event.TheVariants as events
use Rattle.bayou_world.specs.declared.reply.Reply.{Reply}
use Rattle.bayou_world.specs.declared.reply.Reply.TheVariants as replies
use Rattle.bayou_world.specs.Invariant.{IsImpossible}
use Rattle.bayou_world.specs.Machine.{Asking, Machine, Made, ServerSets, SessionSets}
use Rattle.bayou_world.specs.Runs.{Run}
use Rattle.bayou_world.specs.Steps.{AgainStep, AskStep, CollectStep, DeliverStep, FileStep, FuseStep, LoseStep, OfferStep, ReadStep, RefusesItem, RefusesReopening, RefusesWrite, ReopenStep, RestartStep, Step, TakeStep, WriteStep, first_asking}

-- a reply that isn't of that kind
is : (reply other : Reply) → reply ≡ other → (¬ IsImpossible other) → ¬ IsImpossible reply
is reply other same possible = subst (λ r. ¬ IsImpossible r) (sym same) possible

refused_possible : (limit : ℕ) (server : ServerSets) (made : Made) (fault : TakeFault) → RefusesItem limit server made fault → ¬ IsImpossible (replies.Took (Err fault))
refused_possible limit server made taking.Conflict refused = absurd refused
refused_possible limit server made taking.Down refused = λ no. no
refused_possible limit server made taking.OwnLost refused = absurd refused
refused_possible limit server made taking.Gap refused = λ no. no
refused_possible limit server made taking.BadStamp refused = absurd refused
refused_possible limit server made taking.LogFull refused = λ no. no
refused_possible limit server made taking.OutOfMemory refused = λ no. no
refused_possible limit server made taking.Journal refused = absurd refused

read_possible : (old : Machine) (who place : ℕ) (key : List ℕ) (reply : Reply) (new : Machine) → ReadStep old who place key reply new → ¬ IsImpossible reply
read_possible old who place key reply new (ReadStep.skipped cannot told_is same) = is reply _ told_is (λ no. no)
read_possible old who place key reply new (ReadStep.behind session entry may not_may told_is entry_is same) = is reply _ told_is (λ no. no)
read_possible old who place key reply new (ReadStep.served session entry seen may covered value vector told_is entry_is same) = is reply _ told_is (λ no. no)

-- a Write that is asked for, for the first time or again
asked_possible : (old : Machine) (who : ℕ) (session : SessionSets) (asking : Asking) (answer : Result Written WriteFault) (new : Machine) → AskStep old who session asking answer new
    → (server : ServerId) → (¬ IsImpossible (replies.Wrote answer)) × (¬ IsImpossible (replies.AskedAgain server answer))
asked_possible old who session asking answer new (AskStep.refused entry fault refused told_is entry_is same) server =
    subst (λ a. (¬ IsImpossible (replies.Wrote a)) × (¬ IsImpossible (replies.AskedAgain server a))) (sym told_is) (of_fault fault refused)
  where
    of_fault : (why : WriteFault) → RefusesWrite old.limit session (old.servers asking.server) why → (¬ IsImpossible (replies.Wrote (Err why))) × (¬ IsImpossible (replies.AskedAgain server (Err why)))
    of_fault writing.TagUsed refused = absurd refused
    of_fault writing.Down refused = (λ no. no, λ no. no)
    of_fault (writing.Behind vector) refused = (λ no. no, λ no. no)
    of_fault writing.LogFull refused = (λ no. no, λ no. no)
    of_fault writing.OutOfMemory refused = (λ no. no, λ no. no)
    of_fault writing.Journal refused = absurd refused
asked_possible old who session asking answer new (AskStep.doubted entry made makes told_is entry_is same) server =
    subst (λ a. (¬ IsImpossible (replies.Wrote a)) × (¬ IsImpossible (replies.AskedAgain server a))) (sym told_is) (λ no. no, λ no. no)
asked_possible old who session asking answer new (AskStep.accepted entry made accepted makes accepted_is told_is entry_is same) server =
    subst (λ a. (¬ IsImpossible (replies.Wrote a)) × (¬ IsImpossible (replies.AskedAgain server a))) (sym told_is) (λ no. no, λ no. no)

write_possible : (old : Machine) (who : ℕ) (server : ServerId) (program : Program) (reply : Reply) (new : Machine) → WriteStep old who server.index program reply new → ¬ IsImpossible reply
write_possible old who server program reply new (WriteStep.skipped cannot told_is same) = is reply _ told_is (λ no. no)
write_possible old who server program reply new (WriteStep.asked session answer may asks told_is) =
    is reply _ told_is (asked_possible old who session (first_asking server.index session program) answer new asks server).0

again_possible : (old : Machine) (who : ℕ) (reply : Reply) (new : Machine) → AgainStep old who reply new → ¬ IsImpossible reply
again_possible old who reply new (AgainStep.skipped cannot told_is same) = is reply _ told_is (λ no. no)
again_possible old who reply new (AgainStep.known session asking entry made accepted may holds accepted_is (server, at, told_is) entry_is same) = is reply _ told_is (λ no. no)
again_possible old who reply new (AgainStep.asked session asking answer may none asks (server, at, told_is)) = is reply _ told_is (asked_possible old who session asking answer new asks server).1

deliver_possible : (old : Machine) (who : ℕ) (reply : Reply) (new : Machine) → DeliverStep old who reply new → ¬ IsImpossible reply
deliver_possible old who reply new (DeliverStep.skipped none told_is same) = is reply _ told_is (λ no. no)
deliver_possible old who reply new (DeliverStep.delivered session answered flies told_is same) = is reply _ told_is (λ no. no)

lose_possible : (old : Machine) (who : ℕ) (reply : Reply) (new : Machine) → LoseStep old who reply new → ¬ IsImpossible reply
lose_possible old who reply new (LoseStep.skipped none told_is same) = is reply _ told_is (λ no. no)
lose_possible old who reply new (LoseStep.dropped session answered flies told_is same) = is reply _ told_is (λ no. no)

offer_possible : (old : Machine) (place : ℕ) (reply : Reply) (new : Machine) → OfferStep old place reply new → ¬ IsImpossible reply
offer_possible old place reply new (OfferStep.skipped none told_is same) = is reply _ told_is (λ no. no)
offer_possible old place reply new (OfferStep.kept known few told_is same) = is reply _ told_is (λ no. no)

collect_possible : (old : Machine) (place offer : ℕ) (reply : Reply) (new : Machine) → CollectStep old place offer reply new → ¬ IsImpossible reply
collect_possible old place offer reply new (CollectStep.skipped none told_is same) = is reply _ told_is (λ no. no)
collect_possible old place offer reply new (CollectStep.no_memory maker database one known there has lacks told_is same) = is reply _ told_is (λ no. no)
collect_possible old place offer reply new (CollectStep.flown offered lacking may told_is same) = is reply _ told_is (λ no. no)

take_possible : (old : Machine) (place item : ℕ) (reply : Reply) (new : Machine) → TakeStep old place item reply new → ¬ IsImpossible reply
take_possible old place item reply new (TakeStep.skipped none told_is same) = is reply _ told_is (λ no. no)
take_possible old place item reply new (TakeStep.had made given holds told_is same) = is reply _ told_is (λ no. no)
take_possible old place item reply new (TakeStep.refused made fault given refused told_is same) = is reply _ told_is (refused_possible old.limit (old.servers place) made fault refused)
take_possible old place item reply new (TakeStep.doubted made given next room told_is same) = is reply _ told_is (λ no. no)
take_possible old place item reply new (TakeStep.taken made given next room told_is same) = is reply _ told_is (λ no. no)

reopening_possible : (server : ServerSets) (fault : ReopenFault) → RefusesReopening server fault → ¬ IsImpossible (replies.Reopened (Err fault))
reopening_possible server reopening.NotDown refused = λ no. no
reopening_possible server (reopening.Journal Device) refused = λ no. no
reopening_possible server (reopening.Journal NotAJournal) refused = absurd refused
reopening_possible server (reopening.Journal OtherServer) refused = absurd refused
reopening_possible server reopening.Lost refused = absurd refused
reopening_possible server (reopening.BadRecord at) refused = absurd refused
reopening_possible server reopening.OutOfMemory refused = λ no. no

start_possible : (fault : StartFault) → IsHonestRefusal fault → ¬ IsImpossible (replies.Restarted (Err fault))
start_possible (starting.Journal Device) refused = λ no. no
start_possible (starting.Journal NotAJournal) refused = absurd refused
start_possible (starting.Journal OtherServer) refused = absurd refused
start_possible (starting.BadRecord at) refused = absurd refused
start_possible (starting.Gap at) refused = absurd refused
start_possible starting.LogFull refused = absurd refused
start_possible starting.OutOfMemory refused = λ no. no

fuse_possible : (old : Machine) (place call : ℕ) (reply : Reply) (new : Machine) → FuseStep old place call reply new → ¬ IsImpossible reply
fuse_possible old place call reply new (FuseStep.skipped none told_is same) = is reply _ told_is (λ no. no)
fuse_possible old place call reply new (FuseStep.fused known some told_is same) = is reply _ told_is (λ no. no)

reopen_possible : (old : Machine) (place : ℕ) (reply : Reply) (new : Machine) → ReopenStep old place reply new → ¬ IsImpossible reply
reopen_possible old place reply new (ReopenStep.skipped none told_is same) = is reply _ told_is (λ no. no)
reopen_possible old place reply new (ReopenStep.refused fault runs refused told_is same) = is reply _ told_is (reopening_possible (old.servers place) fault refused)
reopen_possible old place reply new (ReopenStep.reopened adopted server runs down recovers told_is same) = is reply _ told_is (λ no. no)

restart_possible : (old : Machine) (place : ℕ) (reply : Reply) (new : Machine) → RestartStep old place reply new → ¬ IsImpossible reply
restart_possible old place reply new (RestartStep.skipped none told_is same) = is reply _ told_is (λ no. no)
restart_possible old place reply new (RestartStep.refused fault known refused told_is same) = is reply _ told_is (start_possible fault refused)
restart_possible old place reply new (RestartStep.restarted adopted server known recovers told_is same) = is reply _ told_is (λ no. no)

file_possible : (old : Machine) (who : ℕ) (reply : Reply) (new : Machine) → FileStep old who reply new → ¬ IsImpossible reply
file_possible old who reply new (FileStep.skipped none told_is same) = is reply _ told_is (λ no. no)
file_possible old who reply new (FileStep.filed session entry later may told_is same) = is reply _ told_is (λ no. no)

step_possible : (old : Machine) (event : Event) (reply : Reply) (new : Machine) → Step old event reply new → ¬ IsImpossible reply
step_possible old (events.Read session server key) reply new step = read_possible old session.index server.index key reply new step
step_possible old (events.Write session server program) reply new step = write_possible old session.index server program reply new step
step_possible old (events.Again session) reply new step = again_possible old session.index reply new step
step_possible old (events.Deliver session) reply new step = deliver_possible old session.index reply new step
step_possible old (events.Lose session) reply new step = lose_possible old session.index reply new step
step_possible old (events.Offer server) reply new step = offer_possible old server.index reply new step
step_possible old (events.Collect server offer) reply new step = collect_possible old server.index offer reply new step
step_possible old (events.Take server item) reply new step = take_possible old server.index item reply new step
step_possible old (events.Fuse server call front) reply new step = fuse_possible old server.index call reply new step
step_possible old (events.Reopen server) reply new step = reopen_possible old server.index reply new step
step_possible old (events.Restart server) reply new step = restart_possible old server.index reply new step
step_possible old (events.File session) reply new step = file_possible old session.index reply new step

pub run_possible : (old : Machine) (events : List Event) (replies : List Reply) (new : Machine) → Run old events replies new → All (λ reply. ¬ IsImpossible reply) replies
run_possible old [] [] new run = All-nil (λ reply. ¬ IsImpossible reply)
run_possible old [] (reply ∷ replies) new run = absurd run
run_possible old (event ∷ events) [] new run = absurd run
run_possible old (event ∷ events) (reply ∷ replies) new (mid, step, rest) =
    All-cons (λ told. ¬ IsImpossible told) reply replies (step_possible old event reply mid step) (run_possible mid events replies new rest)
