-- Along a run a session's vectors stand for its sets.
use Rattle.std.proofs.Common.{◌≡◌, ◌≢◌, inl, inr, ℕ, List, [], ◌∷◌, Result, Option, Some, ap, sym, ◌∙◌, refl, subst}
use Rattle.std.specs.Option.{option_map}
use Rattle.bayou_base.specs.declared.asks.Asks.{Asks}
use Rattle.bayou_base.specs.declared.session.SessionId.{SessionId}
use Rattle.bayou_lang.specs.declared.program.Program.{Program}
use Rattle.bayou_server.specs.declared.answer.Written.{Written}
use Rattle.bayou_server.specs.declared.fault.WriteFault.{WriteFault}
use Rattle.bayou_session.specs.Needs as sessions
use Rattle.bayou_session.specs.Needs.{Told}
use Rattle.bayou_world.specs.declared.event.Event.{Event}
use Rattle.bayou_world.specs.declared.event.Event.TheVariants as events
use Rattle.bayou_world.specs.declared.reply.Reply.{Reply}
use Rattle.bayou_world.specs.Agreement.{IsToldOf, Reaches, RunTelling, StandsFor, TellsOver}
use Rattle.bayou_world.specs.Inner.Good.{IsGoodMachine}
use Rattle.bayou_world.specs.Invariant.{IsVectorOf}
use Rattle.bayou_world.specs.Machine.{Answered, Asking, Machine, SessionSets, changed}
use Rattle.bayou_world.specs.Runs.{first_machine, new_session}
use Rattle.bayou_world.specs.Steps.{AgainStep, AskStep, CollectStep, DeliverStep, FileStep, FuseStep, IsInFlight, LoseStep, OfferStep, ReadStep, ReopenStep, RestartStep, Step, TakeStep, WriteStep, first_asking, heard}
use Rattle.bayou_world.specs.Tags.{AreTagged}
use Rattle.bayou_world.proofs.Agreeing.{begins_standing, heard_standing}
use Rattle.bayou_world.proofs.Lists.{changed-other, changed-same, same_number}
use Rattle.bayou_world.proofs.Starting.{first_good}
use Rattle.bayou_world.proofs.Stepping.{sessions_changed, step_good}
use Rattle.bayou_world.proofs.Tagging.{first_tagged, step_tagged}

-- it asks for the same, and has the same sets
record HaveSameSets (old new : SessionSets) : Type 0 where
  asks : new.asks ≡ old.asks
  reads : new.reads ≡ old.reads
  writes : new.writes ≡ old.writes

-- the session was there before, with its sets
abbrev WasThere : (ℕ → Option SessionSets) → ℕ → SessionSets → Type 0
WasThere old who new = (found : SessionSets) × (old who ≡ Some found) × HaveSameSets found new

-- so it is of each session
abbrev KeepSets : (old new : ℕ → Option SessionSets) → Type 0
KeepSets old new = (who : ℕ) (session : SessionSets) → new who ≡ Some session → WasThere old who session

same_sets : (session : SessionSets) → HaveSameSets session session
same_sets session = record { asks = refl; reads = refl; writes = refl }

unchanged : (old new : Machine) → new ≡ old → KeepSets old.sessions new.sessions
unchanged old new same who session there = (session, subst (λ (m : Machine). m.sessions who ≡ Some session) same there, same_sets session)

becomes : (old new is : Machine) → new ≡ is → KeepSets old.sessions is.sessions → KeepSets old.sessions new.sessions
becomes old new is same keep = subst (λ (m : Machine). KeepSets old.sessions m.sessions) (sym same) keep

changed_there : (old : ℕ → Option SessionSets) (who : ℕ) (session new : SessionSets) → old who ≡ Some session → HaveSameSets session new → KeepSets old (changed old who (Some new))
changed_there old who session new there same other found is =
    sessions_changed (WasThere old) old who new (session, there, same) (λ o s is_there. (s, is_there, same_sets s)) other found is

read_keeps : (old : Machine) (who place : ℕ) (key : List ℕ) (reply : Reply) (new : Machine) → ReadStep old who place key reply new → KeepSets old.sessions new.sessions
read_keeps old who place key reply new (ReadStep.skipped cannot is same) = unchanged old new same
read_keeps old who place key reply new (ReadStep.behind session entry may not_may is entry_is same) =
    becomes old new _ same (changed_there old.sessions who session _ may.there (record { asks = refl; reads = refl; writes = refl }))
read_keeps old who place key reply new (ReadStep.served session entry seen may covered value vector is entry_is same) =
    becomes old new _ same (changed_there old.sessions who session _ may.there (record { asks = refl; reads = refl; writes = refl }))

ask_keeps : (old : Machine) (who : ℕ) (session : SessionSets) (asking : Asking) (answer : Result Written WriteFault) (new : Machine) → old.sessions who ≡ Some session
    → AskStep old who session asking answer new → KeepSets old.sessions new.sessions
ask_keeps old who session asking answer new there (AskStep.refused entry fault refused is entry_is same) =
    becomes old new _ same (changed_there old.sessions who session _ there (record { asks = refl; reads = refl; writes = refl }))
ask_keeps old who session asking answer new there (AskStep.doubted entry made makes is entry_is same) =
    becomes old new _ same (changed_there old.sessions who session _ there (record { asks = refl; reads = refl; writes = refl }))
ask_keeps old who session asking answer new there (AskStep.accepted entry made accepted makes told_is is entry_is same) =
    becomes old new _ same (changed_there old.sessions who session _ there (record { asks = refl; reads = refl; writes = refl }))

write_keeps : (old : Machine) (who place : ℕ) (program : Program) (reply : Reply) (new : Machine) → WriteStep old who place program reply new → KeepSets old.sessions new.sessions
write_keeps old who place program reply new (WriteStep.skipped cannot is same) = unchanged old new same
write_keeps old who place program reply new (WriteStep.asked session answer may asks is) = ask_keeps old who session (first_asking place session program) answer new may.there asks

again_keeps : (old : Machine) (who : ℕ) (reply : Reply) (new : Machine) → AgainStep old who reply new → KeepSets old.sessions new.sessions
again_keeps old who reply new (AgainStep.skipped cannot is same) = unchanged old new same
again_keeps old who reply new (AgainStep.known session asking entry made accepted may holds told_is is entry_is same) =
    becomes old new _ same (changed_there old.sessions who session _ may.begin.there (record { asks = refl; reads = refl; writes = refl }))
again_keeps old who reply new (AgainStep.asked session asking answer may none asks is) = ask_keeps old who session asking answer new may.begin.there asks

lose_keeps : (old : Machine) (who : ℕ) (reply : Reply) (new : Machine) → LoseStep old who reply new → KeepSets old.sessions new.sessions
lose_keeps old who reply new (LoseStep.skipped none is same) = unchanged old new same
lose_keeps old who reply new (LoseStep.dropped session answered flies is same) =
    becomes old new _ same (changed_there old.sessions who session _ flies.there (record { asks = refl; reads = refl; writes = refl }))

file_keeps : (old : Machine) (who : ℕ) (reply : Reply) (new : Machine) → FileStep old who reply new → KeepSets old.sessions new.sessions
file_keeps old who reply new (FileStep.skipped none is same) = unchanged old new same
file_keeps old who reply new (FileStep.filed session entry later may is same) =
    becomes old new _ same (changed_there old.sessions who session _ may.there (record { asks = refl; reads = refl; writes = refl }))

-- no session is another
sessions_as_they_were : (old new is : Machine) → new ≡ is → is.sessions ≡ old.sessions → KeepSets old.sessions new.sessions
sessions_as_they_were old new is same sessions =
    becomes old new is same (subst (KeepSets old.sessions) (sym sessions) (λ who session there. (session, there, same_sets session)))

offer_keeps : (old : Machine) (place : ℕ) (reply : Reply) (new : Machine) → OfferStep old place reply new → KeepSets old.sessions new.sessions
offer_keeps old place reply new (OfferStep.skipped none is same) = unchanged old new same
offer_keeps old place reply new (OfferStep.kept known few is same) = sessions_as_they_were old new _ same refl

collect_keeps : (old : Machine) (place offer : ℕ) (reply : Reply) (new : Machine) → CollectStep old place offer reply new → KeepSets old.sessions new.sessions
collect_keeps old place offer reply new (CollectStep.skipped none is same) = unchanged old new same
collect_keeps old place offer reply new (CollectStep.no_memory maker database one known there has lacks is same) = unchanged old new same
collect_keeps old place offer reply new (CollectStep.flown offered lacking may is same) = sessions_as_they_were old new _ same refl

take_keeps : (old : Machine) (place item : ℕ) (reply : Reply) (new : Machine) → TakeStep old place item reply new → KeepSets old.sessions new.sessions
take_keeps old place item reply new (TakeStep.skipped none is same) = unchanged old new same
take_keeps old place item reply new (TakeStep.had made given holds is same) = unchanged old new same
take_keeps old place item reply new (TakeStep.refused made fault given refused is same) = unchanged old new same
take_keeps old place item reply new (TakeStep.doubted made given next room is same) = sessions_as_they_were old new _ same refl
take_keeps old place item reply new (TakeStep.taken made given next room is same) = sessions_as_they_were old new _ same refl

fuse_keeps : (old : Machine) (place call : ℕ) (reply : Reply) (new : Machine) → FuseStep old place call reply new → KeepSets old.sessions new.sessions
fuse_keeps old place call reply new (FuseStep.skipped none is same) = unchanged old new same
fuse_keeps old place call reply new (FuseStep.fused known some is same) = unchanged old new same

reopen_keeps : (old : Machine) (place : ℕ) (reply : Reply) (new : Machine) → ReopenStep old place reply new → KeepSets old.sessions new.sessions
reopen_keeps old place reply new (ReopenStep.skipped none is same) = unchanged old new same
reopen_keeps old place reply new (ReopenStep.refused fault runs refused is same) = unchanged old new same
reopen_keeps old place reply new (ReopenStep.reopened adopted server runs down recovers is same) = sessions_as_they_were old new _ same refl

restart_keeps : (old : Machine) (place : ℕ) (reply : Reply) (new : Machine) → RestartStep old place reply new → KeepSets old.sessions new.sessions
restart_keeps old place reply new (RestartStep.skipped none is same) = unchanged old new same
restart_keeps old place reply new (RestartStep.refused fault known refused is same) = sessions_as_they_were old new _ same refl
restart_keeps old place reply new (RestartStep.restarted adopted server known recovers is same) = sessions_as_they_were old new _ same refl

-- ---- what the session of the code has

-- the session of the code stands for that of the machine, if that is there
abbrev Stands : Machine → ℕ → Told → Type 0
Stands machine who told = (session : SessionSets) → machine.sessions who ≡ Some session → StandsFor told session

kept_standing : (old new : Machine) → KeepSets old.sessions new.sessions → (who : ℕ) (told : Told) → Stands old who told → Stands new who told
kept_standing old new keeps who told stands session there =
    let was = keeps who session there in
    let before = stands was.0 was.1 in
    record {
      asks = before.asks ∙ sym was.2.asks;
      long = before.long;
      reads = subst (λ set. IsVectorOf told.reads set) (sym was.2.reads) before.reads;
      writes = subst (λ set. IsVectorOf told.writes set) (sym was.2.writes) before.writes;
    }

-- nothing reaches it, so it is told of nothing
told_nothing : (old new : Machine) → KeepSets old.sessions new.sessions → (event : Event) (who : ℕ) (told next : Told) → ((answered : Answered) → ¬ Reaches old event who answered)
    → TellsOver old event who told next → Stands old who told → Stands new who next
told_nothing old new keeps event who told next none (inl (answered, reaches, tells)) stands = absurd (none answered reaches)
told_nothing old new keeps event who told next none (inr (none_too, same)) stands = subst (Stands new who) (sym same) (kept_standing old new keeps who told stands)

some_session : (a b : SessionSets) → Some a ≡ Some b → a ≡ b
some_session a b same = cc

some_answered : (a b : Answered) → Some a ≡ Some b → a ≡ b
some_answered a b same = cc

deliver_standing : (old : Machine) → IsGoodMachine old → (session : SessionId) (reply : Reply) (new : Machine) → DeliverStep old session.index reply new → (who : ℕ) (told next : Told)
    → TellsOver old (events.Deliver session) who told next → Stands old who told → Stands new who next
deliver_standing old good session reply new (DeliverStep.skipped none is same) who told next tells stands there_now there =
    told_nothing old new (unchanged old new same) (events.Deliver session) who told next
    (λ answered reaches. none reaches.1.0 answered (subst (λ n. IsInFlight old n reaches.1.0 answered) (sym reaches.0) reaches.1.1)) tells stands there_now there
deliver_standing old good session reply new (DeliverStep.delivered found answered flies is same) who told next tells stands there_now there =
    let at = session.index in
    let now : changed old.sessions at (Some (heard answered found)) who ≡ Some there_now = subst (λ (m : Machine). m.sessions who ≡ Some there_now) same there in
    elim (same_number who at) as (λ _. StandsFor next there_now) [
      | inl here ↦
          let one : heard answered found ≡ there_now = some_session (heard answered found) there_now
          (sym (changed-same old.sessions at (Some (heard answered found))) ∙ subst (λ n. changed old.sessions at (Some (heard answered found)) n ≡ Some there_now) here now) in
          subst (StandsFor next) one
          (heard_standing old good at found answered flies.there flies.flight told next (stands found (subst (λ n. old.sessions n ≡ Some found) (sym here) flies.there)) (told_here here))
      | inr differs ↦
          let before : old.sessions who ≡ Some there_now = sym (changed-other old.sessions at (Some (heard answered found)) who differs) ∙ now in
          told_there differs before
    ]
  where
    of_one : (one : Answered) → (other : SessionSets) → IsInFlight old session.index other one → one ≡ answered
    of_one one other in_flight =
        let same_session : other ≡ found = some_session other found (sym in_flight.there ∙ flies.there) in
        some_answered one answered (sym in_flight.flight ∙ ap (λ (s : SessionSets). s.flight) same_session ∙ flies.flight)

    told_here : who ≡ session.index → IsToldOf answered.entry.what told next
    told_here here = elim tells as (λ _. IsToldOf answered.entry.what told next) [
      | inl telling ↦
          let one = of_one telling.0 telling.1.1.0 (subst (λ n. IsInFlight old n telling.1.1.0 telling.0) here telling.1.1.1) in
          subst (λ (a : Answered). IsToldOf a.entry.what told next) one telling.2
      | inr nothing ↦ absurd (nothing.0 answered (sym here, (found, subst (λ n. IsInFlight old n found answered) (sym here) flies)))
    ]

    told_there : who ≢ session.index → old.sessions who ≡ Some there_now → StandsFor next there_now
    told_there differs before = elim tells as (λ _. StandsFor next there_now) [
      | inl telling ↦ absurd (differs (sym telling.1.0))
      | inr nothing ↦ subst (λ t. StandsFor t there_now) (sym nothing.1) (stands there_now before)
    ]

step_standing : (old : Machine) → IsGoodMachine old → (event : Event) (reply : Reply) (new : Machine) → Step old event reply new → (who : ℕ) (told next : Told) → TellsOver old event who told next
    → Stands old who told → Stands new who next
step_standing old good (events.Read session server key) reply new step who told next tells stands =
    told_nothing old new (read_keeps old session.index server.index key reply new step) (events.Read session server key) who told next (λ answered no. no) tells stands
step_standing old good (events.Write session server program) reply new step who told next tells stands =
    told_nothing old new (write_keeps old session.index server.index program reply new step) (events.Write session server program) who told next (λ answered no. no) tells stands
step_standing old good (events.Again session) reply new step who told next tells stands =
    told_nothing old new (again_keeps old session.index reply new step) (events.Again session) who told next (λ answered no. no) tells stands
step_standing old good (events.Deliver session) reply new step who told next tells stands = deliver_standing old good session reply new step who told next tells stands
step_standing old good (events.Lose session) reply new step who told next tells stands =
    told_nothing old new (lose_keeps old session.index reply new step) (events.Lose session) who told next (λ answered no. no) tells stands
step_standing old good (events.Offer server) reply new step who told next tells stands =
    told_nothing old new (offer_keeps old server.index reply new step) (events.Offer server) who told next (λ answered no. no) tells stands
step_standing old good (events.Collect server offer) reply new step who told next tells stands =
    told_nothing old new (collect_keeps old server.index offer reply new step) (events.Collect server offer) who told next (λ answered no. no) tells stands
step_standing old good (events.Take server item) reply new step who told next tells stands =
    told_nothing old new (take_keeps old server.index item reply new step) (events.Take server item) who told next (λ answered no. no) tells stands
step_standing old good (events.Fuse server call front) reply new step who told next tells stands =
    told_nothing old new (fuse_keeps old server.index call reply new step) (events.Fuse server call front) who told next (λ answered no. no) tells stands
step_standing old good (events.Reopen server) reply new step who told next tells stands =
    told_nothing old new (reopen_keeps old server.index reply new step) (events.Reopen server) who told next (λ answered no. no) tells stands
step_standing old good (events.Restart server) reply new step who told next tells stands =
    told_nothing old new (restart_keeps old server.index reply new step) (events.Restart server) who told next (λ answered no. no) tells stands
step_standing old good (events.File session) reply new step who told next tells stands =
    told_nothing old new (file_keeps old session.index reply new step) (events.File session) who told next (λ answered no. no) tells stands

run_standing : (who : ℕ) (old : Machine) (told : Told) (events : List Event) (replies : List Reply) (new : Machine) (last : Told) → IsGoodMachine old → AreTagged old → RunTelling who old told events replies new last
    → Stands old who told → Stands new who last
run_standing who old told [] [] new last good tagged run stands =
    subst (λ (m : Machine). Stands m who last) (sym run.0) (subst (Stands old who) (sym run.1) stands)
run_standing who old told [] (reply ∷ replies) new last good tagged run stands = absurd run
run_standing who old told (event ∷ events) [] new last good tagged run stands = absurd run
run_standing who old told (event ∷ events) (reply ∷ replies) new last good tagged (mid, next, step, tells, rest) stands =
    run_standing who mid next events replies new last (step_good old event reply mid good tagged step) (step_tagged old event reply mid good tagged step) rest (step_standing old good event reply mid step who told next tells stands)

-- from its beginning
pub stands_along : (count limit capacity : ℕ) (asks : ℕ → Option Asks) (who : ℕ) (id : SessionId) (run : ℕ) (wants : Asks) (events : List Event) (replies : List Reply) (last : Machine) (told : Told) → asks who ≡ Some wants
    → RunTelling who (first_machine count limit capacity asks) (sessions.new_session id run wants) events replies last told → (session : SessionSets) → last.sessions who ≡ Some session → StandsFor told session
stands_along count limit capacity asks who id run wants events replies last told asked tells =
    run_standing who (first_machine count limit capacity asks) (sessions.new_session id run wants) events replies last told (first_good count limit capacity asks) (first_tagged count limit capacity asks) tells
    (λ session there.
    let one : new_session wants ≡ session = some_session (new_session wants) session (sym (ap (option_map new_session) asked) ∙ there) in
    subst (StandsFor (sessions.new_session id run wants)) one (begins_standing id run wants))
