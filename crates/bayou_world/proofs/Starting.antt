-- A run begins with what is good. What its sessions ask for stays.
use Rattle.std.proofs.Common.{◌≡◌, ℕ, ◌≤◌, List, [], ◌∷◌, Result, Option, None, Some, length, length-append, ap, sym, ◌∙◌, refl, subst, arith}
use Rattle.std.specs.Option.{option_map}
use Rattle.std.proofs.lemmas.List.Elements.{All-cons, All-nil}
use Rattle.bayou_base.specs.declared.asks.Asks.{Asks}
use Rattle.bayou_base.specs.declared.entry.What.{What}
use Rattle.bayou_base.specs.declared.entry.What.TheVariants as whats
use Rattle.bayou_lang.specs.declared.program.Program.{Program}
use Rattle.bayou_lang.specs.Laws.Fitting.{IsSound-empty}
use Rattle.bayou_judge.specs.History.{IsFrontOf}
use Rattle.bayou_server.specs.declared.answer.Written.{Written}
use Rattle.bayou_server.specs.declared.fault.WriteFault.{WriteFault}
use Rattle.bayou_world.specs.declared.event.Event.{Event}
use Rattle.bayou_world.specs.declared.event.Event.TheVariants as events
use Rattle.bayou_world.specs.declared.reply.Reply.{Reply}
use Rattle.bayou_world.specs.Inner.Good.{IsGoodMachine, IsGoodSession, IsHome, IsTrueAnswer}
use Rattle.bayou_world.specs.Machine.{Answered, Asking, Machine, Offered, SessionSets, changed, writes}
use Rattle.bayou_world.specs.Runs.{Run, first_machine, new_server, new_session}
use Rattle.bayou_world.specs.Steps.{AgainStep, AskStep, CollectStep, DeliverStep, FileStep, FuseStep, LoseStep, OfferStep, ReadStep, ReopenStep, RestartStep, Step, TakeStep, WriteStep, first_asking, told}
use Rattle.bayou_world.proofs.Lists.{Contains-none, at_changed}

new_good : (who : ℕ) (asks : Option Asks) (session : SessionSets) → option_map new_session asks ≡ Some session → IsGoodSession [] who session
new_good who None session is = let both : None ≡ Some session = is in absurd (cc)
new_good who (Some asks) session is =
    let one : new_session asks ≡ session = cc in
    subst (IsGoodSession [] who) one (record {
      begun = All-nil (λ (o : Answered). o.entry.session.index ≡ who → o.entry.place ≤ 0);
      reads = λ place server database at. absurd (Contains-none at.answered at.among);
      writes = λ place made at. absurd (Contains-none at.answered at.among);
      ryw = λ asked first second server made database less one two. absurd (Contains-none one.answered one.among);
      mr = λ asked first second other server earlier later less one two. absurd (Contains-none one.answered one.among);
      wfr = λ asked first second server database made less one two. absurd (Contains-none one.answered one.among);
      mw = λ asked first second earlier later less one two. absurd (Contains-none one.answered one.among);
      flight = tt;
    })

no_flight : (asks : Option Asks) (session : SessionSets) (answered : Answered) → option_map new_session asks ≡ Some session → session.flight ≡ Some answered → ⊥
no_flight None session answered is flies = let both : None ≡ Some session = is in absurd (cc)
no_flight (Some asks) session answered is flies =
    let one : new_session asks ≡ session = cc in
    let none : None ≡ Some answered = ap (λ (s : SessionSets). s.flight) one ∙ flies in absurd (cc)

pub first_good : (count limit capacity : ℕ) (asks : ℕ → Option Asks) → IsGoodMachine (first_machine count limit capacity asks)
first_good count limit capacity asks =
    let servers = λ (place : ℕ). new_server in
    record {
      servers = λ place. record {
        sound = IsSound-empty place count;
        within = omega arith;
        home = All-nil (IsHome servers);
        pasts = λ before made after same. absurd (omega (arith, ap length same, length-append before (made ∷ after)));
        had = All-cons (IsFrontOf []) [] [] ([], refl) (All-nil (IsFrontOf []));
        doubt = λ made is. let both : None ≡ Some made = is in absurd (cc);
      };
      offers = All-nil (λ (offer : Offered). IsFrontOf (writes (servers offer.server).held) offer.database);
      items = All-nil (IsHome servers);
      served = All-nil (IsTrueAnswer servers);
      sessions = λ who session is. new_good who (asks who) session is;
      flights = λ who session answered is flies. absurd (no_flight (asks who) session answered is flies);
    }

-- ---- what sessions ask for

-- the session is there, and asks for this
abbrev pub AsksFor : (ℕ → Option SessionSets) → ℕ → Asks → Type 0
AsksFor sessions who asks = (session : SessionSets) × (sessions who ≡ Some session) × (session.asks ≡ asks)

-- whoever asked for something still does
abbrev KeepAsking : (ℕ → Option SessionSets) → (ℕ → Option SessionSets) → Type 0
KeepAsking old new = (who : ℕ) (asks : Asks) → AsksFor old who asks → AsksFor new who asks

changed_asks : (old : ℕ → Option SessionSets) (who : ℕ) (session new : SessionSets) → old who ≡ Some session → new.asks ≡ session.asks → KeepAsking old (changed old who (Some new))
changed_asks old who session new there same =
    at_changed (λ other (o : Option SessionSets). (asks : Asks) → AsksFor old other asks → (s : SessionSets) × (o ≡ Some s) × (s.asks ≡ asks)) old who (Some new)
    (λ asks found.
    let one : Some found.0 ≡ Some session = sym found.1 ∙ there in
    let is : found.0 ≡ session = cc in
    (new, refl, same ∙ ap (λ (s : SessionSets). s.asks) (sym is) ∙ found.2))
    (λ other asks found. found)

same_asks : (old new : Machine) → new ≡ old → KeepAsking old.sessions new.sessions
same_asks old new same who asks found = subst (λ (m : Machine). AsksFor m.sessions who asks) (sym same) found

told_asks : (what : What) (answered : Answered) (session : SessionSets) → (told what answered session).asks ≡ session.asks
told_asks (whats.Read key vector) answered session = refl
told_asks (whats.Write wid stamp deps) answered session = refl
told_asks whats.Refused answered session = refl

-- the same, of a machine of which an equation is known
becomes : (old new is : Machine) → new ≡ is → KeepAsking old.sessions is.sessions → KeepAsking old.sessions new.sessions
becomes old new is same keep = subst (λ (m : Machine). KeepAsking old.sessions m.sessions) (sym same) keep

read_asks : (old : Machine) (who place : ℕ) (key : List ℕ) (reply : Reply) (new : Machine) → ReadStep old who place key reply new → KeepAsking old.sessions new.sessions
read_asks old who place key reply new (ReadStep.skipped cannot is same) = same_asks old new same
read_asks old who place key reply new (ReadStep.behind session entry may not_may is entry_is same) = becomes old new _ same (changed_asks old.sessions who session _ may.there refl)
read_asks old who place key reply new (ReadStep.served session entry seen may covered value vector is entry_is same) = becomes old new _ same (changed_asks old.sessions who session _ may.there refl)

ask_asks : (old : Machine) (who : ℕ) (session : SessionSets) (asking : Asking) (answer : Result Written WriteFault) (new : Machine) → old.sessions who ≡ Some session
    → AskStep old who session asking answer new → KeepAsking old.sessions new.sessions
ask_asks old who session asking answer new there (AskStep.refused entry fault refused is entry_is same) = becomes old new _ same (changed_asks old.sessions who session _ there refl)
ask_asks old who session asking answer new there (AskStep.doubted entry made makes is entry_is same) = becomes old new _ same (changed_asks old.sessions who session _ there refl)
ask_asks old who session asking answer new there (AskStep.accepted entry made accepted makes told_is is entry_is same) = becomes old new _ same (changed_asks old.sessions who session _ there refl)

write_asks : (old : Machine) (who place : ℕ) (program : Program) (reply : Reply) (new : Machine) → WriteStep old who place program reply new → KeepAsking old.sessions new.sessions
write_asks old who place program reply new (WriteStep.skipped cannot is same) = same_asks old new same
write_asks old who place program reply new (WriteStep.asked session answer may asks is) = ask_asks old who session (first_asking place session program) answer new may.there asks

again_asks : (old : Machine) (who : ℕ) (reply : Reply) (new : Machine) → AgainStep old who reply new → KeepAsking old.sessions new.sessions
again_asks old who reply new (AgainStep.skipped cannot is same) = same_asks old new same
again_asks old who reply new (AgainStep.known session asking entry made accepted may holds told_is is entry_is same) = becomes old new _ same (changed_asks old.sessions who session _ may.begin.there refl)
again_asks old who reply new (AgainStep.asked session asking answer may none asks is) = ask_asks old who session asking answer new may.begin.there asks

deliver_asks : (old : Machine) (who : ℕ) (reply : Reply) (new : Machine) → DeliverStep old who reply new → KeepAsking old.sessions new.sessions
deliver_asks old who reply new (DeliverStep.skipped none is same) = same_asks old new same
deliver_asks old who reply new (DeliverStep.delivered session answered flies is same) =
    becomes old new _ same (changed_asks old.sessions who session _ flies.there (told_asks answered.entry.what answered session))

lose_asks : (old : Machine) (who : ℕ) (reply : Reply) (new : Machine) → LoseStep old who reply new → KeepAsking old.sessions new.sessions
lose_asks old who reply new (LoseStep.skipped none is same) = same_asks old new same
lose_asks old who reply new (LoseStep.dropped session answered flies is same) = becomes old new _ same (changed_asks old.sessions who session _ flies.there refl)

offer_asks : (old : Machine) (place : ℕ) (reply : Reply) (new : Machine) → OfferStep old place reply new → KeepAsking old.sessions new.sessions
offer_asks old place reply new (OfferStep.skipped none is same) = same_asks old new same
offer_asks old place reply new (OfferStep.kept known few is same) = becomes old new _ same (λ who asks found. found)

collect_asks : (old : Machine) (place offer : ℕ) (reply : Reply) (new : Machine) → CollectStep old place offer reply new → KeepAsking old.sessions new.sessions
collect_asks old place offer reply new (CollectStep.skipped none is same) = same_asks old new same
collect_asks old place offer reply new (CollectStep.no_memory maker database one known there has lacks is same) = same_asks old new same
collect_asks old place offer reply new (CollectStep.flown offered lacking may is same) = becomes old new _ same (λ who asks found. found)

take_asks : (old : Machine) (place item : ℕ) (reply : Reply) (new : Machine) → TakeStep old place item reply new → KeepAsking old.sessions new.sessions
take_asks old place item reply new (TakeStep.skipped none is same) = same_asks old new same
take_asks old place item reply new (TakeStep.had made given holds is same) = same_asks old new same
take_asks old place item reply new (TakeStep.refused made fault given refused is same) = same_asks old new same
take_asks old place item reply new (TakeStep.doubted made given next room is same) = becomes old new _ same (λ who asks found. found)
take_asks old place item reply new (TakeStep.taken made given next room is same) = becomes old new _ same (λ who asks found. found)

file_asks : (old : Machine) (who : ℕ) (reply : Reply) (new : Machine) → FileStep old who reply new → KeepAsking old.sessions new.sessions
file_asks old who reply new (FileStep.skipped none is same) = same_asks old new same
file_asks old who reply new (FileStep.filed session entry later may is same) = becomes old new _ same (changed_asks old.sessions who session _ may.there refl)

fuse_asks : (old : Machine) (place call : ℕ) (reply : Reply) (new : Machine) → FuseStep old place call reply new → KeepAsking old.sessions new.sessions
fuse_asks old place call reply new (FuseStep.skipped none is same) = same_asks old new same
fuse_asks old place call reply new (FuseStep.fused known some is same) = same_asks old new same

reopen_asks : (old : Machine) (place : ℕ) (reply : Reply) (new : Machine) → ReopenStep old place reply new → KeepAsking old.sessions new.sessions
reopen_asks old place reply new (ReopenStep.skipped none is same) = same_asks old new same
reopen_asks old place reply new (ReopenStep.refused fault runs refused is same) = same_asks old new same
reopen_asks old place reply new (ReopenStep.reopened adopted server runs down recovers is same) = becomes old new _ same (λ who asks found. found)

restart_asks : (old : Machine) (place : ℕ) (reply : Reply) (new : Machine) → RestartStep old place reply new → KeepAsking old.sessions new.sessions
restart_asks old place reply new (RestartStep.skipped none is same) = same_asks old new same
restart_asks old place reply new (RestartStep.refused fault known refused is same) = becomes old new _ same (λ who asks found. found)
restart_asks old place reply new (RestartStep.restarted adopted server known recovers is same) = becomes old new _ same (λ who asks found. found)

step_asks : (old : Machine) (event : Event) (reply : Reply) (new : Machine) → Step old event reply new → KeepAsking old.sessions new.sessions
step_asks old (events.Read session server key) reply new step = read_asks old session.index server.index key reply new step
step_asks old (events.Write session server program) reply new step = write_asks old session.index server.index program reply new step
step_asks old (events.Again session) reply new step = again_asks old session.index reply new step
step_asks old (events.Deliver session) reply new step = deliver_asks old session.index reply new step
step_asks old (events.Lose session) reply new step = lose_asks old session.index reply new step
step_asks old (events.Offer server) reply new step = offer_asks old server.index reply new step
step_asks old (events.Collect server offer) reply new step = collect_asks old server.index offer reply new step
step_asks old (events.Take server item) reply new step = take_asks old server.index item reply new step
step_asks old (events.Fuse server call front) reply new step = fuse_asks old server.index call reply new step
step_asks old (events.Reopen server) reply new step = reopen_asks old server.index reply new step
step_asks old (events.Restart server) reply new step = restart_asks old server.index reply new step
step_asks old (events.File session) reply new step = file_asks old session.index reply new step

run_asks : (old : Machine) (events : List Event) (replies : List Reply) (new : Machine) → Run old events replies new → KeepAsking old.sessions new.sessions
run_asks old [] [] new run = same_asks old new run
run_asks old [] (reply ∷ replies) new run = absurd run
run_asks old (event ∷ events) [] new run = absurd run
run_asks old (event ∷ events) (reply ∷ replies) new (mid, step, rest) =
    λ who asks found. run_asks mid events replies new rest who asks (step_asks old event reply mid step who asks found)

-- a session that asked for something as the run began asks for it in the end
pub still_asks : (count limit capacity : ℕ) (asks : ℕ → Option Asks) (events : List Event) (replies : List Reply) (last : Machine)
    → Run (first_machine count limit capacity asks) events replies last → (who : ℕ) (wants : Asks) → asks who ≡ Some wants → AsksFor last.sessions who wants
still_asks count limit capacity asks events replies last run who wants is =
    run_asks (first_machine count limit capacity asks) events replies last run who wants (new_session wants, ap (option_map new_session) is, refl)
