-- Runs, event by event.
use Rattle.std.proofs.Common.{◌≡◌, ℕ, ◌+◌, ◌<◌, List, [], ◌∷◌, ◌++◌, Option, None, Some, Result, Ok, Err, IfOk, map, length, get_or, take, ap, sym, ◌∙◌, refl, subst, arith}
use Rattle.std.specs.Option.{option_map}
use Rattle.std.proofs.lemmas.List.{get_or-map, length-map, length-replicate, take_more}
use Rattle.std.proofs.lemmas.List.Elements.{All-nil}
use Rattle.bayou_base.specs.declared.asks.Asks.{Asks}
use Rattle.bayou_base.specs.declared.entry.Entry.{Entry}
use Rattle.bayou_base.specs.declared.limits.TheConstants.{SERVERS, SESSIONS}
use Rattle.bayou_lang.specs.declared.program.Program.{Program}
use Rattle.bayou_lang.specs.declared.write.Write.{Write}
use Rattle.bayou_server.specs.declared.answer.Written.{Written}
use Rattle.bayou_server.specs.declared.fault.WriteFault.{WriteFault}
use Rattle.bayou_server.specs.Server.{Core}
use Rattle.bayou_session.specs.declared.session.TheConstants.{FIRST_RUN}
use Rattle.bayou_session.specs.Needs.{Told}
use Rattle.bayou_session.specs.Needs as sessions
use Rattle.bayou_world.specs.declared.world_session.WorldSession.{WorldSession}
use Rattle.bayou_world.specs.declared.event.Event.{Event}
use Rattle.bayou_world.specs.declared.event.Event.TheVariants as events
use Rattle.bayou_world.specs.declared.world_server.WorldServer.{WorldServer}
use Rattle.bayou_world.specs.declared.reply.Reply.{Reply}
use Rattle.bayou_world.specs.declared.state.State.{State}
use Rattle.bayou_world.specs.Inner.Beginning.{AreFirstSeats, AreStarted, IsFirstSeat, IsFirstState, IsLeft, Leaves, SoFar}
use Rattle.bayou_world.specs.Inner.WorldBooks.{Booking, FollowsInBook, IsBookOf}
use Rattle.bayou_world.specs.Inner.Good.{IsGoodMachine}
use Rattle.bayou_world.specs.Inner.WorldServers.{held_by}
use Rattle.bayou_world.specs.Inner.Tie.{Follows, IsAskedOf, IsFlightOf, IsOf, IsSeatOf, IsTied, seat}
use Rattle.bayou_world.specs.Invariant.{IsVectorOf}
use Rattle.bayou_world.specs.Machine.{Asking, Machine, SessionSets, writes}
use Rattle.bayou_world.specs.Runs.{Run, asks_of, first_machine, new_session, capacity_for}
use Rattle.bayou_world.specs.RunHistories.{Begun, IsRunHistory}
use Rattle.bayou_world.specs.declared.run_history.RunHistory.{RunHistory}
use Rattle.bayou_audit.specs.declared.totals.Totals.{Totals}
use Rattle.bayou_audit.specs.Totals.{is_read, is_refusal, is_write, number_of, totals_of}
use Rattle.std.specs.Global.{Vec}
use Rattle.bayou_world.specs.Steps.{AgainStep, AskStep, CollectStep, DeliverStep, FileStep, FuseStep, LoseStep, OfferStep, ReadStep, ReopenStep, RestartStep, Step, TakeStep, WriteStep, first_asking}
use Rattle.bayou_world.specs.Tags.{AreTagged}
use Rattle.bayou_world.proofs.Starting.{first_good}
use Rattle.bayou_world.proofs.Stepping.{step_good}
use Rattle.bayou_world.proofs.Tagging.{first_tagged, step_tagged}
use Rattle.bayou_world.proofs.Vectors.{IsVectorOf-none}

-- ---- what an event leaves of the bounds and the book

pub record Keeps (old new : Machine) : Type 0 where
  pub count : new.count ≡ old.count
  pub capacity : new.capacity ≡ old.capacity
  pub filed : new.filed ≡ old.filed

kept : (old new is : Machine) → new ≡ is → is.count ≡ old.count → is.capacity ≡ old.capacity → is.filed ≡ old.filed → Keeps old new
kept old new is same count capacity filed = subst (Keeps old) (sym same) (record { count = count; capacity = capacity; filed = filed })

read_keeps : (old : Machine) (who place : ℕ) (key : List ℕ) (reply : Reply) (new : Machine) → ReadStep old who place key reply new → Keeps old new
read_keeps old who place key reply new (ReadStep.skipped cannot is same) = kept old new _ same refl refl refl
read_keeps old who place key reply new (ReadStep.behind session entry may not_may is entry_is same) = kept old new _ same refl refl refl
read_keeps old who place key reply new (ReadStep.served session entry seen may covered value vector is entry_is same) = kept old new _ same refl refl refl

ask_keeps : (old : Machine) (who : ℕ) (session : SessionSets) (asking : Asking) (answer : Result Written WriteFault) (new : Machine) → AskStep old who session asking answer new → Keeps old new
ask_keeps old who session asking answer new (AskStep.refused entry fault refused is entry_is same) = kept old new _ same refl refl refl
ask_keeps old who session asking answer new (AskStep.doubted entry made makes is entry_is same) = kept old new _ same refl refl refl
ask_keeps old who session asking answer new (AskStep.accepted entry made accepted makes told_is is entry_is same) = kept old new _ same refl refl refl

write_keeps : (old : Machine) (who place : ℕ) (program : Program) (reply : Reply) (new : Machine) → WriteStep old who place program reply new → Keeps old new
write_keeps old who place program reply new (WriteStep.skipped cannot is same) = kept old new _ same refl refl refl
write_keeps old who place program reply new (WriteStep.asked session answer may asks is) = ask_keeps old who session (first_asking place session program) answer new asks

again_keeps : (old : Machine) (who : ℕ) (reply : Reply) (new : Machine) → AgainStep old who reply new → Keeps old new
again_keeps old who reply new (AgainStep.skipped cannot is same) = kept old new _ same refl refl refl
again_keeps old who reply new (AgainStep.known session asking entry made accepted may holds told_is is entry_is same) = kept old new _ same refl refl refl
again_keeps old who reply new (AgainStep.asked session asking answer may none asks is) = ask_keeps old who session asking answer new asks

deliver_keeps : (old : Machine) (who : ℕ) (reply : Reply) (new : Machine) → DeliverStep old who reply new → Keeps old new
deliver_keeps old who reply new (DeliverStep.skipped none is same) = kept old new _ same refl refl refl
deliver_keeps old who reply new (DeliverStep.delivered session answered flies is same) = kept old new _ same refl refl refl

lose_keeps : (old : Machine) (who : ℕ) (reply : Reply) (new : Machine) → LoseStep old who reply new → Keeps old new
lose_keeps old who reply new (LoseStep.skipped none is same) = kept old new _ same refl refl refl
lose_keeps old who reply new (LoseStep.dropped session answered flies is same) = kept old new _ same refl refl refl

offer_keeps : (old : Machine) (place : ℕ) (reply : Reply) (new : Machine) → OfferStep old place reply new → Keeps old new
offer_keeps old place reply new (OfferStep.skipped none is same) = kept old new _ same refl refl refl
offer_keeps old place reply new (OfferStep.kept known few is same) = kept old new _ same refl refl refl

collect_keeps : (old : Machine) (place offer : ℕ) (reply : Reply) (new : Machine) → CollectStep old place offer reply new → Keeps old new
collect_keeps old place offer reply new (CollectStep.skipped none is same) = kept old new _ same refl refl refl
collect_keeps old place offer reply new (CollectStep.no_memory maker database one known there has lacks is same) = kept old new _ same refl refl refl
collect_keeps old place offer reply new (CollectStep.flown offered lacking may is same) = kept old new _ same refl refl refl

take_keeps : (old : Machine) (place item : ℕ) (reply : Reply) (new : Machine) → TakeStep old place item reply new → Keeps old new
take_keeps old place item reply new (TakeStep.skipped none is same) = kept old new _ same refl refl refl
take_keeps old place item reply new (TakeStep.had made given holds is same) = kept old new _ same refl refl refl
take_keeps old place item reply new (TakeStep.refused made fault given refused is same) = kept old new _ same refl refl refl
take_keeps old place item reply new (TakeStep.doubted made given next room is same) = kept old new _ same refl refl refl
take_keeps old place item reply new (TakeStep.taken made given next room is same) = kept old new _ same refl refl refl

fuse_keeps : (old : Machine) (place call : ℕ) (reply : Reply) (new : Machine) → FuseStep old place call reply new → Keeps old new
fuse_keeps old place call reply new (FuseStep.skipped none is same) = kept old new _ same refl refl refl
fuse_keeps old place call reply new (FuseStep.fused known some is same) = kept old new _ same refl refl refl

reopen_keeps : (old : Machine) (place : ℕ) (reply : Reply) (new : Machine) → ReopenStep old place reply new → Keeps old new
reopen_keeps old place reply new (ReopenStep.skipped none is same) = kept old new _ same refl refl refl
reopen_keeps old place reply new (ReopenStep.refused fault runs refused is same) = kept old new _ same refl refl refl
reopen_keeps old place reply new (ReopenStep.reopened adopted server runs down recovers is same) = kept old new _ same refl refl refl

restart_keeps : (old : Machine) (place : ℕ) (reply : Reply) (new : Machine) → RestartStep old place reply new → Keeps old new
restart_keeps old place reply new (RestartStep.skipped none is same) = kept old new _ same refl refl refl
restart_keeps old place reply new (RestartStep.refused fault known refused is same) = kept old new _ same refl refl refl
restart_keeps old place reply new (RestartStep.restarted adopted server known recovers is same) = kept old new _ same refl refl refl

file_count : (old : Machine) (who : ℕ) (reply : Reply) (new : Machine) → FileStep old who reply new → new.count ≡ old.count
file_count old who reply new (FileStep.skipped none is same) = ap (λ (m : Machine). m.count) same
file_count old who reply new (FileStep.filed session entry later may is same) = ap (λ (m : Machine). m.count) same

step_count : (old : Machine) (event : Event) (reply : Reply) (new : Machine) → Step old event reply new → new.count ≡ old.count
step_count old (events.Read session server key) reply new step = (read_keeps old session.index server.index key reply new step).count
step_count old (events.Write session server program) reply new step = (write_keeps old session.index server.index program reply new step).count
step_count old (events.Again session) reply new step = (again_keeps old session.index reply new step).count
step_count old (events.Deliver session) reply new step = (deliver_keeps old session.index reply new step).count
step_count old (events.Lose session) reply new step = (lose_keeps old session.index reply new step).count
step_count old (events.Offer server) reply new step = (offer_keeps old server.index reply new step).count
step_count old (events.Collect server offer) reply new step = (collect_keeps old server.index offer reply new step).count
step_count old (events.Take server item) reply new step = (take_keeps old server.index item reply new step).count
step_count old (events.Fuse server call front) reply new step = (fuse_keeps old server.index call reply new step).count
step_count old (events.Reopen server) reply new step = (reopen_keeps old server.index reply new step).count
step_count old (events.Restart server) reply new step = (restart_keeps old server.index reply new step).count
step_count old (events.File session) reply new step = file_count old session.index reply new step

-- ---- one event, with the book beside it

beside : (old new : State) (booking : Booking) (Does : Machine → Machine → Type 0) → ((machine next : Machine) → Does machine next → Keeps machine next) → Follows old Does new → FollowsInBook old booking Does new booking
beside old new booking Does keeps follows machine good tagged tied book =
    let step = follows machine good tagged tied in
    let same = keeps machine step.0 step.1 in
    (step.0, step.1, step.2, record { capacity = book.capacity ∙ sym same.capacity; entries = book.entries ∙ sym same.filed })

pub read_beside : (old new : State) (booking : Booking) (who place : ℕ) (key : List ℕ) (reply : Reply) → Follows old (λ machine next. ReadStep machine who place key reply next) new
    → FollowsInBook old booking (λ machine next. ReadStep machine who place key reply next) new booking
read_beside old new booking who place key reply = beside old new booking (λ machine next. ReadStep machine who place key reply next) (λ machine next does. read_keeps machine who place key reply next does)

pub write_beside : (old new : State) (booking : Booking) (who place : ℕ) (program : Program) (reply : Reply) → Follows old (λ machine next. WriteStep machine who place program reply next) new
    → FollowsInBook old booking (λ machine next. WriteStep machine who place program reply next) new booking
write_beside old new booking who place program reply = beside old new booking (λ machine next. WriteStep machine who place program reply next) (λ machine next does. write_keeps machine who place program reply next does)

pub again_beside : (old new : State) (booking : Booking) (who : ℕ) (reply : Reply) → Follows old (λ machine next. AgainStep machine who reply next) new
    → FollowsInBook old booking (λ machine next. AgainStep machine who reply next) new booking
again_beside old new booking who reply = beside old new booking (λ machine next. AgainStep machine who reply next) (λ machine next does. again_keeps machine who reply next does)

pub deliver_beside : (old new : State) (booking : Booking) (who : ℕ) (reply : Reply) → Follows old (λ machine next. DeliverStep machine who reply next) new
    → FollowsInBook old booking (λ machine next. DeliverStep machine who reply next) new booking
deliver_beside old new booking who reply = beside old new booking (λ machine next. DeliverStep machine who reply next) (λ machine next does. deliver_keeps machine who reply next does)

pub lose_beside : (old new : State) (booking : Booking) (who : ℕ) (reply : Reply) → Follows old (λ machine next. LoseStep machine who reply next) new
    → FollowsInBook old booking (λ machine next. LoseStep machine who reply next) new booking
lose_beside old new booking who reply = beside old new booking (λ machine next. LoseStep machine who reply next) (λ machine next does. lose_keeps machine who reply next does)

pub offer_beside : (old new : State) (booking : Booking) (place : ℕ) (reply : Reply) → Follows old (λ machine next. OfferStep machine place reply next) new
    → FollowsInBook old booking (λ machine next. OfferStep machine place reply next) new booking
offer_beside old new booking place reply = beside old new booking (λ machine next. OfferStep machine place reply next) (λ machine next does. offer_keeps machine place reply next does)

pub collect_beside : (old new : State) (booking : Booking) (place offer : ℕ) (reply : Reply) → Follows old (λ machine next. CollectStep machine place offer reply next) new
    → FollowsInBook old booking (λ machine next. CollectStep machine place offer reply next) new booking
collect_beside old new booking place offer reply = beside old new booking (λ machine next. CollectStep machine place offer reply next) (λ machine next does. collect_keeps machine place offer reply next does)

pub take_beside : (old new : State) (booking : Booking) (place item : ℕ) (reply : Reply) → Follows old (λ machine next. TakeStep machine place item reply next) new
    → FollowsInBook old booking (λ machine next. TakeStep machine place item reply next) new booking
take_beside old new booking place item reply = beside old new booking (λ machine next. TakeStep machine place item reply next) (λ machine next does. take_keeps machine place item reply next does)

pub fuse_beside : (old new : State) (booking : Booking) (place call : ℕ) (reply : Reply) → Follows old (λ machine next. FuseStep machine place call reply next) new
    → FollowsInBook old booking (λ machine next. FuseStep machine place call reply next) new booking
fuse_beside old new booking place call reply = beside old new booking (λ machine next. FuseStep machine place call reply next) (λ machine next does. fuse_keeps machine place call reply next does)

pub reopen_beside : (old new : State) (booking : Booking) (place : ℕ) (reply : Reply) → Follows old (λ machine next. ReopenStep machine place reply next) new
    → FollowsInBook old booking (λ machine next. ReopenStep machine place reply next) new booking
reopen_beside old new booking place reply = beside old new booking (λ machine next. ReopenStep machine place reply next) (λ machine next does. reopen_keeps machine place reply next does)

pub restart_beside : (old new : State) (booking : Booking) (place : ℕ) (reply : Reply) → Follows old (λ machine next. RestartStep machine place reply next) new
    → FollowsInBook old booking (λ machine next. RestartStep machine place reply next) new booking
restart_beside old new booking place reply = beside old new booking (λ machine next. RestartStep machine place reply next) (λ machine next does. restart_keeps machine place reply next does)

-- ---- a run grows

run_more : (old : Machine) (events : List Event) (replies : List Reply) (mid : Machine) (event : Event) (reply : Reply) (new : Machine) → Run old events replies mid → Step mid event reply new
    → Run old (events ++ event ∷ []) (replies ++ reply ∷ []) new
run_more old [] [] mid event reply new run step = (new, subst (λ (m : Machine). Step m event reply new) run step, refl)
run_more old [] (told ∷ replies) mid event reply new run step = absurd run
run_more old (first ∷ events) [] mid event reply new run step = absurd run
run_more old (first ∷ events) (told ∷ replies) mid event reply new (next, one, rest) step = (next, one, run_more next events replies mid event reply new rest step)

pub SoFar-more : (first : Machine) (events : List Event) (at : ℕ) (replies : List Reply) (state new : State) (booking new_booking : Booking) (event : Event) (reply : Reply) → at < length events → event ≡ get_or events at event
    → SoFar first (take at events) replies state booking → FollowsInBook state booking (λ machine next. Step machine event reply next) new new_booking
    → SoFar first (take (at + 1) events) (replies ++ reply ∷ []) new new_booking
SoFar-more first events at replies state new booking new_booking event reply inside is so_far follows =
    let step = follows so_far.now so_far.good so_far.tagged so_far.tied so_far.book in
    let longer : take (at + 1) events ≡ take at events ++ event ∷ [] = take_more events at event inside ∙ ap (λ e. take at events ++ e ∷ []) (sym is) in
    subst (λ list. SoFar first list (replies ++ reply ∷ []) new new_booking) (sym longer) (record {
      now = step.0;
      run = run_more first (take at events) replies so_far.now event reply step.0 so_far.run step.1;
      good = step_good so_far.now event reply step.0 so_far.good so_far.tagged step.1;
      tagged = step_tagged so_far.now event reply step.0 so_far.good so_far.tagged step.1;
      count = step_count so_far.now event reply step.0 step.1 ∙ so_far.count;
      tied = step.2;
      book = step.3;
    })

-- where it succeeds
pub if_ok : {X E : Type 0} (P Q : X → Type 0) → ((x : X) → P x → Q x) → (result : Result X E) → IfOk result P → IfOk result Q
if_ok P Q each (Ok x) is = each x is
if_ok P Q each (Err error) is = is

-- ---- as a run begins

new_world_session : (who : ℕ) (asks : Option Asks) (world_session : Option WorldSession) → IsFirstSeat who asks world_session → IsSeatOf who world_session (option_map new_session asks)
new_world_session who None None is = tt
new_world_session who None (Some world_session) is = absurd is
new_world_session who (Some asks) None is = absurd is
new_world_session who (Some asks) (Some world_session) is =
    let zero_counts = sessions.new_session world_session.session.id FIRST_RUN asks in record {
      name = is.name;
      asks = ap (λ (t : Told). t.asks) is.session;
      run = ap (λ (t : Told). t.run) is.session;
      begun = ap (λ (t : Told). t.begun) is.session;
      asked = ap (λ (t : Told). t.asked) is.session;
      kept = subst (λ a. IsAskedOf a None) (sym is.asked) tt;
      long = subst (λ (t : Told). (length t.reads ≡ SERVERS) × (length t.writes ≡ SERVERS)) (sym is.session) (length-replicate {A = ℕ} SERVERS 0, length-replicate {A = ℕ} SERVERS 0);
      reads = subst (λ (t : Told). IsVectorOf t.reads []) (sym is.session) IsVectorOf-none;
      writes = subst (λ (t : Told). IsVectorOf t.writes []) (sym is.session) IsVectorOf-none;
      flight = subst (λ f. IsFlightOf f None) (sym is.flight) tt;
      waiting = is.waiting;
      own = All-nil (λ (entry : Entry). entry.session.index ≡ who);
    }

pub begins_tied : (servers : List WorldServer) (world_sessions : List (Option WorldSession)) (count limit capacity : ℕ) (list : List Told) → AreStarted count count limit servers → AreFirstSeats SESSIONS list world_sessions
    → IsTied servers world_sessions [] [] [] (first_machine count limit capacity (asks_of list))
begins_tied servers world_sessions count limit capacity list started seated = record {
  many = started.many;
  servers_are = λ place d inside.
      let fresh = started.fresh place d inside in record {
        stopped = sym fresh.runs;
        core = record { is = fresh.core };
        kept = fresh.kept;
      };
  seats = seated.many;
  sessions_are = λ who inside. new_world_session who (asks_of list who) (seat world_sessions who) (seated.each who inside);
  offers_are = refl;
  items_are = refl;
  served_are = refl;
}

-- ---- as a run ends

dump_at : {E : Type 0} (f : E → List Write) (dumps : List E) (servers : List WorldServer) (place : ℕ) (d : E) (held : List Write) → map f dumps ≡ map held_by servers → place < length servers
    → ((e : WorldServer) → held_by (get_or servers place e) ≡ held) → f (get_or dumps place d) ≡ held
dump_at f dumps [] place d held same inside each = absurd (omega (arith, inside))
dump_at f dumps (server ∷ servers) place d held same inside each =
    let as_many : length dumps ≡ length (server ∷ servers) = sym (length-map dumps f) ∙ ap length same ∙ length-map (server ∷ servers) held_by in
    let here : get_or (map f dumps) place (held_by server) ≡ f (get_or dumps place d) = get_or-map f dumps place d (held_by server) (omega (arith, inside, as_many)) in
    let there : get_or (map held_by (server ∷ servers)) place (held_by server) ≡ held_by (get_or (server ∷ servers) place server) = get_or-map held_by (server ∷ servers) place server (held_by server) inside in
    sym here ∙ ap (λ list. get_or list place (held_by server)) same ∙ there ∙ each server

leaves : (first : Machine) (events : List Event) (state : State) (booking : Booking) (replies : List Reply) (totals : Totals) (history : RunHistory) → SoFar first events replies state booking
    → IsLeft state.servers.items state.served.items replies totals history
    → totals ≡ totals_of 0 (number_of is_read booking.entries) (number_of is_write booking.entries) (number_of is_refusal booking.entries) → Leaves first events history
leaves first events state booking replies totals history so_far left counted =
    let now = so_far.now in
    let items = λ (dump : Vec Write). dump.items in
    let many : length history.dumps.items ≡ first.count =
    sym (length-map history.dumps.items items) ∙ ap length left.dumps ∙ length-map state.servers.items held_by ∙ so_far.tied.many ∙ so_far.count in
    record {
      last = now;
      run = subst (λ list. Run first events list now) (sym left.replies) so_far.run;
      served = left.served ∙ so_far.tied.served_are;
      one_each = many;
      dumps = λ place d inside.
          let here : place < now.count = omega (arith, inside, so_far.count) in
          dump_at items history.dumps.items state.servers.items place d (writes (now.servers place).held) left.dumps (omega (arith, here, so_far.tied.many))
          (λ e. ap (λ (c : Core). c.held) (so_far.tied.servers_are place e here).core.is);
      totals = left.totals ∙ counted ∙ ap (λ list. totals_of 0 (number_of is_read list) (number_of is_write list) (number_of is_refusal list)) so_far.book.entries;
    }

-- from the beginning
pub history_is : (begun : Begun) (state new : State) (booking new_booking : Booking) (events : List Event) (replies : List Reply) (totals : Totals) (history : RunHistory)
    → IsFirstState begun state → booking ≡ record { capacity = capacity_for events; entries = [] }
    → ((first : Machine) → IsGoodMachine first → AreTagged first → IsOf state first → IsBookOf booking first → SoFar first events replies new new_booking)
    → IsLeft new.servers.items new.served.items replies totals history
    → totals ≡ totals_of 0 (number_of is_read new_booking.entries) (number_of is_write new_booking.entries) (number_of is_refusal new_booking.entries) → IsRunHistory begun events history
history_is begun state new booking new_booking events replies totals history begins book plays left counted =
    let servers = state.servers.items in
    let world_sessions = state.sessions.items in
    let first = first_machine begun.count begun.limit (capacity_for events) (asks_of begun.sessions) in
    let tied = begins_tied servers world_sessions begun.count begun.limit (capacity_for events) begun.sessions begins.started begins.seated in
    let is_of : IsTied servers world_sessions state.offers.items state.items.items state.served.items first =
    subst (λ x. IsTied servers world_sessions x state.items.items state.served.items first) (sym begins.offers)
    (subst (λ x. IsTied servers world_sessions [] x state.served.items first) (sym begins.items)
    (subst (λ x. IsTied servers world_sessions [] [] x first) (sym begins.served) tied)) in
    let so_far = plays first (first_good begun.count begun.limit (capacity_for events) (asks_of begun.sessions))
    (first_tagged begun.count begun.limit (capacity_for events) (asks_of begun.sessions)) is_of
    (record { capacity = ap (λ (b : Booking). b.capacity) book; entries = ap (λ (b : Booking). b.entries) book }) in
    let told = leaves first events new new_booking replies totals history so_far left counted in
    record { last = told.last; run = told.run; served = told.served; one_each = told.one_each; dumps = told.dumps; totals = told.totals }
