-- What a server of a script takes from another is told by an Offer, a Collect and a Take of each item.
use Rattle.std.proofs.Common.{◌≡◌, ◌≢◌, ℕ, suc, ◌+◌, ◌≤◌, Bool, true, false, cond, List, [], ◌∷◌, ◌++◌, Result, Ok, Err, Option, None, Some, filter, length, map, max, nat_lt, slice_index, drop, ap, sym, ◌∙◌, refl, subst, arith, append_assoc, take-append-drop}
use Rattle.std.specs.List.{slice_get}
use Rattle.std.proofs.lemmas.List.{append-nil, length_push, length-map}
use Rattle.bayou_base.specs.declared.limits.TheConstants.{MAX_NUMBER, MAX_WRITES}
use Rattle.bayou_base.specs.declared.server.ServerId.{ServerId}
use Rattle.bayou_lang.specs.declared.write.Write.{Write}
use Rattle.bayou_lang.specs.Laws.StampOrder.{length-in_stamp_order}
use Rattle.bayou_lang.specs.Writes.{count_of, in_stamp_order, lacking_of}
use Rattle.bayou_device.specs.MemoryDevice.{memory_device}
use Rattle.bayou_server.specs.declared.answer.Took.{Took}
use Rattle.bayou_server.specs.declared.fault.TakeFault.{TakeFault}
use Rattle.bayou_server.specs.Server.{Core, IsSoundServer}
use Rattle.bayou_server.specs.Takes.{Takes}
use Rattle.bayou_server.specs.TakesAll.{TakesAt, TakesEach}
use Rattle.bayou_frames.specs.declared.fault.ChannelFault.TheVariants as faults
use Rattle.bayou_peer.specs.declared.fault.PullFault.{PullFault}
use Rattle.bayou_peer.specs.declared.fault.PullFault.TheVariants.{Refused as RefusedItem, Stream}
use Rattle.bayou_peer.specs.declared.pulling.Pulled.{Pulled}
use Rattle.bayou_peer.specs.declared.pulling.PullStopped.{PullStopped}
use Rattle.bayou_peer.specs.Meeting.{Meets, MeetsStopped, coming}
use Rattle.bayou_machine.specs.Exchange.{serving_ways}
use Rattle.bayou_machine.specs.ScriptServer.{Serving}
use Rattle.bayou_world.specs.declared.event.Event.{Event}
use Rattle.bayou_world.specs.declared.event.Event.TheVariants as events_of
use Rattle.bayou_world.specs.declared.reply.Reply.{Reply}
use Rattle.bayou_world.specs.declared.reply.Reply.TheVariants as replies_of
use Rattle.bayou_world.specs.Machine.{Machine, Made, Offered, ServerSets, with_server, writes}
use Rattle.bayou_world.specs.Never.{core_at}
use Rattle.bayou_world.specs.Runs.{Run}
use Rattle.bayou_world.specs.Steps.{IsRunning, TakeStep, with_doubt, with_write}
use Rattle.bayou_runs.specs.Inner.Tie.{AreRows, IsSafe, StayHonest}
use Rattle.bayou_runs.specs.Lines.{EndsBy, IsEnd, takes, tells_took}
use Rattle.bayou_runs.proofs.Lists.{changed-other, changed-same, get-append_here}
use Rattle.bayou_runs.proofs.Operating.{run_append}
use Rattle.bayou_runs.proofs.Safe.{safe_taken}

-- all but this server is as it was, and it runs as it did
pub record IsServerOnly (old : Machine) (place : ℕ) (new : Machine) : Type 0 where
  pub count : new.count ≡ old.count
  pub limit : new.limit ≡ old.limit
  pub capacity : new.capacity ≡ old.capacity
  pub servers : (other : ℕ) → other ≢ place → new.servers other ≡ old.servers other
  pub stopped : (new.servers place).stopped ≡ (old.servers place).stopped
  pub sessions : new.sessions ≡ old.sessions
  pub offers : new.offers ≡ old.offers
  pub items : new.items ≡ old.items
  pub filed : new.filed ≡ old.filed

pub only_same : (old new : Machine) (place : ℕ) → new ≡ old → IsServerOnly old place new
only_same old new place same = subst (IsServerOnly old place) (sym same) (record {
  count = refl;
  limit = refl;
  capacity = refl;
  servers = λ other differs. refl;
  stopped = refl;
  sessions = refl;
  offers = refl;
  items = refl;
  filed = refl;
})

only_one : (old : Machine) (place : ℕ) (server : ServerSets) → server.stopped ≡ (old.servers place).stopped → IsServerOnly old place (with_server old place server)
only_one old place server stopped = record {
  count = refl;
  limit = refl;
  capacity = refl;
  servers = λ other differs. changed-other old.servers place server other differs;
  stopped = ap (λ (s : ServerSets). s.stopped) (changed-same old.servers place server) ∙ stopped;
  sessions = refl;
  offers = refl;
  items = refl;
  filed = refl;
}

only_then : (old mid new : Machine) (place : ℕ) → IsServerOnly old place mid → IsServerOnly mid place new → IsServerOnly old place new
only_then old mid new place one next = record {
  count = next.count ∙ one.count;
  limit = next.limit ∙ one.limit;
  capacity = next.capacity ∙ one.capacity;
  servers = λ other differs. next.servers other differs ∙ one.servers other differs;
  stopped = next.stopped ∙ one.stopped;
  sessions = next.sessions ∙ one.sessions;
  offers = next.offers ∙ one.offers;
  items = next.items ∙ one.items;
  filed = next.filed ∙ one.filed;
}

-- a Take changes nothing but the server that takes
take_only : (old : Machine) (place item : ℕ) (answer : Result Took TakeFault) (new : Machine) → TakeStep old place item (replies_of.Took answer) new → IsServerOnly old place new
take_only old place item answer new (TakeStep.skipped none is same) = only_same old new place same
take_only old place item answer new (TakeStep.had made given holds is same) = only_same old new place same
take_only old place item answer new (TakeStep.refused made fault given refused is same) = only_same old new place same
take_only old place item answer new (TakeStep.doubted made given next room is same) = subst (IsServerOnly old place) (sym same) (only_one old place (with_doubt (old.servers place) made) refl)
take_only old place item answer new (TakeStep.taken made given next room is same) = subst (IsServerOnly old place) (sym same) (only_one old place (with_write (old.servers place) made) refl)

none_more : (first : ℕ) → first ≡ first + 0
none_more first = omega arith

one_more : (first number : ℕ) → (first + 1) + number ≡ first + suc number
one_more first number = omega arith

abbrev oks : List Took → List (Result Took TakeFault)
oks tooks = map (λ (took : Took). Ok took) tooks

-- the items from this one on, which are given to the server
pub record AreItems (machine : Machine) (first : ℕ) (list : List Made) : Type 0 where
  pub before : List Made
  pub behind : List Made
  pub split : machine.items ≡ before ++ (list ++ behind)
  pub at : first ≡ length before

-- what taking items leaves of the server and of the machine
pub record AreTaken (lost : Bool) (old : Machine) (place : ServerId) (first : ℕ) (told : List (Result Took TakeFault)) (server : Serving) (last : Machine) : Type 0 where
  pub run : Run old (takes place first (length told)) (map tells_took told) last
  pub only : IsServerOnly old place.index last
  pub core_is : server.core ≡ core_at last place.index
  pub safe : IsSafe lost server

module _ (laws : StayHonest) (lost : Bool) (first_one : Machine) (have : (events : List Event) (replies : List Reply) (last : Machine) → Run first_one events replies last → AreRows last) where
  -- one item is given
  take_one : (events : List Event) (replies : List Reply) (old : Machine) → Run first_one events replies old → (place : ServerId) (at : ℕ) (made : Made) → IsRunning old place.index → slice_get old.items at ≡ Some made
      → (server now : Serving) → server.core ≡ core_at old place.index → (answer : Result Took TakeFault) → TakesAt memory_device server made.write answer now
      → (next : Machine) × TakeStep old place.index at (replies_of.Took answer) next × IsServerOnly old place.index next × (now.core ≡ core_at next place.index)
  take_one events replies old run place at made running there server now core answer does =
      let row = (have events replies old run).takes_are place.index at made (record { server = running; there = there }) answer now.core
      (subst (λ c. Takes c made.write answer now.core) core does.takes) in
      (row.0, row.1, take_only old place.index at answer row.0 row.1, row.2)

  runs_on : (old new : Machine) (place : ℕ) → IsServerOnly old place new → IsRunning old place → IsRunning new place
  runs_on old new place only running = record { there = omega (arith, running.there, only.count); runs = only.stopped ∙ running.runs }

  -- each of these items was taken, one after another
  take_each : (events : List Event) (replies : List Reply) (old : Machine) → Run first_one events replies old → (place : ServerId) (first : ℕ) (list : List Made) → IsRunning old place.index → AreItems old first list
      → (server now : Serving) → server.core ≡ core_at old place.index → IsSafe lost server → (given : List Write) (rest : List Write) (tooks : List Took) → writes list ≡ given ++ rest
      → TakesEach (TakesAt memory_device) server given tooks now
      → (last : Machine) × AreTaken lost old place first (oks tooks) now last × ((more : List Made) × AreItems last (first + length tooks) more × (writes more ≡ rest))
  take_each events replies old run place first list running items server now core safe [] rest [] split each = (
    old,
    record {
      run = refl;
      only = only_same old old place.index refl;
      core_is = ap (λ (s : Serving). s.core) each ∙ core;
      safe = subst (IsSafe lost) (sym each) safe;
    },
    (list, subst (λ n. AreItems old n list) (none_more first) items, split),
  )
  take_each events replies old run place first list running items server now core safe [] rest (took ∷ tooks) split each = absurd each
  take_each events replies old run place first list running items server now core safe (write ∷ given) rest [] split each = absurd each
  take_each events replies old run place first [] running items server now core safe (write ∷ given) rest (took ∷ tooks) split each = absurd (cc)
  take_each events replies old run place first (made ∷ list) running items server now core safe (write ∷ given) rest (took ∷ tooks) split (mid, does, each) =
      let is : made.write ≡ write = cc in
      let later : writes list ≡ given ++ rest = cc in
      let there : slice_get old.items first ≡ Some made =
      subst (λ n. slice_get old.items n ≡ Some made) (sym items.at)
      (subst (λ all. slice_get all (length items.before) ≡ Some made) (sym items.split) (get-append_here items.before (list ++ items.behind) made)) in
      let one = take_one events replies old run place first made running there server mid core (Ok took) (subst (λ w. TakesAt memory_device server w (Ok took) mid) (sym is) does) in
      let next = one.0 in
      let behind : AreItems next (first + 1) list = record {
        before = items.before ++ made ∷ [];
        behind = items.behind;
        split = one.2.items ∙ (items.split ∙ sym (append_assoc items.before (made ∷ []) (list ++ items.behind)));
        at = omega (arith, items.at, length_push items.before made);
      } in
      let others = take_each (events ++ events_of.Take place first ∷ []) (replies ++ replies_of.Took (Ok took) ∷ []) next
      (run_append first_one old next events replies (events_of.Take place first ∷ []) (replies_of.Took (Ok took) ∷ []) run (next, one.1, refl))
      place (first + 1) list (runs_on old next place.index one.2 running) behind mid now one.3 (safe_taken laws lost server mid safe write (Ok took) does) given rest tooks later each in
      let last = others.0 in (
        last,
        record {
          run = (next, one.1, others.1.run);
          only = only_then old next last place.index one.2 others.1.only;
          core_is = others.1.core_is;
          safe = others.1.safe;
        },
        (others.2.0, subst (λ n. AreItems last n others.2.0) (one_more first (length tooks)) others.2.1, others.2.2),
      )

  -- the items before the last one were taken, and that one wasn't
  take_last : (events : List Event) (replies : List Reply) (old : Machine) → Run first_one events replies old → (place : ServerId) (first : ℕ) (list : List Made) → IsRunning old place.index → AreItems old first list
      → (server mid now : Serving) → server.core ≡ core_at old place.index → IsSafe lost server → (given : List Write) (write : Write) (rest : List Write) (tooks : List Took) → writes list ≡ given ++ write ∷ rest
      → TakesEach (TakesAt memory_device) server given tooks mid → (fault : TakeFault) → TakesAt memory_device mid write (Err fault) now
      → (last : Machine) × AreTaken lost old place first (oks tooks ++ Err fault ∷ []) now last
  take_last events replies old run place first list running items server mid now core safe [] write rest [] split each fault does = at_last list items split
    where
      at_last : (list : List Made) → AreItems old first list → writes list ≡ write ∷ rest → (last : Machine) × AreTaken lost old place first (Err fault ∷ []) now last
      at_last [] items split = absurd (cc)
      at_last (made ∷ list) items split =
          let is : made.write ≡ write = cc in
          let there : slice_get old.items first ≡ Some made =
          subst (λ n. slice_get old.items n ≡ Some made) (sym items.at)
          (subst (λ all. slice_get all (length items.before) ≡ Some made) (sym items.split) (get-append_here items.before (list ++ items.behind) made)) in
          let one = take_one events replies old run place first made running there mid now (ap (λ (s : Serving). s.core) each ∙ core) (Err fault) (subst (λ w. TakesAt memory_device mid w (Err fault) now) (sym is) does) in
          (one.0, record { run = (one.0, one.1, refl); only = one.2; core_is = one.3; safe = safe_taken laws lost mid now (subst (IsSafe lost) (sym each) safe) write (Err fault) does })
  take_last events replies old run place first list running items server mid now core safe [] write rest (took ∷ tooks) split each fault does = absurd each
  take_last events replies old run place first list running items server mid now core safe (one ∷ given) write rest [] split each fault does = absurd each
  take_last events replies old run place first [] running items server mid now core safe (one ∷ given) write rest (took ∷ tooks) split each fault does = absurd (cc)
  take_last events replies old run place first (made ∷ list) running items server mid now core safe (one ∷ given) write rest (took ∷ tooks) split (middle, taken, each) fault does =
      let is : made.write ≡ one = cc in
      let later : writes list ≡ given ++ write ∷ rest = cc in
      let there : slice_get old.items first ≡ Some made =
      subst (λ n. slice_get old.items n ≡ Some made) (sym items.at)
      (subst (λ all. slice_get all (length items.before) ≡ Some made) (sym items.split) (get-append_here items.before (list ++ items.behind) made)) in
      let step = take_one events replies old run place first made running there server middle core (Ok took) (subst (λ w. TakesAt memory_device server w (Ok took) middle) (sym is) taken) in
      let next = step.0 in
      let behind : AreItems next (first + 1) list = record {
        before = items.before ++ made ∷ [];
        behind = items.behind;
        split = step.2.items ∙ (items.split ∙ sym (append_assoc items.before (made ∷ []) (list ++ items.behind)));
        at = omega (arith, items.at, length_push items.before made);
      } in
      let others = take_last (events ++ events_of.Take place first ∷ []) (replies ++ replies_of.Took (Ok took) ∷ []) next
      (run_append first_one old next events replies (events_of.Take place first ∷ []) (replies_of.Took (Ok took) ∷ []) run (next, step.1, refl))
      place (first + 1) list (runs_on old next place.index step.2 running) behind middle mid now step.3 (safe_taken laws lost server middle safe one (Ok took) taken) given write rest tooks later each fault does in
      let last = others.0 in (
        last,
        record {
          run = (next, step.1, others.1.run);
          only = only_then old next last place.index step.2 others.1.only;
          core_is = others.1.core_is;
          safe = others.1.safe;
        },
      )

-- ---- how many items there may be

kept_few : (p : Write → Bool) (list : List Write) → length (filter p list) ≤ length list
kept_few p [] = omega arith
kept_few p (write ∷ list) = elim (p write) as (λ t. length (cond t (write ∷ filter p list) (filter p list)) ≤ length (write ∷ list)) [
  | true ↦ omega (arith, kept_few p list)
  | false ↦ omega (arith, kept_few p list)
]

pub lacking_few : (counts : List ℕ) (held : List Write) → length (lacking_of counts held) ≤ length held
lacking_few counts held = omega (arith, kept_few (λ (write : Write). nat_lt (slice_index counts write.wid.origin.index) write.wid.seq) (in_stamp_order held), length-in_stamp_order held)

-- what comes is a front of what is sent
pub coming_front : (cut : Option ℕ) (sent : List Write) → (rest : List Write) × (sent ≡ coming cut sent ++ rest)
coming_front None sent = ([], sym (append-nil sent))
coming_front (Some items) sent = (drop items sent, sym (take-append-drop items sent))

-- what a pull leaves that collects for this offer
pub record IsPulled (lost : Bool) (old : Machine) (to source : ServerId) (offer : ℕ) (result : Result Pulled PullStopped) (now : Serving) : Type 0 where
  pub number : ℕ
  pub told : List (Result Took TakeFault)
  pub lacking : List Made
  pub last : Machine
  pub ends : IsEnd told result
  pub run : Run old (events_of.Collect source offer ∷ takes to (length old.items) (length told)) (replies_of.Flown (length old.items) number ∷ map tells_took told) last
  pub only : IsServerOnly (record old { items = old.items ++ lacking }) to.index last
  pub core_is : now.core ≡ core_at last to.index
  pub safe : IsSafe lost now
  pub few : length lacking ≤ MAX_WRITES

max_few : (number most : ℕ) → number ≤ most → 1 ≤ most → max number 1 ≤ most
max_few number most few one = omega (arith, few, one)

module _ (laws : StayHonest) (lost : Bool) (first_one : Machine) (have : (events : List Event) (replies : List Reply) (last : Machine) → Run first_one events replies last → AreRows last) where
  pub collected : (events : List Event) (replies : List Reply) (old : Machine) → Run first_one events replies old → (to source : ServerId) (offer : ℕ) (offered : Offered) → slice_get old.offers offer ≡ Some offered
      → IsRunning old to.index → IsRunning old source.index → (server other now : Serving) → server.core ≡ core_at old to.index → IsSafe lost server → other.core ≡ core_at old source.index → IsSoundServer other.core
      → old.limit ≤ MAX_WRITES → length old.items + MAX_WRITES ≤ MAX_NUMBER + 1 → (cut : Option ℕ) (result : Result Pulled PullStopped)
      → Meets serving_ways (lacking_of (count_of offered.database) other.core.held) cut server result now → IsPulled lost old to source offer result now
  collected events replies old run to source offer offered there running_to running_source server other now core safe other_core other_sound limit room cut result meets =
      let row = (have events replies old run).collects_are source offer offered running_source there in
      let lacking = row.0 in
      let counts = count_of offered.database in
      let held : other.core.held ≡ writes (old.servers source.index).held = ap (λ (c : Core). c.held) other_core in
      let sent : lacking_of counts other.core.held ≡ writes lacking = ap (lacking_of counts) held ∙ sym row.1 in
      let few : length lacking ≤ MAX_WRITES =
      omega (arith, length-map lacking (λ (made : Made). made.write), ap length sent, lacking_few counts other.core.held, other_sound.holds.within, ap (λ (c : Core). c.limit) other_core, limit) in
      let mid = record old { items = old.items ++ lacking } in
      let most = max_few (length lacking) MAX_WRITES few (omega arith) in
      let step = row.2 (omega (arith, room, most)) in
      let run_mid : Run first_one (events ++ events_of.Collect source offer ∷ []) (replies ++ replies_of.Flown (length old.items) (length lacking) ∷ []) mid =
      run_append first_one old mid events replies (events_of.Collect source offer ∷ []) (replies_of.Flown (length old.items) (length lacking) ∷ []) run (mid, step, refl) in
      let items : AreItems mid (length old.items) lacking = record { before = old.items; behind = []; split = ap (λ list. old.items ++ list) (sym (append-nil lacking)); at = refl } in
      let running : IsRunning mid to.index = record { there = running_to.there; runs = running_to.runs } in
      let front = coming_front cut (lacking_of counts other.core.held) in
      let split : (given left : List Write) → coming cut (lacking_of counts other.core.held) ≡ given ++ left → writes lacking ≡ given ++ (left ++ front.0) = λ given left is.
      sym sent ∙ (front.1 ∙ (ap (λ list. list ++ front.0) is ∙ append_assoc given left front.0)) in
      let all : (given left : List Write) (tooks : List Took) → coming cut (lacking_of counts other.core.held) ≡ given ++ left → TakesEach (TakesAt memory_device) server given tooks now
      → IsEnd (oks tooks) result → IsPulled lost old to source offer result now = λ given left tooks is each ends.
      let taken = take_each laws lost first_one have (events ++ events_of.Collect source offer ∷ []) (replies ++ replies_of.Flown (length old.items) (length lacking) ∷ []) mid run_mid to (length old.items) lacking running items server now core safe
      given (left ++ front.0) tooks (split given left is) each in
      record {
        number = length lacking;
        told = oks tooks;
        lacking = lacking;
        last = taken.0;
        ends = ends;
        run = (mid, step, taken.1.run);
        only = taken.1.only;
        core_is = taken.1.core_is;
        safe = taken.1.safe;
        few = few;
      } in
      by_result result meets all (λ given write left tooks middle is each fault does ends.
      let taken = take_last laws lost first_one have (events ++ events_of.Collect source offer ∷ []) (replies ++ replies_of.Flown (length old.items) (length lacking) ∷ []) mid run_mid to (length old.items) lacking running items server middle now core safe
      given write (left ++ front.0) tooks (split given (write ∷ left) is) each fault does in
      record {
        number = length lacking;
        told = oks tooks ++ Err fault ∷ [];
        lacking = lacking;
        last = taken.0;
        ends = ends;
        run = (mid, step, taken.1.run);
        only = taken.1.only;
        core_is = taken.1.core_is;
        safe = taken.1.safe;
        few = few;
      })
    where
      by_result : (result : Result Pulled PullStopped) → Meets serving_ways (lacking_of (count_of offered.database) other.core.held) cut server result now
          → ((given left : List Write) (tooks : List Took) → coming cut (lacking_of (count_of offered.database) other.core.held) ≡ given ++ left → TakesEach (TakesAt memory_device) server given tooks now
          → IsEnd (oks tooks) result → IsPulled lost old to source offer result now)
          → ((given : List Write) (write : Write) (left : List Write) (tooks : List Took) (middle : Serving) → coming cut (lacking_of (count_of offered.database) other.core.held) ≡ given ++ write ∷ left
          → TakesEach (TakesAt memory_device) server given tooks middle → (fault : TakeFault) → TakesAt memory_device middle write (Err fault) now → IsEnd (oks tooks ++ Err fault ∷ []) result → IsPulled lost old to source offer result now)
          → IsPulled lost old to source offer result now
      by_result (Ok pulled) (not_cut, first) all last = all first.given [] first.tooks first.split first.took (first.tooks, record { taken = first.new; had = first.held }, refl)
      by_result (Err stopped) meets all last = by_fault stopped.fault refl meets
        where
          by_fault : (fault : PullFault) → stopped.fault ≡ fault → MeetsStopped serving_ways (lacking_of (count_of offered.database) other.core.held) cut server stopped.before fault now → IsPulled lost old to source offer (Err stopped) now
          by_fault (RefusedItem refusal) is (middle, write, left, first, does) =
              last first.given write left first.tooks middle first.split first.took refusal does
              (first.tooks, record { taken = first.new; had = first.held }, subst (EndsBy first.tooks (oks first.tooks ++ Err refusal ∷ [])) (sym is) refl)
          by_fault (Stream faults.Cut) is (cut_off, first) =
              all first.given [] first.tooks first.split first.took (first.tooks, record { taken = first.new; had = first.held }, subst (EndsBy first.tooks (oks first.tooks)) (sym is) refl)
          by_fault (Stream faults.BadFrame) is none = absurd none
          by_fault (Stream faults.Write) is none = absurd none
          by_fault (Stream faults.Read) is none = absurd none
          by_fault (Stream faults.TooManyTurns) is none = absurd none
          by_fault (Stream faults.OutOfMemory) is (left, first) =
              all first.given left first.tooks first.split first.took (first.tooks, record { taken = first.new; had = first.held }, subst (EndsBy first.tooks (oks first.tooks)) (sym is) refl)
