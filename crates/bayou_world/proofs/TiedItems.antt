-- What is offered, collected and taken by the servers that run, is so in the machine.
use Rattle.std.proofs.Common.{◌≡◌, ◌≢◌, ◌↔◌, inl, inr, ◌⊎◌, ℕ, zero, suc, ◌+◌, ◌<◌, ◌≤◌, Bool, cond, true, false, nat_lt, max, List, [], ◌∷◌, ◌++◌, Option, None, Some, Result, Ok, Err, IsSome, map, length, get_or, set, filter, take, Contains, AllPairs, slice_index, ap, sym, ◌∙◌, refl, subst, arith}
use Rattle.std.specs.List.{slice_get}
use Rattle.std.proofs.lemmas.Bool.{cases_lt}
use Rattle.std.proofs.lemmas.Bool.Decides.{nat_tests}
use Rattle.std.proofs.lemmas.List.{length-map, map-append, take_all}
use Rattle.std.proofs.lemmas.List.Elements.{All-contains, All-map}
use Rattle.std.proofs.lemmas.List.Kept.{AllPairs-cons, AllPairs-filter}
use Rattle.std.proofs.lemmas.Option.{get_or_from_slice_get, slice_get_within}
use Rattle.bayou_base.specs.declared.entry.Entry.{Entry}
use Rattle.bayou_base.specs.Order.{is_before}
use Rattle.bayou_base.specs.Vector.{Dominates}
use Rattle.bayou_base.specs.declared.wid.Wid.{Wid}
use Rattle.bayou_lang.specs.declared.write.Write.{Write}
use Rattle.bayou_lang.specs.Laws.Fitting.{fitting-front, fitting_distinct_stamps}
use Rattle.bayou_lang.specs.Laws.SetOfWrites.{IsStrict, IsStrict-in_stamp_order, in_stamp_order-same, in_stamp_order-same_writes}
use Rattle.bayou_lang.specs.Laws.StampOrder.{is_before-asym, length-in_stamp_order}
use Rattle.bayou_lang.specs.Writes.{AreFitting, HasNoGap, IsWellStamped, count_of, in_stamp_order, lacking_of}
use Rattle.bayou_judge.specs.History.{IsFrontOf}
use Rattle.bayou_server.specs.declared.answer.Took.{Took}
use Rattle.bayou_server.specs.declared.answer.Took.TheVariants.{New, Had}
use Rattle.bayou_server.specs.declared.fault.TakeFault.{TakeFault}
use Rattle.bayou_server.specs.declared.fault.TakeFault.TheVariants as taking
use Rattle.bayou_device.specs.Memory.{Memory}
use Rattle.bayou_server.specs.Server.{Core, ServerState}
use Rattle.bayou_server.specs.Takes as takes
use Rattle.bayou_world.specs.declared.world_session.WorldSession.{WorldSession}
use Rattle.bayou_world.specs.declared.world_server.WorldServer.{WorldServer}
use Rattle.bayou_world.specs.declared.world_server.WorldServer.TheVariants.{Running}
use Rattle.bayou_world.specs.declared.reply.Reply.TheVariants as replies
use Rattle.bayou_world.specs.Inner.Good.{IsGoodMachine, IsHome}
use Rattle.bayou_world.specs.Inner.WorldServers.{StaysHonest}
use Rattle.bayou_world.specs.Inner.Tie.{IsServerOf, IsTied, write_of}
use Rattle.bayou_world.specs.Machine.{Machine, Made, Offered, ServerSets, names, tag_at, with_server, writes}
use Rattle.bayou_world.specs.Steps.{AreLacking, CollectStep, HoldsName, IsGiven, IsNext, IsRunning, OfferStep, TakeStep, with_doubt, with_write}
use Rattle.bayou_base.specs.declared.limits.TheConstants.{MAX_NUMBER}
use Rattle.bayou_world.proofs.Beside.{no_tag}
use Rattle.bayou_world.proofs.Given.{given_fits, no_gap_within}
use Rattle.bayou_world.proofs.Homes.{fitting_at, home_of_held, one_home, one_write}
use Rattle.bayou_world.proofs.Lists.{AllPairs-map, Contains-filter, Contains-from_filter, Contains-here, Contains-later, Contains-map, Contains-map_from, Contains-none}
use Rattle.bayou_world.proofs.Tied.{running_server, runs_at, same_place, with_place}
use Rattle.bayou_world.proofs.Vectors.{IsVectorOf-counts, named}
use Rattle.bayou_world.proofs.TiedWrites.{doubted_there, held_more, no_doubt, some_doubt}

-- ---- an offer

pub offer_tied : (servers : List WorldServer) (world_sessions : List (Option WorldSession)) (offers : List (List ℕ)) (items : List Write) (told : List Entry) (machine : Machine)
    → IsTied servers world_sessions offers items told machine → (place : ℕ) (server : ServerState Memory) (vector : List ℕ) → place < length servers → get_or servers place (Running server) ≡ Running server → length offers ≤ MAX_NUMBER
    → vector ≡ count_of server.core.held
    → (next : Machine) × OfferStep machine place (replies.Kept (length offers)) next × IsTied servers world_sessions (offers ++ vector ∷ []) items told next
offer_tied servers world_sessions offers items told machine tied place server vector known stands few counts =
    let here = runs_at servers world_sessions offers items told machine tied place server known stands in
    let core = here.core in
    let held_is : server.core.held ≡ writes (machine.servers place).held = ap (λ (c : Core). c.held) core.is in
    let offered : Offered = record { server = place; database = writes (machine.servers place).held } in
    let count_offer : Offered → List ℕ = λ offer. count_of offer.database in
    let as_many : length offers ≡ length machine.offers = ap length tied.offers_are ∙ length-map machine.offers count_offer in (
      record machine { offers = machine.offers ++ offered ∷ [] },
      OfferStep.kept here.running (omega (arith, few, as_many)) (ap replies.Kept as_many) refl,
      record {
        many = tied.many;
        servers_are = tied.servers_are;
        seats = tied.seats;
        sessions_are = tied.sessions_are;
        offers_are = ap (λ list. list ++ vector ∷ []) tied.offers_are ∙ ap (λ v. map count_offer machine.offers ++ v ∷ []) (counts ∙ ap count_of held_is)
            ∙ sym (map-append count_offer machine.offers (offered ∷ []));
        items_are = tied.items_are;
        served_are = tied.served_are;
      },
    )

-- ---- an item

-- the item of that number
item_there : (items : List Made) (item : ℕ) (write : Write) → item < length items → get_or (map write_of items) item write ≡ write → (made : Made) × (slice_get items item ≡ Some made) × (made.write ≡ write)
item_there [] item write inside is = absurd (omega (arith, inside))
item_there (made ∷ items) zero write inside is = (made, refl, is)
item_there (made ∷ items) (suc item) write inside is = item_there items item write (omega (arith, inside)) is

-- none of its name is held, as the code says it
pub is_missing : (server : ServerSets) (made : Made) → takes.IsMissing (writes server.held) made.write → ¬ HoldsName server made
is_missing server made missing holds =
    let at = Contains-map_from (λ (w : Write). w.wid) (writes server.held) made.write.wid holds in
    All-contains (λ (w : Write). w.wid ≢ made.write.wid) (writes server.held) at.0 missing at.1 at.2

-- an item that a server made is held there
pub own_held : (machine : Machine) → (place : ℕ) (made : Made) → IsHome machine.servers made → made.write.wid.origin.index ≡ place → HoldsName (machine.servers place) made
own_held machine place made home own =
    Contains-map (λ (w : Write). w.wid) (writes (machine.servers place).held) made.write
    (Contains-map (λ (m : Made). m.write) (machine.servers place).held made (subst (λ n. Contains (machine.servers n).held made) own home))

-- what fits there is the server's next
next_there : (machine : Machine) → IsGoodMachine machine → (place : ℕ) (made : Made) → IsHome machine.servers made → (core : Core) → IsServerOf machine.count machine.limit place core (machine.servers place)
    → takes.IsFit core made.write → IsNext (machine.servers place) made
next_there machine good place made home core at fit =
    let there = subst (λ (c : Core). takes.IsFit c made.write) at.is fit in record {
      fresh = record { missing = is_missing (machine.servers place) made there.foreign.missing; up = no_doubt (machine.servers place).doubt there.foreign.up };
      past = no_gap_within machine.count machine.limit machine.servers good.servers place made home there.fits.0;
    }

room_there : (machine : Machine) (place : ℕ) (core : Core) → IsServerOf machine.count machine.limit place core (machine.servers place) → length core.held < core.limit → length (machine.servers place).held < machine.limit
room_there machine place core at room =
    omega (arith, room, length-map (machine.servers place).held write_of, ap length (ap (λ (c : Core). c.held) at.is), ap (λ (c : Core). c.limit) at.is)

-- of an item that it takes, which is another's, the server knows no tag
not_its_own : (place : ℕ) (made : Made) (core : Core) (count limit : ℕ) (server : ServerSets) → IsServerOf count limit place core server → takes.IsTakable core made.write → tag_at place made ≡ None
not_its_own place made core count limit server at takable = no_tag place made (subst (λ (c : Core). made.write.wid.origin.index ≢ c.id) at.is takable.fit.foreign.foreign)

-- what the code says of an item, the machine says
pub took : (machine : Machine) → IsGoodMachine machine → (place item : ℕ) (made : Made) → IsGiven machine place item made → IsHome machine.servers made → (core new : Core) (answer : Result Took TakeFault)
    → IsServerOf machine.count machine.limit place core (machine.servers place) → takes.Takes core made.write answer new
    → (next : Machine) × TakeStep machine place item (replies.Took answer) next × ((next ≡ machine) × (new ≡ core)
    ⊎ ((server : ServerSets) × (next ≡ with_server machine place server) × (server.stopped ≡ (machine.servers place).stopped) × IsServerOf machine.count machine.limit place new server))
took machine good place item made given home core new (Ok Had) at (has, same) =
    let held : Contains (writes (machine.servers place).held) made.write = subst (λ (c : Core). Contains c.held made.write) at.is has in
    (machine, TakeStep.had made given (Contains-map (λ (w : Write). w.wid) (writes (machine.servers place).held) made.write held) refl refl, inl (refl, same))
took machine good place item made given home core new (Err taking.Conflict) at (another, same) =
    let held : Contains (writes (machine.servers place).held) another.other = subst (λ (c : Core). Contains c.held another.other) at.is another.among in
    let as_made = Contains-map_from (λ (m : Made). m.write) (machine.servers place).held another.other held in
    let other_home = home_of_held machine.count machine.limit machine.servers good.servers place as_made.0 as_made.1 in
    absurd (another.differs (one_write machine.count machine.limit machine.servers good.servers as_made.0 made another.other made.write other_home home as_made.2 refl another.name))
took machine good place item made given home core new (Err taking.Down) at (missing, down, same) = (
  machine,
  TakeStep.refused made taking.Down given (
    is_missing (machine.servers place) made (subst (λ (c : Core). takes.IsMissing c.held made.write) at.is missing),
    some_doubt (machine.servers place).doubt (subst IsSome (ap (λ (c : Core). c.doubt) at.is) down),
  ) refl refl,
  inl (refl, same),
)
took machine good place item made given home core new (Err taking.OwnLost) at (missing, up, own, same) =
    absurd (is_missing (machine.servers place) made (subst (λ (c : Core). takes.IsMissing c.held made.write) at.is missing)
    (own_held machine place made home (own ∙ ap (λ (c : Core). c.id) at.is)))
took machine good place item made given home core new (Err taking.Gap) at (comes, gap, same) =
    let there = subst (λ (c : Core). takes.ComesFromAnother c made.write) at.is comes in
    let no_gap = subst (λ (c : Core). ¬ HasNoGap c.count c.held made.write) at.is gap in
    let missing = is_missing (machine.servers place) made there.missing in (
      machine,
      TakeStep.refused made taking.Gap given (
        record { missing = missing; up = no_doubt (machine.servers place).doubt there.up },
        (λ within. no_gap (given_fits machine.count machine.limit machine.servers good.servers place made home missing within).0),
      ) refl refl,
      inl (refl, same),
    )
took machine good place item made given home core new (Err taking.BadStamp) at (comes, none, wrong, same) =
    let there = subst (λ (c : Core). takes.ComesFromAnother c made.write) at.is comes in
    let no_gap = subst (λ (c : Core). HasNoGap c.count c.held made.write) at.is none in
    let missing = is_missing (machine.servers place) made there.missing in
    let within = no_gap_within machine.count machine.limit machine.servers good.servers place made home no_gap in
    absurd (subst (λ (c : Core). ¬ IsWellStamped c.held made.write) at.is wrong (given_fits machine.count machine.limit machine.servers good.servers place made home missing within).1)
took machine good place item made given home core new (Err taking.LogFull) at (fit, full, same) = (
  machine,
  TakeStep.refused made taking.LogFull given (
    next_there machine good place made home core at fit,
    sym (length-map (machine.servers place).held write_of) ∙ ap length (sym (ap (λ (c : Core). c.held) at.is)) ∙ full ∙ ap (λ (c : Core). c.limit) at.is,
  ) refl refl,
  inl (refl, same),
)
took machine good place item made given home core new (Err taking.OutOfMemory) at (takable, same) = (
  machine,
  TakeStep.refused made taking.OutOfMemory given (
    next_there machine good place made home core at takable.fit,
    room_there machine place core at takable.room,
  ) refl refl,
  inl (refl, same),
)
took machine good place item made given home core new (Err taking.Journal) at (takable, spelled, same) = (
  with_server machine place (with_doubt (machine.servers place) made),
  TakeStep.doubted made given (next_there machine good place made home core at takable.fit) (room_there machine place core at takable.room) refl refl,
  inr (
    with_doubt (machine.servers place) made,
    refl,
    refl,
    doubted_there machine.count machine.limit place core new (machine.servers place) made None (not_its_own place made core machine.count machine.limit (machine.servers place) at takable) at same,
  ),
)
took machine good place item made given home core new (Ok New) at (takable, spelled, same) = (
  with_server machine place (with_write (machine.servers place) made),
  TakeStep.taken made given (next_there machine good place made home core at takable.fit) (room_there machine place core at takable.room) refl refl,
  inr (
    with_write (machine.servers place) made,
    refl,
    refl,
    held_more machine.count machine.limit place core new (machine.servers place) made None (not_its_own place made core machine.count machine.limit (machine.servers place) at takable) at same,
  ),
)

pub take_tied : (servers : List WorldServer) (world_sessions : List (Option WorldSession)) (offers : List (List ℕ)) (items : List Write) (told : List Entry) (machine : Machine) → IsGoodMachine machine
    → IsTied servers world_sessions offers items told machine → (place item : ℕ) (old new : ServerState Memory) (write : Write) (answer : Result Took TakeFault) → place < length servers → get_or servers place (Running old) ≡ Running old
    → StaysHonest old new → item < length items → write ≡ get_or items item write → takes.Takes old.core write answer new.core
    → (next : Machine) × TakeStep machine place item (replies.Took answer) next × IsTied (set servers place (Running new)) world_sessions offers items told next
take_tied servers world_sessions offers items told machine good tied place item old new write answer known stands stays inside is takes_it =
    let here = runs_at servers world_sessions offers items told machine tied place old known stands in
    let core = here.core in
    let number : length items ≡ length machine.items = ap length tied.items_are ∙ length-map machine.items write_of in
    let there = item_there machine.items item write (omega (arith, inside, number)) (ap (λ list. get_or list item write) (sym tied.items_are) ∙ sym is) in
    let made = there.0 in
    let given : IsGiven machine place item made = record { server = here.running; there = there.1 } in
    let home = All-contains (IsHome machine.servers) machine.items made good.items (item, slice_get_within machine.items item made there.1, get_or_from_slice_get machine.items item made made there.1) in
    let step = took machine good place item made given home old.core new.core answer core (subst (λ w. takes.Takes old.core w answer new.core) (sym there.2) takes_it) in
    elim step.2 as (λ _. (next : Machine) × TakeStep machine place item (replies.Took answer) next × IsTied (set servers place (Running new)) world_sessions offers items told next) [
      | inl same ↦ (
        machine,
        subst (TakeStep machine place item (replies.Took answer)) same.0 step.1,
        same_place servers world_sessions offers items told machine tied place (Running new) here.running.there
            (running_server machine.count machine.limit place new (machine.servers place) here.running.runs
            (subst (λ (c : Core). IsServerOf machine.count machine.limit place c (machine.servers place)) (sym same.1) core) (stays here.honest)),
      )
      | inr changed ↦ (
        with_server machine place changed.0,
        subst (TakeStep machine place item (replies.Took answer)) changed.1 step.1,
        with_place servers world_sessions offers items told machine tied place (Running new) changed.0 here.running.there
            (running_server machine.count machine.limit place new changed.0 (changed.2 ∙ here.running.runs) changed.3 (stays here.honest)),
      )
    ]

-- ---- what goes in flight

-- each Write of a list that is held, with its past
pub with_pasts : (held : List Made) (list : List Write) → ((write : Write) → Contains list write → Contains (writes held) write) → (pasts : List Made) × (writes pasts ≡ list) × ((made : Made) → Contains pasts made → Contains held made)
with_pasts held [] each = ([], refl, λ made has. absurd (Contains-none made has))
with_pasts held (write ∷ list) each =
    let first = Contains-map_from write_of held write (each write (Contains-here write list)) in
    let rest = with_pasts held list (λ other has. each other (Contains-later write list other has)) in (
      first.0 ∷ rest.0,
      ap (λ w. w ∷ writes rest.0) first.2 ∙ ap (λ ws. write ∷ ws) rest.1,
      λ made has. of_first first.0 rest.0 made first.1 rest.2 has,
    )
  where
    of_first : (one : Made) (others : List Made) (made : Made) → Contains held one → ((m : Made) → Contains others m → Contains held m) → Contains (one ∷ others) made → Contains held made
    of_first one others made here there (zero, within, is) = subst (Contains held) is here
    of_first one others made here there (suc k, within, is) = there made (k, omega (arith, within), is)

-- what a server with these counts lacks, as a set
pub lacks : (held : List Write) (counts : List ℕ) (write : Write) → Contains (lacking_of counts held) write ↔ (Contains held write × (slice_index counts write.wid.origin.index < write.wid.seq))
lacks held counts write =
    let is_missed = λ (w : Write). nat_lt (slice_index counts w.wid.origin.index) w.wid.seq in
    let same = in_stamp_order-same_writes held write in (
      λ has.
          let both = Contains-from_filter is_missed (in_stamp_order held) write has in
          let missed = both.1 in
          (same.1 both.0, grind (arith, nat_tests)),
      λ both.
          let beyond = both.1 in
          let is : is_missed write ≡ true = grind (arith, nat_tests) in
          Contains-filter is_missed (in_stamp_order held) write (same.0 both.0) is,
    )

length_filter : {X : Type 0} (p : X → Bool) (xs : List X) → length (filter p xs) ≤ length xs
length_filter p [] = omega arith
length_filter {X} p (x ∷ xs) =
    let rest = length_filter p xs in
    elim (p x) as (λ t. length (cond t (x ∷ filter p xs) (filter p xs)) ≤ suc (length xs)) [
      | true ↦ omega (arith, rest)
      | false ↦ omega (arith, rest)
    ]

length_lacking : (counts : List ℕ) (held : List Write) → length (lacking_of counts held) ≤ length held
length_lacking counts held =
    omega (arith, length_filter (λ (w : Write). nat_lt (slice_index counts w.wid.origin.index) w.wid.seq) (in_stamp_order held), length-in_stamp_order held)

pairs_of_strict : (list : List Write) → IsStrict list → AllPairs (λ (a b : Write). is_before a.stamp b.stamp ≡ true) list
pairs_of_strict [] strict = λ i j d less within. absurd (omega (arith, within))
pairs_of_strict (write ∷ list) strict = AllPairs-cons (λ (a b : Write). is_before a.stamp b.stamp ≡ true) write list strict.0 (pairs_of_strict list strict.1)

-- strictly in stamp order, and so is each part that a test leaves
lacking_in_order : (count : ℕ) (held : List Write) (counts : List ℕ) → AreFitting count held → AllPairs (λ (a b : Write). is_before a.stamp b.stamp ≡ true) (lacking_of counts held)
lacking_in_order count held counts fitting =
    let is_missed = λ (w : Write). nat_lt (slice_index counts w.wid.origin.index) w.wid.seq in
    AllPairs-filter (λ (a b : Write). is_before a.stamp b.stamp ≡ true) is_missed (in_stamp_order held) (pairs_of_strict (in_stamp_order held) (IsStrict-in_stamp_order held (fitting_distinct_stamps count held fitting)))

pub are_lacking : (machine : Machine) → IsGoodMachine machine → (place : ℕ) (offered : Offered) → Contains machine.offers offered → (pasts : List Made)
    → writes pasts ≡ lacking_of (count_of offered.database) (writes (machine.servers place).held) → ((made : Made) → Contains pasts made → Contains (machine.servers place).held made)
    → AreLacking offered.database (machine.servers place).held pasts
are_lacking machine good place offered among pasts is within =
    let servers = machine.servers in
    let held = (servers place).held in
    let front = All-contains (λ (o : Offered). IsFrontOf (writes (servers o.server).held) o.database) machine.offers offered good.offers among in
    let fitting = fitting_at machine.count machine.limit servers good.servers place in
    let fitting_offered : AreFitting machine.count offered.database =
    fitting-front machine.count offered.database front.0 (subst (AreFitting machine.count) front.1 (fitting_at machine.count machine.limit servers good.servers offered.server)) in
    record {
      those = λ made. (
        λ has.
            let lacked = (lacks (writes held) (count_of offered.database) made.write).0 (subst (λ list. Contains list made.write) is (Contains-map write_of pasts made has)) in
            (within made has, λ offers. absurd (omega (arith, (named machine.count offered.database made.write.wid fitting_offered).0 offers, lacked.1))),
        λ both.
            let beyond : slice_index (count_of offered.database) made.write.wid.origin.index < made.write.wid.seq =
            elim (cases_lt (slice_index (count_of offered.database) made.write.wid.origin.index) made.write.wid.seq) as (λ _. slice_index (count_of offered.database) made.write.wid.origin.index < made.write.wid.seq) [
              | inl less ↦ less
              | inr covered ↦ absurd (both.1 ((named machine.count offered.database made.write.wid fitting_offered).1 (omega (arith, covered))))
            ] in
            let lacked = (lacks (writes held) (count_of offered.database) made.write).1 (Contains-map write_of held made both.0, beyond) in
            let at = Contains-map_from write_of pasts made.write (subst (λ list. Contains list made.write) (sym is) lacked) in
            let here = within at.0 at.1 in
            let one : at.0 ≡ made = one_home machine.count machine.limit servers good.servers at.0 made
            (home_of_held machine.count machine.limit servers good.servers place at.0 here) (home_of_held machine.count machine.limit servers good.servers place made both.0) (ap (λ (w : Write). w.wid) at.2) in
            subst (Contains pasts) one at.1,
      );
      in_order = AllPairs-map (λ (a b : Write). is_before a.stamp b.stamp ≡ true) write_of pasts
          (subst (AllPairs (λ (a b : Write). is_before a.stamp b.stamp ≡ true)) (sym is) (lacking_in_order machine.count (writes held) (count_of offered.database) fitting));
    }

-- what has nothing is empty
first_of : (list : List Write) → (list ≡ []) ⊎ ((write : Write) × Contains list write)
first_of [] = inl refl
first_of (write ∷ list) = inr (write, Contains-here write list)

-- who counts all that is held lacks none of it
pub none_lacking : (count : ℕ) (held : List Write) (counts : List ℕ) → AreFitting count held → Dominates counts (count_of held) → lacking_of counts held ≡ []
none_lacking count held counts fitting dominates = elim (first_of (lacking_of counts held)) as (λ _. lacking_of counts held ≡ []) [
  | inl none ↦ none
  | inr some ↦
      let write = some.0 in
      let lacked = (lacks held counts write).0 some.1 in
      let counted = (named count held write.wid fitting).0 (Contains-map (λ (w : Write). w.wid) held write lacked.0) in
      absurd (omega (arith, lacked.1, counted, dominates write.wid.origin.index write.wid.origin.in_range))
]

-- and who doesn't, lacks one
some_lacking : (count : ℕ) (held : List Write) (counts : List ℕ) → AreFitting count held → (¬ Dominates counts (count_of held))
    → (write : Write) × Contains held write × (slice_index counts write.wid.origin.index < write.wid.seq)
some_lacking count held counts fitting behind =
    elim (first_of (lacking_of counts held)) as (λ _. (write : Write) × Contains held write × (slice_index counts write.wid.origin.index < write.wid.seq)) [
      | inl none ↦ absurd (behind ((IsVectorOf-counts count held fitting).least counts (λ name has. all none name has)))
      | inr some ↦ let lacked = (lacks held counts some.0).0 some.1 in (some.0, lacked.0, lacked.1)
    ]
  where
    all : lacking_of counts held ≡ [] → (name : Wid) → Contains (names held) name → name.seq ≤ slice_index counts name.origin.index
    all none name has =
        let at = Contains-map_from (λ (w : Write). w.wid) held name has in
        let within : at.0.wid.seq ≤ slice_index counts at.0.wid.origin.index =
        elim (cases_lt (slice_index counts at.0.wid.origin.index) at.0.wid.seq) as (λ _. at.0.wid.seq ≤ slice_index counts at.0.wid.origin.index) [
          | inl beyond ↦ absurd (Contains-none at.0 (subst (λ list. Contains list at.0) none ((lacks held counts at.0).1 (at.1, beyond))))
          | inr covered ↦ omega (arith, covered)
        ] in
        subst (λ (n : Wid). n.seq ≤ slice_index counts n.origin.index) at.2 within

-- the offer of that number
offer_there : (offers : List Offered) (offer : ℕ) (vector : List ℕ) → offer < length offers → get_or (map (λ (o : Offered). count_of o.database) offers) offer vector ≡ vector
    → (offered : Offered) × (slice_get offers offer ≡ Some offered) × (count_of offered.database ≡ vector)
offer_there [] offer vector inside is = absurd (omega (arith, inside))
offer_there (offered ∷ offers) zero vector inside is = (offered, refl, is)
offer_there (offered ∷ offers) (suc offer) vector inside is = offer_there offers offer vector (omega (arith, inside)) is

-- what one set lacks is one list: two of them are as long
as_many_lack : (offered : List Write) (held a b : List Made) → AreLacking offered held a → AreLacking offered held b → length a ≡ length b
as_many_lack offered held a b one two =
    sym (length-map a write_of) ∙ sym (length-in_stamp_order (writes a))
    ∙ ap length (in_stamp_order-same (writes a) (writes b) (distinct a one.in_order) (distinct b two.in_order) (λ write. (to a b one two write, to b a two one write)))
    ∙ length-in_stamp_order (writes b) ∙ length-map b write_of
  where
    to : (xs ys : List Made) → AreLacking offered held xs → AreLacking offered held ys → (write : Write) → Contains (writes xs) write → Contains (writes ys) write
    to xs ys in_xs in_ys write has =
        let at = Contains-map_from write_of xs write has in
        subst (Contains (writes ys)) at.2 (Contains-map write_of ys at.0 ((in_ys.those at.0).1 ((in_xs.those at.0).0 at.1)))

    distinct : (xs : List Made) → AllPairs (λ (x y : Made). is_before x.write.stamp y.write.stamp ≡ true) xs → AllPairs (λ (x y : Write). x.stamp ≢ y.stamp) (writes xs)
    distinct [] all = λ i j d less within. absurd (omega (arith, within))
    distinct (x ∷ xs) all =
        AllPairs-cons (λ (v w : Write). v.stamp ≢ w.stamp) x.write (writes xs)
        (All-map (λ (w : Write). x.write.stamp ≢ w.stamp) write_of xs
        (λ k d within same.
        let before : is_before x.write.stamp (get_or xs k d).write.stamp ≡ true = all 0 (suc k) d (omega arith) (omega (arith, within)) in
        let self : is_before x.write.stamp x.write.stamp ≡ true = subst (λ stamp. is_before x.write.stamp stamp ≡ true) (sym same) before in
        let both : true ≡ false = sym self ∙ is_before-asym x.write.stamp x.write.stamp self in
        absurd (cc)))
        (distinct xs (λ i j d less within. all (suc i) (suc j) d (omega (arith, less)) (omega (arith, within))))

-- what goes in flight, as the machine says it
pub record Lacks (machine : Machine) (place offer : ℕ) (lacking : List Write) : Type 0 where
  pub running : IsRunning machine place
  pub offered : Offered
  pub there : slice_get machine.offers offer ≡ Some offered
  pub pasts : List Made
  pub are : writes pasts ≡ lacking
  pub those : AreLacking offered.database (machine.servers place).held pasts

pub collect_lacks : (servers : List WorldServer) (world_sessions : List (Option WorldSession)) (offers : List (List ℕ)) (items : List Write) (told : List Entry) (machine : Machine) → IsGoodMachine machine
    → IsTied servers world_sessions offers items told machine → (place offer : ℕ) (server : ServerState Memory) (vector : List ℕ) (lacking : List Write) → place < length servers → get_or servers place (Running server) ≡ Running server → offer < length offers → vector ≡ get_or offers offer vector
    → (AreFitting server.core.count server.core.held → lacking ≡ take server.core.limit (lacking_of vector server.core.held))
    → Lacks machine place offer lacking
collect_lacks servers world_sessions offers items told machine good tied place offer server vector lacking known stands inside is lacks_it =
    let count_offer : Offered → List ℕ = λ o. count_of o.database in
    let here = runs_at servers world_sessions offers items told machine tied place server known stands in
    let core = here.core in
    let held = writes (machine.servers place).held in
    let held_is : server.core.held ≡ held = ap (λ (c : Core). c.held) core.is in
    let most = server.core.limit in
    let limit_is : most ≡ machine.limit = ap (λ (c : Core). c.limit) core.is in
    let fitting = subst (λ (c : Core). AreFitting c.count c.held) (sym core.is) (fitting_at machine.count machine.limit machine.servers good.servers place) in
    let number : length offers ≡ length machine.offers = ap length tied.offers_are ∙ length-map machine.offers count_offer in
    let there = offer_there machine.offers offer vector (omega (arith, inside, number)) (ap (λ list. get_or list offer vector) (sym tied.offers_are) ∙ sym is) in
    let offered = there.0 in
    let among : Contains machine.offers offered = (offer, slice_get_within machine.offers offer offered there.1, get_or_from_slice_get machine.offers offer offered offered there.1) in
    let all : take most (lacking_of vector held) ≡ lacking_of vector held =
    take_all most (lacking_of vector held) (omega (arith, length_lacking vector held, length-map (machine.servers place).held write_of, (good.servers place).within, limit_is)) in
    let lacking_is : lacking ≡ lacking_of (count_of offered.database) held =
    lacks_it fitting ∙ ap (λ h. take most (lacking_of vector h)) held_is ∙ all ∙ ap (λ v. lacking_of v held) (sym there.2) in
    let made = with_pasts (machine.servers place).held lacking (λ write has. ((lacks held (count_of offered.database) write).0 (subst (λ list. Contains list write) lacking_is has)).0) in
    record {
      offered = offered;
      there = there.1;
      pasts = made.0;
      are = made.1;
      running = here.running;
      those = are_lacking machine good place offered among made.0 (made.1 ∙ lacking_is) made.2;
    }

-- where memory is wanting, the server holds a Write that the offer hasn't
pub collect_wants : (servers : List WorldServer) (world_sessions : List (Option WorldSession)) (offers : List (List ℕ)) (items : List Write) (told : List Entry) (machine : Machine) → IsGoodMachine machine
    → IsTied servers world_sessions offers items told machine → (place offer : ℕ) (server : ServerState Memory) (vector : List ℕ) → place < length servers → get_or servers place (Running server) ≡ Running server → offer < length offers → vector ≡ get_or offers offer vector
    → (¬ Dominates vector (count_of server.core.held)) → CollectStep machine place offer replies.NoMemory machine
collect_wants servers world_sessions offers items told machine good tied place offer server vector known stands inside is behind =
    let count_offer : Offered → List ℕ = λ o. count_of o.database in
    let here = runs_at servers world_sessions offers items told machine tied place server known stands in
    let held = writes (machine.servers place).held in
    let held_is : server.core.held ≡ held = ap (λ (c : Core). c.held) here.core.is in
    let number : length offers ≡ length machine.offers = ap length tied.offers_are ∙ length-map machine.offers count_offer in
    let there = offer_there machine.offers offer vector (omega (arith, inside, number)) (ap (λ list. get_or list offer vector) (sym tied.offers_are) ∙ sym is) in
    let offered = there.0 in
    let among : Contains machine.offers offered = (offer, slice_get_within machine.offers offer offered there.1, get_or_from_slice_get machine.offers offer offered offered there.1) in
    let front = All-contains (λ (o : Offered). IsFrontOf (writes (machine.servers o.server).held) o.database) machine.offers offered good.offers among in
    let fitting_offered : AreFitting machine.count offered.database =
    fitting-front machine.count offered.database front.0 (subst (AreFitting machine.count) front.1 (fitting_at machine.count machine.limit machine.servers good.servers offered.server)) in
    let less : ¬ Dominates (count_of offered.database) (count_of held) = subst (λ h. ¬ Dominates (count_of offered.database) (count_of h)) held_is (subst (λ v. ¬ Dominates v (count_of server.core.held)) (sym there.2) behind) in
    let lacked = some_lacking machine.count held (count_of offered.database) (fitting_at machine.count machine.limit machine.servers good.servers place) less in
    let made = Contains-map_from write_of (machine.servers place).held lacked.0 lacked.1 in
    let beyond : slice_index (count_of offered.database) made.0.write.wid.origin.index < made.0.write.wid.seq =
    subst (λ (w : Write). slice_index (count_of offered.database) w.wid.origin.index < w.wid.seq) (sym made.2) lacked.2 in
    CollectStep.no_memory offered.server offered.database made.0 here.running there.1 made.1
    (λ offers_it. absurd (omega (arith, beyond, (named machine.count offered.database made.0.write.wid fitting_offered).0 offers_it))) refl refl

-- it goes in flight, where there is a number for each
pub collect_flown : (servers : List WorldServer) (world_sessions : List (Option WorldSession)) (offers : List (List ℕ)) (items : List Write) (told : List Entry) (machine : Machine)
    → IsTied servers world_sessions offers items told machine → (place offer : ℕ) (lacking : List Write) → Lacks machine place offer lacking
    → length items + max (length lacking) 1 ≤ MAX_NUMBER + 1
    → (next : Machine) × CollectStep machine place offer (replies.Flown (length items) (length lacking)) next × IsTied servers world_sessions offers (items ++ lacking) told next
collect_flown servers world_sessions offers items told machine tied place offer lacking those few =
    let number : length items ≡ length machine.items = ap length tied.items_are ∙ length-map machine.items write_of in
    let as_many : length lacking ≡ length those.pasts = ap length (sym those.are) ∙ length-map those.pasts write_of in (
      record machine { items = machine.items ++ those.pasts },
      CollectStep.flown those.offered.database those.pasts
          (record { server = those.running; by = those.offered.server; there = those.there; those = those.those; numbered = subst (λ n. n + max (length those.pasts) 1 ≤ MAX_NUMBER + 1) number (subst (λ n. length items + max n 1 ≤ MAX_NUMBER + 1) as_many few) })
          (ap (λ n. replies.Flown n (length lacking)) number ∙ ap (replies.Flown (length machine.items)) as_many) refl,
      record {
        many = tied.many;
        servers_are = tied.servers_are;
        seats = tied.seats;
        sessions_are = tied.sessions_are;
        offers_are = tied.offers_are;
        items_are = ap (λ list. list ++ lacking) tied.items_are ∙ ap (λ list. writes machine.items ++ list) (sym those.are) ∙ sym (map-append write_of machine.items those.pasts);
        served_are = tied.served_are;
      },
    )

same_offer : (a b : Offered) → Some a ≡ Some b → a ≡ b
same_offer a b same = cc

-- and else nothing does
pub collect_beyond : (servers : List WorldServer) (world_sessions : List (Option WorldSession)) (offers : List (List ℕ)) (items : List Write) (told : List Entry) (machine : Machine)
    → IsTied servers world_sessions offers items told machine → (place offer : ℕ) (lacking : List Write) → Lacks machine place offer lacking → MAX_NUMBER + 1 < length items + max (length lacking) 1
    → (next : Machine) × CollectStep machine place offer replies.Skipped next × IsTied servers world_sessions offers items told next
collect_beyond servers world_sessions offers items told machine tied place offer lacking those beyond = (
  machine,
  CollectStep.skipped (λ offered others may.
      let other : Offered = record { server = may.by; database = offered } in
      let one : offered ≡ those.offered.database = ap (λ (o : Offered). o.database) (same_offer other those.offered (sym may.there ∙ those.there)) in
      let number : length items ≡ length machine.items = ap length tied.items_are ∙ length-map machine.items write_of in
      let as_many : length lacking ≡ length others =
      ap length (sym those.are) ∙ length-map those.pasts write_of
      ∙ as_many_lack those.offered.database (machine.servers place).held those.pasts others those.those (subst (λ list. AreLacking list (machine.servers place).held others) one may.those) in
      let few = subst (λ n. n + max (length others) 1 ≤ MAX_NUMBER + 1) (sym number) may.numbered in
      let few_too = subst (λ n. length items + max n 1 ≤ MAX_NUMBER + 1) (sym as_many) few in
      absurd (omega (arith, beyond, few_too))) refl refl,
  tied,
)
