-- A tag is of one Write, over each event.
use Rattle.std.proofs.Common.{◌≡◌, ◌≢◌, inl, inr, ◌⊎◌, ℕ, ◌+◌, ◌<◌, ◌≤◌, List, [], ◌∷◌, ◌++◌, Result, Option, None, Some, IfSome, All, Contains, length, get_or, ap, sym, ◌∙◌, refl, subst, arith}
use Rattle.std.specs.List.{slice_get}
use Rattle.std.specs.Option.{option_map}
use Rattle.std.proofs.lemmas.List.{append-nil, get_or_default}
use Rattle.std.proofs.lemmas.List.Elements.{All-contains, All-push, Contains-append_cases, Contains-push_cases}
use Rattle.std.proofs.lemmas.Option.{get_or_from_slice_get, slice_get_within}
use Rattle.bayou_base.specs.declared.asks.Asks.{Asks}
use Rattle.bayou_base.specs.declared.entry.Entry.{Entry}
use Rattle.bayou_base.specs.declared.entry.What.{What}
use Rattle.bayou_base.specs.declared.entry.What.TheVariants as whats
use Rattle.bayou_base.specs.Vector.{Covers}
use Rattle.bayou_lang.specs.declared.program.Program.{Program}
use Rattle.bayou_lang.specs.declared.write.Write.{Write}
use Rattle.bayou_lang.specs.Laws.Fitting.{fitting_distinct_wids}
use Rattle.bayou_lang.specs.Writes.{count_of}
use Rattle.bayou_server.specs.declared.answer.Written.{Written}
use Rattle.bayou_server.specs.declared.fault.WriteFault.{WriteFault}
use Rattle.bayou_world.specs.declared.event.Event.{Event}
use Rattle.bayou_world.specs.declared.event.Event.TheVariants as events
use Rattle.bayou_world.specs.declared.reply.Reply.{Reply}
use Rattle.bayou_world.specs.Inner.Good.{IsGoodFlight, IsGoodMachine, IsTrueAnswer, WasSo}
use Rattle.bayou_world.specs.Invariant.{Stands}
use Rattle.bayou_world.specs.Machine.{Answered, Asking, IsWithin, Machine, Made, ServerSets, SessionSets, changed, names, with_session, writes}
use Rattle.bayou_world.specs.Runs.{IsRead, first_machine, new_session}
use Rattle.bayou_world.specs.Steps.{AgainStep, AskStep, CollectStep, CoversWrite, DeliverStep, FileStep, FuseStep, HoldsAsked, IsReady, IsTagOf, LoseStep, Makes, MayRepeat, OfferStep, ReadStep, Recovers, ReopenStep, RestartStep, Step, TakeStep, WriteStep, first_asking, refusal, served_by, stopped_now, told, with_answer, with_doubt, with_write}
use Rattle.bayou_world.specs.Tags.{AreTagged, HasDistinctTags, IsAsked, IsMadeFor, MayAskAgain}
use Rattle.bayou_world.proofs.Consistent.{home_or_doubt}
use Rattle.bayou_world.proofs.Homes.{fitting_at}
use Rattle.bayou_world.proofs.Keeping.{made_true}
use Rattle.bayou_world.proofs.Lists.{AllPairs-map, Contains-map, Contains-none, at_changed, changed-other, changed-same, same_number}
use Rattle.bayou_world.proofs.Stepping.{all_of_contained}
use Rattle.bayou_world.proofs.Vectors.{named}

-- ---- small things

some_is : {X : Type 0} (a b : X) → Some a ≡ Some b → a ≡ b
some_is a b same = cc

none_is : {X : Type 0} (a : X) → None ≡ Some a → ⊥
none_is a same = cc

-- it stands at one of the servers, or among the items
abbrev StandsIn : (ℕ → ServerSets) → List Made → Made → Type 0
StandsIn servers items made = ((server : ℕ) × Contains (servers server).held made)
    ⊎ ((server : ℕ) × ((servers server).doubt ≡ Some made))
    ⊎ Contains items made

-- where one server is another, it stands there, or stood before
standing_changed : (P : Type 0) (servers : ℕ → ServerSets) (items : List Made) (place : ℕ) (server : ServerSets) (made : Made) → (Contains server.held made → P) → (server.doubt ≡ Some made → P)
    → (StandsIn servers items made → P) → StandsIn (changed servers place server) items made → P
standing_changed P servers items place server made held doubt before (inl (at, has)) =
    at_changed (λ n (s : ServerSets). Contains s.held made → P) servers place server held (λ n there. before (inl (n, there))) at has
standing_changed P servers items place server made held doubt before (inr (inl (at, is))) =
    at_changed (λ n (s : ServerSets). s.doubt ≡ Some made → P) servers place server doubt (λ n there. before (inr (inl (n, there)))) at is
standing_changed P servers items place server made held doubt before (inr (inr item)) = before (inr (inr item))

-- ---- nothing new stands

-- what stands stood before
abbrev StandOn : Machine → Machine → Type 0
StandOn old new = (made : Made) → Stands new made → Stands old made

-- it needs the same
record NeedsTheSame (old new : SessionSets) : Type 0 where
  asks : new.asks ≡ old.asks
  reads : new.reads ≡ old.reads
  writes : new.writes ≡ old.writes

needs_as_it_did : (session : SessionSets) → NeedsTheSame session session
needs_as_it_did session = record { asks = refl; reads = refl; writes = refl }

covers_still : (old new : SessionSets) → NeedsTheSame old new → (past : List Write) → CoversWrite old past → CoversWrite new past
covers_still old new same past covers = record {
  wfr = λ asked. subst (λ set. IsWithin set (names past)) (sym same.reads) (covers.wfr (ap (λ (a : Asks). a.wfr) (sym same.asks) ∙ asked));
  mw = λ asked. subst (λ set. IsWithin set (names past)) (sym same.writes) (covers.mw (ap (λ (a : Asks). a.mw) (sym same.asks) ∙ asked));
}

-- The session has begun no fewer places, and may ask again what it might before, or nothing. For that it needs the same.
record HasGone (old new : SessionSets) : Type 0 where
  begun : old.begun ≤ new.begun
  asked : (asking : Asking) → new.asked ≡ Some asking → (old.asked ≡ Some asking) × NeedsTheSame old new

abbrev GoesOn : Option SessionSets → Option SessionSets → Type 0
GoesOn None None = Unit {0}
GoesOn (Some old) (Some new) = HasGone old new
GoesOn None (Some new) = ⊥
GoesOn (Some old) None = ⊥

abbrev GoOn : (old new : ℕ → Option SessionSets) → Type 0
GoOn old new = (who : ℕ) → GoesOn (old who) (new who)

stays : (session : Option SessionSets) → GoesOn session session
stays None = tt
stays (Some session) = record { begun = omega arith; asked = λ asking is. (is, needs_as_it_did session) }

one_goes : (old : ℕ → Option SessionSets) (who : ℕ) (session new : SessionSets) → old who ≡ Some session → HasGone session new → GoOn old (changed old who (Some new))
one_goes old who session new there gone =
    at_changed (λ n (o : Option SessionSets). GoesOn (old n) o) old who (Some new) (subst (λ (o : Option SessionSets). GoesOn o (Some new)) (sym there) gone) (λ n. stays (old n))

later_session : (a b : Option SessionSets) (session : SessionSets) → GoesOn a b → a ≡ Some session → (later : SessionSets) × (b ≡ Some later) × HasGone session later
later_session None b session goes is = absurd (none_is session is)
later_session (Some first) None session goes is = absurd goes
later_session (Some first) (Some later) session goes is = (later, refl, subst (λ (s : SessionSets). HasGone s later) (some_is first session is) goes)

earlier_session : (a b : Option SessionSets) (session : SessionSets) → GoesOn a b → b ≡ Some session → (earlier : SessionSets) × (a ≡ Some earlier) × HasGone earlier session
earlier_session a None session goes is = absurd (none_is session is)
earlier_session None (Some last) session goes is = absurd goes
earlier_session (Some earlier) (Some last) session goes is = (earlier, refl, subst (λ (s : SessionSets). HasGone earlier s) (some_is last session is) goes)

-- whoever may ask again might before
might_ask : (old new : Machine) → GoOn old.sessions new.sessions → (who : ℕ) (asking : Asking) → (may : MayAskAgain new who asking)
    → (might : MayAskAgain old who asking) × (might.session.begun ≤ may.session.begun) × NeedsTheSame might.session may.session
might_ask old new go who asking may =
    let before = earlier_session (old.sessions who) (new.sessions who) may.session (go who) may.there in
    let asked = before.2.asked asking may.asked in
    (record { session = before.0; there = before.1; asked = asked.0 }, before.2.begun, asked.1)

-- no session was told of the Write
abbrev IsUntold : List Answered → Made → Type 0
IsUntold served made = All (λ (answered : Answered). answered.made ≢ Some made) served

-- a Write under the tag of what may be asked again is told to nobody now
abbrev TellNoMore : Machine → Machine → Type 0
TellNoMore old new = (who : ℕ) (asking : Asking) → MayAskAgain new who asking → (made : Made) → IsTagOf who asking.number made.tag → IsUntold old.served made → IsUntold new.served made

nobody_told : (old new : Machine) → new.served ≡ old.served → TellNoMore old new
nobody_told old new same who asking may made tag untold = subst (λ list. IsUntold list made) (sym same) untold

quiet_tagged : (old new : Machine) → StandOn old new → GoOn old.sessions new.sessions → TellNoMore old new → AreTagged old → AreTagged new
quiet_tagged old new stand go tell is = record {
  asked = λ made stands.
      let asked = is.asked made (stand made stands) in
      let who = made.tag.session.index in
      let later = later_session (old.sessions who) (new.sessions who) asked.session (go who) asked.there in
      record { session = later.0; there = later.1; run_is = asked.run_is; begun = omega (arith, asked.begun, later.2.begun) };
  one = λ made other here there same. is.one made other (stand made here) (stand other there) same;
  begun = λ who asking may.
      let might = might_ask old new go who asking may in
      let before = is.begun who asking might.0 in (before.0, omega (arith, before.1, might.1));
  again = λ who asking may made stands tag.
      let might = might_ask old new go who asking may in
      let before = is.again who asking might.0 made (stand made stands) tag in
      record {
        server = before.server;
        program = before.program;
        covered = covers_still might.0.session may.session might.2 made.past before.covered;
        untold = tell who asking may made tag before.untold;
      };
}

-- ---- a Write is asked for

-- The session begins its next place, and may ask again what it asks there. What stood under that tag, or stands there newly, was made for
-- it, and it is one.
record AsksNow (old new : Machine) (who : ℕ) (asking : Asking) : Type 0 where
  session : SessionSets
  there : old.sessions who ≡ Some session
  next : SessionSets
  sessions : new.sessions ≡ changed old.sessions who (Some next)
  begun : next.begun ≡ session.begun + 1
  needs : NeedsTheSame session next
  asked : next.asked ≡ Some asking
  number : (0 < asking.number) × (asking.number ≤ session.begun + 1)
  served : new.served ≡ old.served
  before : (made : Made) → Stands old made → IsTagOf who asking.number made.tag → IsMadeFor old.served session asking made
  fresh : Option Made
  tag : (made : Made) → fresh ≡ Some made → IsTagOf who asking.number made.tag
  alone : (made other : Made) → fresh ≡ Some made → Stands old other → other.tag ≡ made.tag → ⊥
  made_for : (made : Made) → fresh ≡ Some made → IsMadeFor old.served session asking made
  stands : (made : Made) → Stands new made → Stands old made ⊎ (fresh ≡ Some made)

module _ (old new : Machine) (who : ℕ) (asking : Asking) (is : AreTagged old) (asks : AsksNow old new who asking) where
  -- what stood before has no number above the last place of its session
  old_number : (made : Made) → Stands old made → made.tag.session.index ≡ who → made.tag.number ≤ asks.session.begun
  old_number made stands own =
      let asked = is.asked made stands in
      let same : asked.session ≡ asks.session = some_is asked.session asks.session (sym asked.there ∙ ap old.sessions own ∙ asks.there) in
      omega (arith, asked.begun, ap (λ (s : SessionSets). s.begun) same)

  is_next : (session : SessionSets) → new.sessions who ≡ Some session → asks.next ≡ session
  is_next session there =
      some_is asks.next session (sym (changed-same old.sessions who (Some asks.next)) ∙ ap (λ (s : ℕ → Option SessionSets). s who) (sym asks.sessions) ∙ there)

  is_other : (other : ℕ) (session : SessionSets) → other ≢ who → new.sessions other ≡ Some session → old.sessions other ≡ Some session
  is_other other session differs there =
      sym (changed-other old.sessions who (Some asks.next) other differs) ∙ ap (λ (s : ℕ → Option SessionSets). s other) (sym asks.sessions) ∙ there

  next_there : new.sessions who ≡ Some asks.next
  next_there = ap (λ (s : ℕ → Option SessionSets). s who) asks.sessions ∙ changed-same old.sessions who (Some asks.next)

  asked_still : (made : Made) → Stands old made → IsAsked new made.tag
  asked_still made stands =
      let asked = is.asked made stands in
      elim (same_number made.tag.session.index who) as (λ _. IsAsked new made.tag) [
        | inl same ↦ record {
          session = asks.next;
          there = ap new.sessions same ∙ next_there;
          run_is = asked.run_is;
          begun = omega (arith, old_number made stands same, asks.begun);
        }
        | inr differs ↦ record {
          session = asked.session;
          there = ap (λ (s : ℕ → Option SessionSets). s made.tag.session.index) asks.sessions ∙ changed-other old.sessions who (Some asks.next) made.tag.session.index differs ∙ asked.there;
          run_is = asked.run_is;
          begun = asked.begun;
        }
      ]

  asked_now : (made : Made) → asks.fresh ≡ Some made → IsAsked new made.tag
  asked_now made fresh =
      let tag = asks.tag made fresh in
      record { session = asks.next; there = ap new.sessions tag.session_is ∙ next_there; run_is = tag.run_is; begun = omega (arith, tag.number_is, asks.number.1, asks.begun) }

  -- what the session may ask again is what it asks now
  is_asking : (other : Asking) → (may : MayAskAgain new who other) → asking ≡ other
  is_asking other may =
      some_is asking other (sym asks.asked ∙ ap (λ (s : SessionSets). s.asked) (is_next may.session may.there) ∙ may.asked)

  -- and any other might before
  abbrev might : (other : ℕ) (asked : Asking) → other ≢ who → MayAskAgain new other asked → MayAskAgain old other asked
  might other asked differs may = record { session = may.session; there = is_other other may.session differs may.there; asked = may.asked }

  -- what was made for it is so still
  for_it : (session : SessionSets) → new.sessions who ≡ Some session → (other : Asking) → asking ≡ other → (made : Made) → IsMadeFor old.served asks.session asking made → IsMadeFor new.served session other made
  for_it session there other same made before = subst (λ (a : Asking). IsMadeFor new.served session a made) same (record {
    server = before.server;
    program = before.program;
    covered = subst (λ (s : SessionSets). CoversWrite s made.past) (is_next session there) (covers_still asks.session asks.next asks.needs made.past before.covered);
    untold = subst (λ list. IsUntold list made) (sym asks.served) before.untold;
  })

  asks_tagged : AreTagged new
  asks_tagged = record {
    asked = λ made stands. elim (asks.stands made stands) as (λ _. IsAsked new made.tag) [
      | inl before ↦ asked_still made before
      | inr fresh ↦ asked_now made fresh
    ];
    one = λ made other here there same. elim (asks.stands made here) as (λ _. made ≡ other) [
      | inl before ↦ elim (asks.stands other there) as (λ _. made ≡ other) [
        | inl too ↦ is.one made other before too same
        | inr fresh ↦ absurd (asks.alone other made fresh before same)
      ]
      | inr fresh ↦ elim (asks.stands other there) as (λ _. made ≡ other) [
        | inl before ↦ absurd (asks.alone made other fresh before (sym same))
        | inr too ↦ some_is made other (sym fresh ∙ too)
      ]
    ];
    begun = λ other asked may. elim (same_number other who) as (λ _. (0 < asked.number) × (asked.number ≤ may.session.begun)) [
      | inl same ↦
          let here : new.sessions who ≡ Some may.session = ap new.sessions (sym same) ∙ may.there in
          let is_it : asking ≡ asked = is_asking asked (record { session = may.session; there = here; asked = may.asked }) in
          let number : asking.number ≡ asked.number = ap (λ (a : Asking). a.number) is_it in
          let last : asks.next ≡ may.session = is_next may.session here in
          (omega (arith, number, asks.number.0), omega (arith, number, asks.number.1, asks.begun, ap (λ (s : SessionSets). s.begun) last))
      | inr differs ↦ is.begun other asked (might other asked differs may)
    ];
    again = λ other asked may made stands tag. elim (same_number other who) as (λ _. IsMadeFor new.served may.session asked made) [
      | inl same ↦
          let here : new.sessions who ≡ Some may.session = ap new.sessions (sym same) ∙ may.there in
          let is_it : asking ≡ asked = is_asking asked (record { session = may.session; there = here; asked = may.asked }) in
          for_it may.session here asked is_it made
          (elim (asks.stands made stands) as (λ _. IsMadeFor old.served asks.session asking made) [
            | inl before ↦ asks.before made before
                (record { session_is = tag.session_is ∙ same; run_is = tag.run_is; number_is = tag.number_is ∙ ap (λ (a : Asking). a.number) (sym is_it) })
            | inr fresh ↦ asks.made_for made fresh
          ])
      | inr differs ↦ elim (asks.stands made stands) as (λ _. IsMadeFor new.served may.session asked made) [
        | inl before ↦ subst (λ list. IsMadeFor list may.session asked made) (sym asks.served) (is.again other asked (might other asked differs may) made before tag)
        | inr fresh ↦ absurd (differs (sym tag.session_is ∙ (asks.tag made fresh).session_is))
      ]
    ];
  }

-- ---- each event

becomes : (new is : Machine) → new ≡ is → AreTagged is → AreTagged new
becomes new is same tagged = subst AreTagged (sym same) tagged

-- a place that is begun for no Write
read_goes : (old : Machine) (who : ℕ) (session : SessionSets) (answered : Answered) → old.sessions who ≡ Some session → AreTagged old → AreTagged (with_answer old who session None answered)
read_goes old who session answered there is =
    quiet_tagged old (with_answer old who session None answered) (λ made stands. stands)
    (one_goes old.sessions who session (record session { begun = session.begun + 1; asked = None; flight = Some answered }) there
    (record { begun = omega arith; asked = λ asking asked. absurd (none_is asking asked) })) (nobody_told old (with_answer old who session None answered) refl) is

read_tagged : (old : Machine) (who place : ℕ) (key : List ℕ) (reply : Reply) (new : Machine) → AreTagged old → ReadStep old who place key reply new → AreTagged new
read_tagged old who place key reply new is (ReadStep.skipped cannot replies same) = becomes new old same is
read_tagged old who place key reply new is (ReadStep.behind session entry may not_may replies entry_is same) = becomes new _ same (read_goes old who session _ may.there is)
read_tagged old who place key reply new is (ReadStep.served session entry seen may covered value vector replies entry_is same) = becomes new _ same (read_goes old who session _ may.there is)

-- the session may ask this at its next place: what stands under its tag was made for it, and where a Write is made of it none stands so
record MayAsk (old : Machine) (who : ℕ) (session : SessionSets) (asking : Asking) : Type 0 where
  there : old.sessions who ≡ Some session
  number : (0 < asking.number) × (asking.number ≤ session.begun + 1)
  before : (made : Made) → Stands old made → IsTagOf who asking.number made.tag → IsMadeFor old.served session asking made
  alone : IsReady session (old.servers asking.server) → (made : Made) → Stands old made → IsTagOf who asking.number made.tag → ⊥

-- of what stands nowhere no session was told
told_to_none : (old : Machine) → IsGoodMachine old → (made : Made) → (Stands old made → ⊥) → IsUntold old.served made
told_to_none old good made nowhere =
    all_of_contained (λ (answered : Answered). answered.made ≢ Some made) old.served (λ answered among some.
    nowhere (inl (
      made.write.wid.origin.index,
      made_true old answered.entry.what answered.entry.server.index answered made some
          (All-contains (IsTrueAnswer old.servers) old.served answered good.served among),
    )))

module _ (old : Machine) (good : IsGoodMachine old) (is : AreTagged old) (who : ℕ) (session : SessionSets) (asking : Asking) (may : MayAsk old who session asking) where
  -- what a server makes is made for what was asked
  made_now : (made : Made) → Makes old.limit who session (old.servers asking.server) asking made → IsMadeFor old.served session asking made
  made_now made makes =
      let covered = makes.ready.covered in
      record {
        server = makes.next.origin;
        program = makes.next.program;
        covered = subst (CoversWrite session) (sym makes.past) (record { wfr = covered.wfr; mw = covered.mw });
        untold = told_to_none old good made (λ stands. may.alone makes.ready made stands makes.tag);
      }

  -- no Write is made
  none_made : (answered : Answered) → AreTagged (with_answer old who session (Some asking) answered)
  none_made answered =
      asks_tagged old (with_answer old who session (Some asking) answered) who asking is (record {
        session = session;
        there = may.there;
        next = record session { begun = session.begun + 1; asked = Some asking; flight = Some answered };
        sessions = refl;
        begun = refl;
        needs = record { asks = refl; reads = refl; writes = refl };
        asked = refl;
        number = may.number;
        served = refl;
        before = may.before;
        fresh = None;
        tag = λ made none. absurd (none_is made none);
        alone = λ made other none. absurd (none_is made none);
        made_for = λ made none. absurd (none_is made none);
        stands = λ made stands. inl stands;
      })

  -- one is made, and the servers are these
  one_made : (servers : ℕ → ServerSets) (answered : Answered) (made : Made) → Makes old.limit who session (old.servers asking.server) asking made
      → ((other : Made) → StandsIn servers old.items other → Stands old other ⊎ (Some made ≡ Some other))
      → AreTagged (with_answer (record old { servers = servers }) who session (Some asking) answered)
  one_made servers answered made makes stands =
      asks_tagged old (with_answer (record old { servers = servers }) who session (Some asking) answered) who asking is (record {
        session = session;
        there = may.there;
        next = record session { begun = session.begun + 1; asked = Some asking; flight = Some answered };
        sessions = refl;
        begun = refl;
        needs = record { asks = refl; reads = refl; writes = refl };
        asked = refl;
        number = may.number;
        served = refl;
        before = may.before;
        fresh = Some made;
        tag = λ other fresh. subst (λ (m : Made). IsTagOf who asking.number m.tag) (some_is made other fresh) makes.tag;
        alone = λ one other fresh stood same.
            may.alone makes.ready other stood (subst (IsTagOf who asking.number) (sym (same ∙ ap (λ (m : Made). m.tag) (sym (some_is made one fresh)))) makes.tag);
        made_for = λ other fresh. subst (IsMadeFor old.served session asking) (some_is made other fresh) (made_now made makes);
        stands = stands;
      })

  ask_tagged : (answer : Result Written WriteFault) (new : Machine) → AskStep old who session asking answer new → AreTagged new
  ask_tagged answer new (AskStep.refused entry fault refused replies entry_is same) = becomes new _ same (none_made (refusal entry))
  ask_tagged answer new (AskStep.doubted entry made makes replies entry_is same) =
      let place = asking.server in
      let after = with_doubt (old.servers place) made in
      becomes new _ same
      (one_made (changed old.servers place after) (refusal entry) made makes
      (λ other. standing_changed (Stands old other ⊎ (Some made ≡ Some other)) old.servers old.items place after other
      (λ has. inl (inl (place, has))) (λ doubt. inr doubt) (λ stands. inl stands)))
  ask_tagged answer new (AskStep.accepted entry made accepted makes told_is replies entry_is same) =
      let place = asking.server in
      let server = old.servers place in
      let after = with_write server made in
      becomes new _ same
      (one_made (changed old.servers place after) (record { entry = entry; database = made.past; made = Some made }) made makes
      (λ other. standing_changed (Stands old other ⊎ (Some made ≡ Some other)) old.servers old.items place after other
      (λ has. elim (Contains-push_cases server.held made other has) as (λ _. Stands old other ⊎ (Some made ≡ Some other)) [
        | inl before ↦ inl (inl (place, before))
        | inr now ↦ inr (ap Some now)
      ]) (λ doubt. inl (inr (inl (place, doubt)))) (λ stands. inl stands)))

-- what is asked first has a tag that none had
first_may : (old : Machine) → AreTagged old → (who place : ℕ) (program : Program) (session : SessionSets) → old.sessions who ≡ Some session → MayAsk old who session (first_asking place session program)
first_may old is who place program session there =
    let new_tag : (made : Made) → Stands old made → IsTagOf who (session.begun + 1) made.tag → ⊥ = λ made stands tag.
    let asked = is.asked made stands in
    let same : asked.session ≡ session = some_is asked.session session (sym asked.there ∙ ap old.sessions tag.session_is ∙ there) in
    omega (arith, asked.begun, tag.number_is, ap (λ (s : SessionSets). s.begun) same) in
    record {
      there = there;
      number = (omega arith, omega arith);
      before = λ made stands tag. absurd (new_tag made stands tag);
      alone = λ ready made stands tag. new_tag made stands tag;
    }

-- What is asked again has the tag of what was made for it. That stands at the server that was asked, where it isn't held, nor in doubt.
again_may : (old : Machine) → IsGoodMachine old → AreTagged old → (who : ℕ) (session : SessionSets) (asking : Asking) → MayRepeat old who session asking
    → ((made : Made) → ¬ HoldsAsked old who asking made) → MayAsk old who session asking
again_may old good is who session asking repeat none =
    let may : MayAskAgain old who asking = record { session = session; there = repeat.begin.there; asked = repeat.asked } in
    let begun = is.begun who asking may in
    record {
      there = repeat.begin.there;
      number = (begun.0, omega (arith, begun.1));
      before = is.again who asking may;
      alone = λ ready made stands tag.
          let own = (is.again who asking may made stands tag).server in
          elim (home_or_doubt old good made stands) as (λ _. ⊥) [
            | inl home ↦ none made (record { held = subst (λ n. Contains (old.servers n).held made) own home; under = tag })
            | inr doubt ↦ none_is made (sym ready.up ∙ subst (λ n. (old.servers n).doubt ≡ Some made) (sym doubt.own ∙ own) doubt.doubt)
          ];
    }

write_tagged : (old : Machine) (who place : ℕ) (program : Program) (reply : Reply) (new : Machine) → IsGoodMachine old → AreTagged old → WriteStep old who place program reply new → AreTagged new
write_tagged old who place program reply new good is (WriteStep.skipped cannot replies same) = becomes new old same is
write_tagged old who place program reply new good is (WriteStep.asked session answer may asks replies) =
    ask_tagged old good is who session (first_asking place session program) (first_may old is who place program session may.there) answer new asks

again_tagged : (old : Machine) (who : ℕ) (reply : Reply) (new : Machine) → IsGoodMachine old → AreTagged old → AgainStep old who reply new → AreTagged new
again_tagged old who reply new good is (AgainStep.skipped cannot replies same) = becomes new old same is
again_tagged old who reply new good is (AgainStep.known session asking entry made accepted may holds told_is replies entry_is same) =
    let answered : Answered = record { entry = entry; database = made.past; made = Some made } in
    let after = with_answer old who session (Some asking) answered in
    becomes new after same
    (quiet_tagged old after (λ other stands. stands)
    (one_goes old.sessions who session (record session { begun = session.begun + 1; asked = Some asking; flight = Some answered }) may.begin.there
    (record { begun = omega arith; asked = λ other asked. (may.asked ∙ asked, record { asks = refl; reads = refl; writes = refl }) }))
    (nobody_told old after refl) is)
again_tagged old who reply new good is (AgainStep.asked session asking answer may none asks replies) =
    ask_tagged old good is who session asking (again_may old good is who session asking may none) answer new asks

-- What a session hears leaves it no more to ask again, and no other need for it: a read in flight ends the right.
hears : (what : What) (answered : Answered) (session : SessionSets) (waiting : List Entry) → (IsRead what → session.asked ≡ None)
    → HasGone session (record (told what answered session) { flight = None; waiting = waiting })
hears (whats.Read key vector) answered session waiting ended = record { begun = omega arith; asked = λ asking is. absurd (none_is asking (sym (ended tt) ∙ is)) }
hears (whats.Write wid stamp deps) answered session waiting ended = record { begun = omega arith; asked = λ asking none. absurd (none_is asking none) }
hears whats.Refused answered session waiting ended = record { begun = omega arith; asked = λ asking is. (is, record { asks = refl; reads = refl; writes = refl }) }

-- what it hears is under no tag that may be asked again
tells_no_more : (old : Machine) (at : ℕ) (session : SessionSets) (answered : Answered) → ((made : Made) → answered.made ≡ Some made → made.tag.session.index ≡ at) → (what : What)
    → (IsRead what → answered.made ≡ None) → (waiting : List Entry)
    → TellNoMore old (record (with_session old at (record (told what answered session) { flight = None; waiting = waiting })) { served = old.served ++ served_by what answered })
tells_no_more old at session answered own (whats.Read key vector) none waiting who asking may made tag before =
    All-push (λ (o : Answered). o.made ≢ Some made) old.served answered before (λ some. none_is made (sym (none tt) ∙ some))
tells_no_more old at session answered own (whats.Write wid stamp deps) none waiting who asking may made tag before =
    All-push (λ (o : Answered). o.made ≢ Some made) old.served answered before (λ some.
    let next : SessionSets = record (told (whats.Write wid stamp deps) answered session) { flight = None; waiting = waiting } in
    let here : who ≡ at = sym tag.session_is ∙ own made some in
    let there : Some next ≡ Some may.session =
    sym (changed-same old.sessions at (Some next)) ∙ ap (changed old.sessions at (Some next)) (sym here) ∙ may.there in
    none_is asking (ap (λ (s : SessionSets). s.asked) (some_is next may.session there) ∙ may.asked))
tells_no_more old at session answered own whats.Refused none waiting who asking may made tag before =
    subst (λ list. IsUntold list made) (sym (append-nil old.served)) before

deliver_tagged : (old : Machine) (who : ℕ) (reply : Reply) (new : Machine) → IsGoodMachine old → AreTagged old → DeliverStep old who reply new → AreTagged new
deliver_tagged old who reply new good is (DeliverStep.skipped none replies same) = becomes new old same is
deliver_tagged old who reply new good is (DeliverStep.delivered session answered flies replies same) =
    let flight = subst (λ f. IfSome f (IsGoodFlight old.served who session)) flies.flight (good.sessions who session flies.there).flight in
    becomes new _ same
    (quiet_tagged old _ (λ made stands. stands)
    (one_goes old.sessions who session _ flies.there (hears answered.entry.what answered session (session.waiting ++ answered.entry ∷ []) flight.reading))
    (tells_no_more old who session answered flight.own answered.entry.what
    (reads_none old answered.entry.what answered.entry.server.index answered (good.flights who session answered flies.there flies.flight)) (session.waiting ++ answered.entry ∷ [])) is)
  where
    reads_none : (old : Machine) (what : What) (place : ℕ) (answered : Answered) → WasSo old.servers what place answered → IsRead what → answered.made ≡ None
    reads_none old (whats.Read key vector) place answered was read = was.0
    reads_none old (whats.Write wid stamp deps) place answered was read = absurd read
    reads_none old whats.Refused place answered was read = absurd read

lose_tagged : (old : Machine) (who : ℕ) (reply : Reply) (new : Machine) → AreTagged old → LoseStep old who reply new → AreTagged new
lose_tagged old who reply new is (LoseStep.skipped none replies same) = becomes new old same is
lose_tagged old who reply new is (LoseStep.dropped session answered flies replies same) =
    becomes new _ same
    (quiet_tagged old _ (λ made stands. stands) (one_goes old.sessions who session _ flies.there (record { begun = omega arith; asked = λ asking asked. (asked, record { asks = refl; reads = refl; writes = refl }) })) (nobody_told old _ refl) is)

file_tagged : (old : Machine) (who : ℕ) (reply : Reply) (new : Machine) → AreTagged old → FileStep old who reply new → AreTagged new
file_tagged old who reply new is (FileStep.skipped none replies same) = becomes new old same is
file_tagged old who reply new is (FileStep.filed session entry later may replies same) =
    becomes new _ same
    (quiet_tagged old _ (λ made stands. stands) (one_goes old.sessions who session _ may.there (record { begun = omega arith; asked = λ asking asked. (asked, record { asks = refl; reads = refl; writes = refl }) })) (nobody_told old _ refl) is)

offer_tagged : (old : Machine) (place : ℕ) (reply : Reply) (new : Machine) → AreTagged old → OfferStep old place reply new → AreTagged new
offer_tagged old place reply new is (OfferStep.skipped none replies same) = becomes new old same is
offer_tagged old place reply new is (OfferStep.kept known few replies same) = becomes new _ same (quiet_tagged old _ (λ made stands. stands) (λ who. stays (old.sessions who)) (nobody_told old _ refl) is)

collect_tagged : (old : Machine) (place offer : ℕ) (reply : Reply) (new : Machine) → AreTagged old → CollectStep old place offer reply new → AreTagged new
collect_tagged old place offer reply new is (CollectStep.skipped none replies same) = becomes new old same is
collect_tagged old place offer reply new is (CollectStep.no_memory maker database one known there has lacks replies same) = becomes new old same is
collect_tagged old place offer reply new is (CollectStep.flown offered lacking may replies same) =
    becomes new _ same (quiet_tagged old (record old { items = old.items ++ lacking }) stood (λ who. stays (old.sessions who)) (nobody_told old _ refl) is)
  where
    stood : StandOn old (record old { items = old.items ++ lacking })
    stood made (inl held) = inl held
    stood made (inr (inl doubt)) = inr (inl doubt)
    stood made (inr (inr item)) = elim (Contains-append_cases old.items lacking made item) as (λ _. Stands old made) [
      | inl before ↦ inr (inr before)
      | inr sent ↦ inl (place, ((may.those.those made).0 sent).0)
    ]

-- a server has what stood before, and no session has changed
server_tagged : (old : Machine) (place : ℕ) (server : ServerSets) → ((made : Made) → Contains server.held made → Stands old made) → ((made : Made) → server.doubt ≡ Some made → Stands old made)
    → AreTagged old → AreTagged (record old { servers = changed old.servers place server })
server_tagged old place server held doubt is =
    quiet_tagged old (record old { servers = changed old.servers place server })
    (λ made. standing_changed (Stands old made) old.servers old.items place server made (held made) (doubt made) (λ stands. stands)) (λ who. stays (old.sessions who)) (nobody_told old _ refl) is

-- what a server held, and one that stood, stood
added_stood : (old : Machine) (place : ℕ) (one made : Made) → Stands old one → Contains ((old.servers place).held ++ one ∷ []) made → Stands old made
added_stood old place one made stands has = elim (Contains-push_cases (old.servers place).held one made has) as (λ _. Stands old made) [
  | inl before ↦ inl (place, before)
  | inr now ↦ subst (Stands old) now stands
]

item_stands : (old : Machine) (item : ℕ) (made : Made) → slice_get old.items item ≡ Some made → Stands old made
item_stands old item made got = inr (inr (item, slice_get_within old.items item made got, get_or_from_slice_get old.items item made made got))

take_tagged : (old : Machine) (place item : ℕ) (reply : Reply) (new : Machine) → AreTagged old → TakeStep old place item reply new → AreTagged new
take_tagged old place item reply new is (TakeStep.skipped none replies same) = becomes new old same is
take_tagged old place item reply new is (TakeStep.had made given holds replies same) = becomes new old same is
take_tagged old place item reply new is (TakeStep.refused made fault given refused replies same) = becomes new old same is
take_tagged old place item reply new is (TakeStep.doubted made given next room replies same) =
    becomes new _ same
    (server_tagged old place (with_doubt (old.servers place) made) (λ other has. inl (place, has))
    (λ other doubt. subst (Stands old) (some_is made other doubt) (item_stands old item made given.there)) is)
take_tagged old place item reply new is (TakeStep.taken made given next room replies same) =
    becomes new _ same
    (server_tagged old place (with_write (old.servers place) made) (λ other has. added_stood old place made other (item_stands old item made given.there) has)
    (λ other doubt. inr (inl (place, doubt))) is)

fuse_tagged : (old : Machine) (place call : ℕ) (reply : Reply) (new : Machine) → AreTagged old → FuseStep old place call reply new → AreTagged new
fuse_tagged old place call reply new is (FuseStep.skipped none replies same) = becomes new old same is
fuse_tagged old place call reply new is (FuseStep.fused known some replies same) = becomes new old same is

-- a server that is up again has what it held, and what was in doubt, or not
recovered : (old : Machine) (place : ℕ) (adopted : Option Made) (server : ServerSets) → Recovers (old.servers place) adopted server → AreTagged old
    → AreTagged (record old { servers = changed old.servers place server })
recovered old place None server recovers is =
    server_tagged old place server (λ made has. inl (place, subst (λ (s : ServerSets). Contains s.held made) recovers has))
    (λ made doubt. absurd (none_is made (sym (ap (λ (s : ServerSets). s.doubt) recovers) ∙ doubt))) is
recovered old place (Some one) server recovers is =
    server_tagged old place server
    (λ made has. added_stood old place one made (inr (inl (place, recovers.0))) (subst (λ (s : ServerSets). Contains s.held made) recovers.1 has))
    (λ made doubt. absurd (none_is made (sym (ap (λ (s : ServerSets). s.doubt) recovers.1) ∙ doubt))) is

reopen_tagged : (old : Machine) (place : ℕ) (reply : Reply) (new : Machine) → AreTagged old → ReopenStep old place reply new → AreTagged new
reopen_tagged old place reply new is (ReopenStep.skipped none replies same) = becomes new old same is
reopen_tagged old place reply new is (ReopenStep.refused fault runs refused replies same) = becomes new old same is
reopen_tagged old place reply new is (ReopenStep.reopened adopted server runs down recovers replies same) = becomes new _ same (recovered old place adopted server recovers is)

restart_tagged : (old : Machine) (place : ℕ) (reply : Reply) (new : Machine) → AreTagged old → RestartStep old place reply new → AreTagged new
restart_tagged old place reply new is (RestartStep.skipped none replies same) = becomes new old same is
restart_tagged old place reply new is (RestartStep.refused fault known refused replies same) =
    becomes new _ same (server_tagged old place (stopped_now (old.servers place)) (λ made has. inl (place, has)) (λ made doubt. inr (inl (place, doubt))) is)
restart_tagged old place reply new is (RestartStep.restarted adopted server known recovers replies same) = becomes new _ same (recovered old place adopted server recovers is)

-- ---- an event

pub step_tagged : (old : Machine) (event : Event) (reply : Reply) (new : Machine) → IsGoodMachine old → AreTagged old → Step old event reply new → AreTagged new
step_tagged old (events.Read session server key) reply new good is step = read_tagged old session.index server.index key reply new is step
step_tagged old (events.Write session server program) reply new good is step = write_tagged old session.index server.index program reply new good is step
step_tagged old (events.Again session) reply new good is step = again_tagged old session.index reply new good is step
step_tagged old (events.Deliver session) reply new good is step = deliver_tagged old session.index reply new good is step
step_tagged old (events.Lose session) reply new good is step = lose_tagged old session.index reply new is step
step_tagged old (events.Offer server) reply new good is step = offer_tagged old server.index reply new is step
step_tagged old (events.Collect server offer) reply new good is step = collect_tagged old server.index offer reply new is step
step_tagged old (events.Take server item) reply new good is step = take_tagged old server.index item reply new is step
step_tagged old (events.Fuse server call front) reply new good is step = fuse_tagged old server.index call reply new is step
step_tagged old (events.Reopen server) reply new good is step = reopen_tagged old server.index reply new is step
step_tagged old (events.Restart server) reply new good is step = restart_tagged old server.index reply new is step
step_tagged old (events.File session) reply new good is step = file_tagged old session.index reply new is step

-- as a run begins nothing stands, and nothing was asked
nothing_stands : (count limit capacity : ℕ) (asks : ℕ → Option Asks) (made : Made) → Stands (first_machine count limit capacity asks) made → ⊥
nothing_stands count limit capacity asks made (inl held) = Contains-none made held.1
nothing_stands count limit capacity asks made (inr (inl doubt)) = none_is made doubt.1
nothing_stands count limit capacity asks made (inr (inr item)) = Contains-none made item

nothing_asked : (asks : Option Asks) (session : SessionSets) (asking : Asking) → option_map new_session asks ≡ Some session → session.asked ≡ Some asking → ⊥
nothing_asked None session asking is asked = none_is session is
nothing_asked (Some asks) session asking is asked = none_is asking (ap (λ (s : SessionSets). s.asked) (some_is (new_session asks) session is) ∙ asked)

pub first_tagged : (count limit capacity : ℕ) (asks : ℕ → Option Asks) → AreTagged (first_machine count limit capacity asks)
first_tagged count limit capacity asks = record {
  asked = λ made stands. absurd (nothing_stands count limit capacity asks made stands);
  one = λ made other here there same. absurd (nothing_stands count limit capacity asks made here);
  begun = λ who asking may. absurd (nothing_asked (asks who) may.session asking may.there may.asked);
  again = λ who asking may made stands tag. absurd (nothing_stands count limit capacity asks made stands);
}

-- ---- what one server holds

pub distinct_tags : (machine : Machine) → IsGoodMachine machine → AreTagged machine → (place : ℕ) → HasDistinctTags (machine.servers place)
distinct_tags machine good tagged place =
    let held = (machine.servers place).held in
    let fitting = fitting_at machine.count machine.limit machine.servers good.servers place in
    let distinct = AllPairs-map (λ (x y : Write). x.wid ≢ y.wid) (λ (made : Made). made.write) held (fitting_distinct_wids machine.count (writes held) fitting) in
    let stands : (made : Made) (k : ℕ) (d : Made) → k < length held → get_or held k d ≡ made → Contains held made =
    λ made k d within is. (k, within, get_or_default held k made d within ∙ is) in
    record {
      held = λ i j d less within same.
          let one = get_or held i d in
          let other = get_or held j d in
          let here = stands one i d (omega (arith, less, within)) refl in
          let there = stands other j d within refl in
          let is : one ≡ other = tagged.one one other (inl (place, here)) (inl (place, there)) same in
          distinct i j d less within (ap (λ (made : Made). made.write.wid) is);
      doubt = λ made doubt k d within same.
          let other = get_or held k d in
          let is : other ≡ made = tagged.one other made (inl (place, stands other k d within refl)) (inr (inl (place, doubt))) same in
          let has : Contains held made = stands made k d within is in
          let has_name : Contains (names (writes held)) made.write.wid =
          Contains-map (λ (w : Write). w.wid) (writes held) made.write (Contains-map (λ (m : Made). m.write) held made has) in
          let covered : Covers (count_of (writes held)) made.write.wid.origin.index made.write.wid.seq = (named machine.count (writes held) made.write.wid fitting).0 has_name in
          let may = (good.servers place).doubt made doubt in
          omega (arith, covered, may.fits.0.next);
    }
