-- A Write that the servers and sessions that run make, the machine makes.
use Rattle.std.proofs.Common.{◌≡◌, ◌≢◌, ◌↔◌, inl, ℕ, ◌+◌, ◌<◌, List, [], ◌∷◌, ◌++◌, Option, None, Some, Result, Ok, Err, IsSome, Contains, length, map, get_or, set, ap, sym, ◌∙◌, refl, subst, arith}
use Rattle.std.specs.Option.{option_and_then, option_map}
use Rattle.std.proofs.lemmas.List.{length-map, map-append}
use Rattle.bayou_base.specs.declared.entry.Entry.{Entry}
use Rattle.bayou_base.specs.declared.limits.TheConstants.{MAX_PLACES, SESSIONS}
use Rattle.bayou_base.specs.declared.session.SessionId.{SessionId}
use Rattle.bayou_base.specs.declared.tag.Tag.{Tag}
use Rattle.bayou_base.specs.Vector.{Dominates}
use Rattle.bayou_lang.specs.declared.write.Write.{Write}
use Rattle.bayou_lang.specs.declared.program.Program.{Program}
use Rattle.bayou_lang.specs.Laws.Equality.{session-ext, tag-ext}
use Rattle.bayou_lang.specs.Writes.{IsNextWrite, count_of}
use Rattle.bayou_server.specs.declared.answer.Written.{Written}
use Rattle.bayou_server.specs.declared.answer.Written.TheVariants as written
use Rattle.bayou_server.specs.declared.fault.WriteFault.{WriteFault}
use Rattle.bayou_server.specs.declared.fault.WriteFault.TheVariants as writing
use Rattle.bayou_server.specs.Writes as accepts
use Rattle.bayou_device.specs.Memory.{Memory}
use Rattle.bayou_server.specs.Server.{Core, ServerState}
use Rattle.bayou_session.specs.Needs.{HasCounts, Told, asks_first, write_need}
use Rattle.bayou_session.specs.Needs as needs
use Rattle.bayou_world.specs.declared.world_session.Asked.{Asked}
use Rattle.bayou_world.specs.declared.world_session.WorldSession.{WorldSession}
use Rattle.bayou_world.specs.declared.world_server.WorldServer.{WorldServer}
use Rattle.bayou_world.specs.declared.world_server.WorldServer.TheVariants.{Running}
use Rattle.bayou_world.specs.declared.reply.Reply.TheVariants as replies
use Rattle.bayou_world.specs.Inner.WorldSessions.{Asks, Begins, accepted_as, accepted_of}
use Rattle.bayou_world.specs.Inner.Good.{IsGoodMachine}
use Rattle.bayou_world.specs.Inner.Tie.{IsAcceptedIn, IsAskedOf, IsWorldSessionOf, IsServerOf, IsTied, seat, write_of}
use Rattle.bayou_world.specs.Machine.{Answered, Asking, Machine, Made, ServerSets, SessionSets, tag_at, with_server, writes}
use Rattle.bayou_world.specs.Steps.{AskStep, IsEntry, IsReady, IsTagOf, Makes, MayBegin, MayWrite, RefusesWrite, WriteStep, first_asking, refusal, with_answer, with_doubt, with_write}
use Rattle.bayou_world.specs.Tags.{AreTagged}
use Rattle.bayou_world.proofs.Agreeing.{WriteLaw, may_write}
use Rattle.bayou_world.proofs.Beside.{its_tag, kept_of, own_tag}
use Rattle.bayou_world.proofs.Homes.{fitting_at}
use Rattle.bayou_world.proofs.Tied.{IsRunningServer, began, entry_of, may_begin, place_begun, running_server, runs_at, same_place, session_of_seat, stands_for, with_place, with_seat}

write_covered : WriteLaw → (machine : Machine) → IsGoodMachine machine → (who place : ℕ) (world_session : WorldSession) (session : SessionSets) → IsWorldSessionOf who world_session session → HasCounts world_session.session
    → Dominates (count_of (writes (machine.servers place).held)) (write_need world_session.session) ↔ MayWrite session (machine.servers place).held
write_covered law machine good who place world_session session is counts =
    let fitting = fitting_at machine.count machine.limit machine.servers good.servers place in
    let agree = may_write law machine.count (machine.servers place).held fitting world_session.session session (stands_for who world_session session is) in (agree.1, agree.0)

-- ---- what the server's core says of the machine's server

pub no_doubt : (doubt : Option Made) → option_map write_of doubt ≡ None → doubt ≡ None
no_doubt None is = refl
no_doubt (Some made) is = let both : Some made.write ≡ None = is in absurd (cc)

pub some_doubt : (doubt : Option Made) → IsSome (option_map write_of doubt) → IsSome doubt
some_doubt None is = is
some_doubt (Some made) is = refl

-- no Write is in doubt there, and what the session needs is held
ready_there : WriteLaw → (machine : Machine) → IsGoodMachine machine → (who place : ℕ) (world_session : WorldSession) (session : SessionSets) → IsWorldSessionOf who world_session session → HasCounts world_session.session
    → (core : Core) → IsServerOf machine.count machine.limit place core (machine.servers place) → accepts.IsReady core (write_need world_session.session) → IsReady session (machine.servers place)
ready_there law machine good who place world_session session is counts core at ready = record {
  up = no_doubt (machine.servers place).doubt (sym (ap (λ (c : Core). c.doubt) at.is) ∙ ready.up);
  covered = (write_covered law machine good who place world_session session is counts).0
      (subst (λ h. Dominates (count_of h) (write_need world_session.session)) (ap (λ (c : Core). c.held) at.is) ready.covered);
}

-- the tag is of what the session asked first at that place
pub tag_there : (who number : ℕ) (world_session : WorldSession) (session : SessionSets) (tag : Tag) → IsWorldSessionOf who world_session session → needs.IsTagOf world_session.session number tag → IsTagOf who number tag
tag_there who number world_session session tag is asked = record {
  session_is = ap (λ (id : SessionId). id.index) asked.0 ∙ is.name;
  run_is = asked.1 ∙ is.run;
  number_is = asked.2;
}

-- and there is one such
pub one_tag : (who number : ℕ) (a b : Tag) → IsTagOf who number a → IsTagOf who number b → a ≡ b
one_tag who number a b of_a of_b =
    tag-ext a b (session-ext a.session b.session (of_a.session_is ∙ sym of_b.session_is)) (of_a.run_is ∙ sym of_b.run_is) (of_a.number_is ∙ sym of_b.number_is)

-- a Write that the server holds under a tag is one of the machine's, of that tag
pub under_tag : (count limit place : ℕ) (core : Core) (server : ServerSets) (tag : Tag) (write : Write) → IsServerOf count limit place core server → accepts.HoldsUnder core tag write
    → (made : Made) × Contains server.held made × (made.tag ≡ tag) × (made.write ≡ write)
under_tag count limit place core server tag write at under =
    let found = kept_of place server.held (record { write = write; tag = Some tag }) (subst (λ (c : Core). accepts.HoldsUnder c tag write) at.is under) in
    (found.0, found.1, its_tag place found.0 tag found.3, found.2)

-- no Write is held under the tag of the session's next place
pub none_under : (machine : Machine) → AreTagged machine → (who place : ℕ) (session : SessionSets) (tag : Tag) → machine.sessions who ≡ Some session → IsTagOf who (session.begun + 1) tag
    → (core : Core) (write : Write) → IsServerOf machine.count machine.limit place core (machine.servers place) → accepts.HoldsUnder core tag write → ⊥
none_under machine tagged who place session tag there is core write at under =
    let found = under_tag machine.count machine.limit place core (machine.servers place) tag write at under in
    let asked = tagged.asked found.0 (inl (place, found.1)) in
    let same : asked.session ≡ session = some_session asked.session session (sym asked.there ∙ ap (λ (t : Tag). machine.sessions t.session.index) found.2 ∙ ap machine.sessions is.session_is ∙ there) in
    omega (arith, asked.begun, ap (λ (t : Tag). t.number) found.2, is.number_is, ap (λ (s : SessionSets). s.begun) same)
  where
    some_session : (a b : SessionSets) → Some a ≡ Some b → a ≡ b
    some_session a b both = cc

-- what is refused is refused there
refuses : WriteLaw → (machine : Machine) → IsGoodMachine machine → (who place : ℕ) (world_session : WorldSession) (session : SessionSets) → IsWorldSessionOf who world_session session → HasCounts world_session.session
    → (tag : Tag) (program : Program) (core new : Core) (fault : WriteFault) → IsServerOf machine.count machine.limit place core (machine.servers place) → ((write : Write) → accepts.HoldsUnder core tag write → ⊥)
    → fault ≢ writing.Journal → accepts.Writes core tag (write_need world_session.session) program (Err fault) new → RefusesWrite machine.limit session (machine.servers place) fault × (new ≡ core)
refuses law machine good who place world_session session is counts tag program core new writing.TagUsed at none no_fault (used, same) = absurd (none used.write used.held)
refuses law machine good who place world_session session is counts tag program core new writing.Down at none no_fault (fresh, down, same) =
    (some_doubt (machine.servers place).doubt (subst IsSome (ap (λ (c : Core). c.doubt) at.is) down), same)
refuses law machine good who place world_session session is counts tag program core new (writing.Behind vector) at none no_fault (fresh, up, behind, same) =
    let held_is = ap (λ (c : Core). c.held) at.is in (
      (
        no_doubt (machine.servers place).doubt (sym (ap (λ (c : Core). c.doubt) at.is) ∙ up),
        (λ may. behind.not_covered (subst (λ h. Dominates (count_of h) (write_need world_session.session)) (sym held_is) ((write_covered law machine good who place world_session session is counts).1 may))),
        behind.held ∙ ap count_of held_is,
      ),
      same,
    )
refuses law machine good who place world_session session is counts tag program core new writing.LogFull at none no_fault (fresh, ready, full, same) = (
  (
    (ready_there law machine good who place world_session session is counts core at ready),
    (
        sym (length-map (machine.servers place).held write_of) ∙ ap length (sym (ap (λ (c : Core). c.held) at.is)) ∙ full ∙ ap (λ (c : Core). c.limit) at.is),
  ),
  same,
)
refuses law machine good who place world_session session is counts tag program core new writing.OutOfMemory at none no_fault (fresh, ready, room, same) = (
  (
    (ready_there law machine good who place world_session session is counts core at ready),
    omega (arith, room, length-map (machine.servers place).held write_of, ap length (ap (λ (c : Core). c.held) at.is), ap (λ (c : Core). c.limit) at.is),
  ),
  same,
)
refuses law machine good who place world_session session is counts tag program core new writing.Journal at none no_fault doubts = absurd (no_fault refl)

-- the Write that is made is made there
makes_there : WriteLaw → (machine : Machine) → IsGoodMachine machine → (who : ℕ) (world_session : WorldSession) (session : SessionSets) → IsWorldSessionOf who world_session session → HasCounts world_session.session
    → (asking : Asking) (tag : Tag) → IsTagOf who asking.number tag → (core : Core) (write : Write) → IsServerOf machine.count machine.limit asking.server core (machine.servers asking.server)
    → accepts.Makes core (write_need world_session.session) asking.program write
    → Makes machine.limit who session (machine.servers asking.server) asking (record { write = write; past = writes (machine.servers asking.server).held; tag = tag })
makes_there law machine good who world_session session is counts asking tag asked core write at makes =
    let server = machine.servers asking.server in
    record {
      ready = ready_there law machine good who asking.server world_session session is counts core at makes.ready;
      room = omega (arith, makes.room, length-map server.held write_of, ap length (ap (λ (c : Core). c.held) at.is), ap (λ (c : Core). c.limit) at.is);
      next = subst (λ (c : Core). IsNextWrite c.held c.id asking.program write) at.is makes.next;
      past = refl;
      tag = asked;
    }

-- a server that has all this is the one
pub is_server : (count limit place : ℕ) (core : Core) (server : ServerSets) → core.id ≡ place → core.count ≡ count → core.limit ≡ limit → core.held ≡ writes server.held
    → core.tags ≡ map (tag_at place) server.held → core.doubt ≡ option_map write_of server.doubt → core.doubt_tag ≡ option_and_then (tag_at place) server.doubt → IsServerOf count limit place core server
is_server count limit place core server same_id same_count same_limit same_held same_tags same_doubt same_doubt_tag = record {
  is = ap (λ n. record core { id = n }) same_id
      ∙ ap (λ n. record core { id = place; count = n }) same_count
      ∙ ap (λ n. record core { id = place; count = count; limit = n }) same_limit
      ∙ ap (λ h. record core { id = place; count = count; limit = limit; held = h }) same_held
      ∙ ap (λ t. record core { id = place; count = count; limit = limit; held = writes server.held; tags = t }) same_tags
      ∙ ap (λ d. record core { id = place; count = count; limit = limit; held = writes server.held; tags = map (tag_at place) server.held; doubt = d }) same_doubt
      ∙ ap (λ t. record core {
        id = place;
        count = count;
        limit = limit;
        held = writes server.held;
        tags = map (tag_at place) server.held;
        doubt = option_map write_of server.doubt;
        doubt_tag = t;
      }) same_doubt_tag;
}

-- it holds a Write more, with the tag that it knows of it
pub held_more : (count limit place : ℕ) (core new : Core) (server : ServerSets) (made : Made) (tag : Option Tag) → tag_at place made ≡ tag → IsServerOf count limit place core server
    → new ≡ record core { held = core.held ++ made.write ∷ []; tags = core.tags ++ tag ∷ [] } → IsServerOf count limit place new (with_write server made)
held_more count limit place core new server made tag tag_is at is =
    is_server count limit place new (with_write server made) (ap (λ (c : Core). c.id) is ∙ ap (λ (c : Core). c.id) at.is) (ap (λ (c : Core). c.count) is ∙ ap (λ (c : Core). c.count) at.is)
    (ap (λ (c : Core). c.limit) is ∙ ap (λ (c : Core). c.limit) at.is)
    (ap (λ (c : Core). c.held) is ∙ ap (λ (c : Core). c.held ++ made.write ∷ []) at.is ∙ sym (map-append write_of server.held (made ∷ [])))
    (ap (λ (c : Core). c.tags) is ∙ ap (λ (c : Core). c.tags ++ tag ∷ []) at.is ∙ ap (λ t. map (tag_at place) server.held ++ t ∷ []) (sym tag_is) ∙ sym (map-append (tag_at place) server.held (made ∷ [])))
    (ap (λ (c : Core). c.doubt) is ∙ ap (λ (c : Core). c.doubt) at.is) (ap (λ (c : Core). c.doubt_tag) is ∙ ap (λ (c : Core). c.doubt_tag) at.is)

pub doubted_there : (count limit place : ℕ) (core new : Core) (server : ServerSets) (made : Made) (tag : Option Tag) → tag_at place made ≡ tag → IsServerOf count limit place core server
    → new ≡ record core { doubt = Some made.write; doubt_tag = tag } → IsServerOf count limit place new (with_doubt server made)
doubted_there count limit place core new server made tag tag_is at is =
    is_server count limit place new (with_doubt server made) (ap (λ (c : Core). c.id) is ∙ ap (λ (c : Core). c.id) at.is) (ap (λ (c : Core). c.count) is ∙ ap (λ (c : Core). c.count) at.is)
    (ap (λ (c : Core). c.limit) is ∙ ap (λ (c : Core). c.limit) at.is) (ap (λ (c : Core). c.held) is ∙ ap (λ (c : Core). c.held) at.is) (ap (λ (c : Core). c.tags) is ∙ ap (λ (c : Core). c.tags) at.is)
    (ap (λ (c : Core). c.doubt) is) (ap (λ (c : Core). c.doubt_tag) is ∙ sym tag_is)

-- ---- a session that runs asks

-- The session that runs may ask this, of a server that runs, and it does, whatever it is answered.
module _ (law : WriteLaw) (servers : List WorldServer) (world_sessions : List (Option WorldSession)) (offers : List (List ℕ)) (items : List Write) (told : List Entry) (machine : Machine) (good : IsGoodMachine machine)
    (tied : IsTied servers world_sessions offers items told machine) (who : ℕ) (inside : who < SESSIONS) (world_session new : WorldSession) (session : SessionSets) (is : IsWorldSessionOf who world_session session)
    (asking : Asking) (asked : Asked) (for_it : IsAskedOf (Some asked) (Some asking)) (may : MayBegin machine who asking.server session) (old_server new_server : ServerState Memory)
    (here : IsRunningServer machine asking.server old_server) where
  -- its next place, for what it asks
  abbrev pub asks_now : Told
  asks_now = place_begun world_session.session (Some asking.number)

  abbrev pub AsksIt : Result Written WriteFault → Type 0
  AsksIt answer = Asks world_session asks_now asked asking.number old_server answer new new_server

  abbrev pub Tied : Machine → Type 0
  Tied next = IsTied (set servers asking.server (Running new_server)) (set world_sessions who (Some new)) offers items told next

  pub writes_it : (answer : Result Written WriteFault) → (asks : AsksIt answer) → accepts.Writes old_server.core asks.tag (write_need world_session.session) asking.program answer new_server.core
  writes_it answer asks = subst (λ program. accepts.Writes old_server.core asks.tag (write_need world_session.session) program answer new_server.core) for_it.1 asks.writes

  pub begins_at : (answer : Result Written WriteFault) → (asks : AsksIt answer) → Begins world_session asks_now (Some asked) asking.server (accepted_as answer) (accepted_of answer) new
  begins_at answer asks = subst (λ n. Begins world_session asks_now (Some asked) n (accepted_as answer) (accepted_of answer) new) (ap (λ (c : Core). c.id) here.core.is) asks.begun

  asks_tag : (answer : Result Written WriteFault) → (asks : AsksIt answer) → IsTagOf who asking.number asks.tag
  asks_tag answer asks = tag_there who asking.number world_session session asks.tag is asks.tag_is

  -- the server is this then, and the session has this answer in flight
  tied_then : (answer : Result Written WriteFault) → (asks : AsksIt answer) → (server : ServerSets) → server.stopped ≡ (machine.servers asking.server).stopped
      → IsServerOf machine.count machine.limit asking.server new_server.core server → (answered : Answered) → answered.entry ≡ (begins_at answer asks).entry → IsAcceptedIn (accepted_as answer) (accepted_of answer)
      → Tied (with_answer (with_server machine asking.server server) who session (Some asking) answered)
  tied_then answer asks server stopped server_is answered entry_is tells =
      with_seat (set servers asking.server (Running new_server)) world_sessions offers items told (with_server machine asking.server server)
      (with_place servers world_sessions offers items told machine tied asking.server (Running new_server) server here.running.there
      (running_server machine.count machine.limit asking.server new_server server (stopped ∙ here.running.runs) server_is (asks.honest here.honest))) who new
      (record session { begun = session.begun + 1; asked = Some asking; flight = Some answered }) inside
      (began who asking.server world_session new session (Some asking.number) (Some asked) (Some asking) refl for_it (accepted_as answer) (accepted_of answer) answered is (begins_at answer asks) entry_is tells)

  -- the same, where the server is as it was
  pub tied_so : (answer : Result Written WriteFault) → (asks : AsksIt answer) → new_server.core ≡ old_server.core → (answered : Answered) → answered.entry ≡ (begins_at answer asks).entry
      → IsAcceptedIn (accepted_as answer) (accepted_of answer) → Tied (with_answer machine who session (Some asking) answered)
  tied_so answer asks same answered entry_is tells =
      let server_is : IsServerOf machine.count machine.limit asking.server new_server.core (machine.servers asking.server) =
      subst (λ (c : Core). IsServerOf machine.count machine.limit asking.server c (machine.servers asking.server)) (sym same) here.core in
      with_seat (set servers asking.server (Running new_server)) world_sessions offers items told machine
      (same_place servers world_sessions offers items told machine tied asking.server (Running new_server) here.running.there
      (running_server machine.count machine.limit asking.server new_server (machine.servers asking.server) here.running.runs server_is (asks.honest here.honest))) who new
      (record session { begun = session.begun + 1; asked = Some asking; flight = Some answered }) inside
      (began who asking.server world_session new session (Some asking.number) (Some asked) (Some asking) refl for_it (accepted_as answer) (accepted_of answer) answered is (begins_at answer asks) entry_is tells)

  pub entry_is_of : (answer : Result Written WriteFault) → (asks : AsksIt answer) → IsEntry who asking.server session (accepted_as answer) (begins_at answer asks).entry
  entry_is_of answer asks = entry_of who asking.server world_session new session (Some asking.number) (Some asked) (accepted_as answer) (accepted_of answer) is (begins_at answer asks)

  abbrev pub AsksThere : Result Written WriteFault → Type 0
  AsksThere answer = (next : Machine) × AskStep machine who session asking answer next × Tied next

  refused_there : (fault : WriteFault) → (asks : AsksIt (Err fault)) → ((write : Write) → accepts.HoldsUnder old_server.core asks.tag write → ⊥) → fault ≢ writing.Journal → AsksThere (Err fault)
  refused_there fault asks none no_fault =
      let both = refuses law machine good who asking.server world_session session is asks.counts asks.tag asking.program old_server.core new_server.core fault here.core none no_fault (writes_it (Err fault) asks) in
      let entry = (begins_at (Err fault) asks).entry in (
        with_answer machine who session (Some asking) (refusal entry),
        AskStep.refused entry fault both.0 refl (entry_is_of (Err fault) asks) refl,
        tied_so (Err fault) asks both.1 (refusal entry) refl refl,
      )

  -- where no Write is held under the tag, the machine does as the server does
  pub asked_there : (answer : Result Written WriteFault) → (asks : AsksIt answer) → ((write : Write) → accepts.HoldsUnder old_server.core asks.tag write → ⊥) → AsksThere answer
  asked_there (Ok (written.New accepted)) asks none =
      let server = machine.servers asking.server in
      let accepts_it = (writes_it (Ok (written.New accepted)) asks).1 in
      let tag = asks_tag (Ok (written.New accepted)) asks in
      let entry = (begins_at (Ok (written.New accepted)) asks).entry in
      let made : Made = record { write = accepts_it.made; past = writes server.held; tag = asks.tag } in
      let makes = makes_there law machine good who world_session session is asks.counts asking asks.tag tag old_server.core accepts_it.made here.core accepts_it.makes in
      let answered : Answered = record { entry = entry; database = made.past; made = Some made } in
      let server_is = held_more machine.count machine.limit asking.server old_server.core new_server.core server made (Some asks.tag) (own_tag asking.server made makes.next.origin) here.core accepts_it.is in (
        with_answer (with_server machine asking.server (with_write server made)) who session (Some asking) answered,
        AskStep.accepted entry made accepted makes (record { wid = accepts_it.tells.wid; stamp = accepts_it.tells.stamp; deps = accepts_it.tells.deps ∙ makes.next.deps }) refl
            (entry_is_of (Ok (written.New accepted)) asks) refl,
        tied_then (Ok (written.New accepted)) asks (with_write server made) refl server_is answered refl (accepted, refl, refl),
      )
  asked_there (Ok (written.Known accepted)) asks none = let repeats = (writes_it (Ok (written.Known accepted)) asks).0 in absurd (none repeats.write repeats.held)
  asked_there (Err writing.TagUsed) asks none = let used = (writes_it (Err writing.TagUsed) asks).0 in absurd (none used.write used.held)
  asked_there (Err writing.Journal) asks none =
      let server = machine.servers asking.server in
      let doubts = (writes_it (Err writing.Journal) asks).1 in
      let tag = asks_tag (Err writing.Journal) asks in
      let entry = (begins_at (Err writing.Journal) asks).entry in
      let made : Made = record { write = doubts.made; past = writes server.held; tag = asks.tag } in
      let makes = makes_there law machine good who world_session session is asks.counts asking asks.tag tag old_server.core doubts.made here.core doubts.makes in
      let server_is = doubted_there machine.count machine.limit asking.server old_server.core new_server.core server made (Some asks.tag) (own_tag asking.server made makes.next.origin) here.core doubts.is in (
        with_answer (with_server machine asking.server (with_doubt server made)) who session (Some asking) (refusal entry),
        AskStep.doubted entry made makes refl (entry_is_of (Err writing.Journal) asks) refl,
        tied_then (Err writing.Journal) asks (with_doubt server made) refl server_is (refusal entry) refl refl,
      )
  asked_there (Err writing.Down) asks none = refused_there writing.Down asks none (λ same. absurd (cc))
  asked_there (Err (writing.Behind vector)) asks none = refused_there (writing.Behind vector) asks none (λ same. absurd (cc))
  asked_there (Err writing.LogFull) asks none = refused_there writing.LogFull asks none (λ same. absurd (cc))
  asked_there (Err writing.OutOfMemory) asks none = refused_there writing.OutOfMemory asks none (λ same. absurd (cc))

pub write_tied : WriteLaw → (servers : List WorldServer) (world_sessions : List (Option WorldSession)) (offers : List (List ℕ)) (items : List Write) (told : List Entry) (machine : Machine) → IsGoodMachine machine
    → AreTagged machine → IsTied servers world_sessions offers items told machine → (who place : ℕ) (program : Program) (world_session new : WorldSession) (old_server new_server : ServerState Memory) (answer : Result Written WriteFault)
    → who < SESSIONS → seat world_sessions who ≡ Some world_session → world_session.flight ≡ None → world_session.session.begun < MAX_PLACES → place < length servers
    → get_or servers place (Running old_server) ≡ Running old_server → (asked : Asked) → asked.server.index ≡ old_server.core.id → asked.program ≡ program
    → Asks world_session (asks_first world_session.session) asked (world_session.session.begun + 1) old_server answer new new_server
    → (next : Machine) × WriteStep machine who place program (replies.Wrote answer) next × IsTied (set servers place (Running new_server)) (set world_sessions who (Some new)) offers items told next
write_tied law servers world_sessions offers items told machine good tagged tied who place program world_session new old_server new_server answer inside at none left known stands asked server_is program_is asks_it =
    let seat_is = session_of_seat who (seat world_sessions who) (machine.sessions who) world_session (tied.sessions_are who inside) at in
    let session = seat_is.0 in
    let is = seat_is.2 in
    let here = runs_at servers world_sessions offers items told machine tied place old_server known stands in
    let may = may_begin machine who place world_session session seat_is.1 is none left here.running in
    let asking = first_asking place session program in
    let asks : Asks world_session (place_begun world_session.session (Some (session.begun + 1))) asked (session.begun + 1) old_server answer new new_server =
    subst (λ n. Asks world_session (place_begun world_session.session (Some (n + 1))) asked (n + 1) old_server answer new new_server) is.begun asks_it in
    let tag = tag_there who (session.begun + 1) world_session session asks.tag is asks.tag_is in
    let fresh = none_under machine tagged who place session asks.tag seat_is.1 tag old_server.core in
    let done = asked_there law servers world_sessions offers items told machine good tied who inside world_session new session is asking asked (server_is ∙ ap (λ (c : Core). c.id) here.core.is, program_is) may old_server new_server here
    answer asks (λ write. fresh write here.core) in
    (done.0, WriteStep.asked session answer may done.1 refl, done.2)
