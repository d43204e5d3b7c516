-- A Write that a session which runs asks again, the machine's asks again.
use Rattle.std.proofs.Common.{◌≡◌, ◌⊎◌, inl, ℕ, ◌<◌, List, Option, None, Some, MatchOption, Result, Ok, Err, Contains, length, map, get_or, set, ap, sym, ◌∙◌, refl, subst}
use Rattle.std.specs.Option.{option_map}
use Rattle.bayou_base.specs.declared.answer.Accepted.{Accepted}
use Rattle.bayou_base.specs.declared.entry.Entry.{Entry}
use Rattle.bayou_base.specs.declared.limits.TheConstants.{MAX_PLACES, SESSIONS}
use Rattle.bayou_base.specs.declared.server.ServerId.{ServerId}
use Rattle.bayou_base.specs.declared.tag.Tag.{Tag}
use Rattle.bayou_base.specs.Vector.{Dominates}
use Rattle.bayou_lang.specs.declared.write.Write.{Write}
use Rattle.bayou_lang.specs.Writes.{count_of}
use Rattle.bayou_server.specs.declared.answer.Written.{Written}
use Rattle.bayou_server.specs.declared.answer.Written.TheVariants as written
use Rattle.bayou_server.specs.declared.fault.WriteFault.{WriteFault}
use Rattle.bayou_server.specs.declared.fault.WriteFault.TheVariants as writing
use Rattle.bayou_server.specs.Writes as accepts
use Rattle.bayou_device.specs.Memory.{Memory}
use Rattle.bayou_server.specs.Server.{Core, ServerState}
use Rattle.bayou_session.specs.Needs.{Told, asks_again, write_need}
use Rattle.bayou_world.specs.declared.world_session.Asked.{Asked}
use Rattle.bayou_world.specs.declared.world_session.WorldSession.{WorldSession}
use Rattle.bayou_world.specs.declared.world_server.WorldServer.{WorldServer}
use Rattle.bayou_world.specs.declared.world_server.WorldServer.TheVariants.{Running}
use Rattle.bayou_world.specs.declared.reply.Reply.TheVariants as replies
use Rattle.bayou_world.specs.Inner.WorldSessions.{Asks, server_of}
use Rattle.bayou_world.specs.Inner.Good.{IsGoodMachine}
use Rattle.bayou_world.specs.Inner.Tie.{IsAskedOf, IsTied, IsWorldSessionOf, number_of, seat}
use Rattle.bayou_world.specs.Machine.{Answered, Asking, Machine, Made, SessionSets, tag_at}
use Rattle.bayou_world.specs.Steps.{AgainStep, HoldsAsked, IsRunning, IsTagOf, MayRepeat, with_answer}
use Rattle.bayou_world.specs.Tags.{AreTagged, IsMadeFor, MayAskAgain}
use Rattle.bayou_world.proofs.Agreeing.{WriteLaw, covers_write}
use Rattle.bayou_world.proofs.Beside.{own_tag, tag_kept}
use Rattle.bayou_world.proofs.Homes.{home_of_held, stands_behind}
use Rattle.bayou_world.proofs.Lists.{Contains-map}
use Rattle.bayou_world.proofs.Tied.{IsRunningServer, may_begin, place_begun, runs_at, session_of_seat, stands_for}
use Rattle.bayou_world.proofs.TiedWrites.{asked_there, begins_at, entry_is_of, one_tag, tied_so, tag_there, under_tag, writes_it}

some_is : {X : Type 0} (a b : X) → Some a ≡ Some b → a ≡ b
some_is a b same = cc

-- what is kept to be asked again is what the machine's session asked
asking_of : (a : Option Asked) (s : Option Asking) (asked : Asked) → IsAskedOf a s → a ≡ Some asked → (asking : Asking) × (s ≡ Some asking) × IsAskedOf (Some asked) (Some asking)
asking_of None s asked is at = let both : None ≡ Some asked = at in absurd (cc)
asking_of (Some other) None asked is at = absurd is
asking_of (Some other) (Some asking) asked is at = (asking, refl, subst (λ (a : Asked). IsAskedOf (Some a) (Some asking)) (some_is other asked at) is)

-- what was asked is what is kept of it
pub some_kept : (a : Option Asked) (server : ServerId) → option_map server_of a ≡ Some server → (asked : Asked) × (a ≡ Some asked) × (asked.server ≡ server)
some_kept None server some = let both : None ≡ Some server = some in absurd (cc)
some_kept (Some asked) server some = (asked, refl, some_is asked.server server some)

-- what a session that runs does as it asks again, or can't
abbrev pub Repeats : WorldSession → ServerState Memory → Option (Result Written WriteFault) → WorldSession → ServerState Memory → Type 0
Repeats old server repeated new new_server = MatchOption repeated (((old.asked ≡ None) ⊎ (old.session.asked ≡ None)) × (new ≡ old) × (new_server ≡ server))
    (λ answer. (asked : Asked) × (number : ℕ) × (old.asked ≡ Some asked) × (old.session.asked ≡ Some number) × Asks old (asks_again old.session) asked number server answer new new_server)

module _ (law : WriteLaw) (servers : List WorldServer) (world_sessions : List (Option WorldSession)) (offers : List (List ℕ)) (items : List Write) (told : List Entry) (machine : Machine) (good : IsGoodMachine machine)
    (tagged : AreTagged machine) (tied : IsTied servers world_sessions offers items told machine) (who : ℕ) (inside : who < SESSIONS) (world_session new : WorldSession) (session : SessionSets)
    (is : IsWorldSessionOf who world_session session) (asking : Asking) (asked : Asked) (for_it : IsAskedOf (Some asked) (Some asking)) (repeat : MayRepeat machine who session asking)
    (old_server new_server : ServerState Memory) (here : IsRunningServer machine asking.server old_server) where
  abbrev AsksIt : Result Written WriteFault → Type 0
  AsksIt answer = Asks world_session (place_begun world_session.session (Some asking.number)) asked asking.number old_server answer new new_server

  abbrev AsksAgain : Result Written WriteFault → Type 0
  AsksAgain answer = (next : Machine) × AgainStep machine who (replies.AskedAgain asked.server answer) next
      × IsTied (set servers asking.server (Running new_server)) (set world_sessions who (Some new)) offers items told next

  abbrev may : MayAskAgain machine who asking
  may = record { session = session; there = repeat.begin.there; asked = repeat.asked }

  -- what the server holds under the tag, the machine's holds so, and it was made for this
  held_there : (tag : Tag) (write : Write) → IsTagOf who asking.number tag → accepts.HoldsUnder old_server.core tag write
      → (made : Made) × HoldsAsked machine who asking made × (made.write ≡ write) × IsMadeFor machine.served session asking made
  held_there tag write tag_is under =
      let found = under_tag machine.count machine.limit asking.server old_server.core (machine.servers asking.server) tag write here.core under in
      let of_asking : IsTagOf who asking.number found.0.tag = subst (IsTagOf who asking.number) (sym found.2) tag_is in
      (found.0, record { held = found.1; under = of_asking }, found.3, tagged.again who asking may found.0 (inl (asking.server, found.1)) of_asking)

  -- and the other way round
  none_there : (tag : Tag) → IsTagOf who asking.number tag → accepts.IsFresh old_server.core tag → (made : Made) → ¬ HoldsAsked machine who asking made
  none_there tag tag_is fresh made holds =
      let server = machine.servers asking.server in
      let made_for = tagged.again who asking may made (inl (asking.server, holds.held)) holds.under in
      let same : tag_at asking.server made ≡ Some tag = own_tag asking.server made made_for.server ∙ ap Some (one_tag who asking.number made.tag tag holds.under tag_is) in
      let has : Contains (map (tag_at asking.server) server.held) (Some tag) =
      subst (Contains (map (tag_at asking.server) server.held)) same (Contains-map (tag_at asking.server) server.held made holds.held) in
      fresh (subst (λ (c : Core). Contains c.tags (Some tag)) (sym here.core.is) has)

  -- no Write is held under the tag
  asked_anew : (answer : Result Written WriteFault) → (asks : AsksIt answer) → accepts.IsFresh old_server.core asks.tag → AsksAgain answer
  asked_anew answer asks fresh =
      let tag = tag_there who asking.number world_session session asks.tag is asks.tag_is in
      let none : (write : Write) → accepts.HoldsUnder old_server.core asks.tag write → ⊥ = λ write under.
      fresh (tag_kept old_server.core.held old_server.core.tags (record { write = write; tag = Some asks.tag }) under) in
      let done = asked_there law servers world_sessions offers items told machine good tied who inside world_session new session is asking asked for_it repeat.begin old_server new_server here answer asks none in
      (done.0, AgainStep.asked session asking answer repeat (none_there asks.tag tag fresh) done.1 (asked.server, for_it.0, refl), done.2)

  -- one is, and it is told as it was
  known_there : (accepted : Accepted) → (asks : AsksIt (Ok (written.Known accepted))) → AsksAgain (Ok (written.Known accepted))
  known_there accepted asks =
      let answer : Result Written WriteFault = Ok (written.Known accepted) in
      let writes = writes_it law servers world_sessions offers items told machine good tied who inside world_session new session is asking asked for_it repeat.begin old_server new_server here answer asks in
      let repeats = writes.0 in
      let tag = tag_there who asking.number world_session session asks.tag is asks.tag_is in
      let found = held_there asks.tag repeats.write tag repeats.held in
      let made = found.0 in
      let entry = (begins_at law servers world_sessions offers items told machine good tied who inside world_session new session is asking asked for_it repeat.begin old_server new_server here answer asks).entry in
      let stands = stands_behind machine.count machine.limit machine.servers good.servers made (home_of_held machine.count machine.limit machine.servers good.servers asking.server made found.1.held) in
      let answered : Answered = record { entry = entry; database = made.past; made = Some made } in (
        with_answer machine who session (Some asking) answered,
        AgainStep.known session asking entry made accepted repeat found.1
            (record {
              wid = repeats.tells.wid ∙ sym (ap (λ (w : Write). w.wid) found.2);
              stamp = repeats.tells.stamp ∙ sym (ap (λ (w : Write). w.stamp) found.2);
              deps = repeats.tells.deps ∙ sym (ap (λ (w : Write). w.deps) found.2) ∙ stands.deps;
            }) (asked.server, for_it.0, refl)
            (entry_is_of law servers world_sessions offers items told machine good tied who inside world_session new session is asking asked for_it repeat.begin old_server new_server here answer asks) refl,
        tied_so law servers world_sessions offers items told machine good tied who inside world_session new session is asking asked for_it repeat.begin old_server new_server here answer asks writes.1 answered refl
            (accepted, refl, refl),
      )

  -- What is held under the tag is of the program, behind all that the session needs: so the server never says that the tag is used.
  never_used : (asks : AsksIt (Err writing.TagUsed)) → ⊥
  never_used asks =
      let answer : Result Written WriteFault = Err writing.TagUsed in
      let used = (writes_it law servers world_sessions offers items told machine good tied who inside world_session new session is asking asked for_it repeat.begin old_server new_server here answer asks).0 in
      let tag = tag_there who asking.number world_session session asks.tag is asks.tag_is in
      let found = held_there asks.tag used.write tag used.held in
      let made = found.0 in
      let stands = stands_behind machine.count machine.limit machine.servers good.servers made (home_of_held machine.count machine.limit machine.servers good.servers asking.server made found.1.held) in
      let covered : Dominates (count_of made.past) (write_need world_session.session) =
      covers_write law machine.count made.past stands.fitting world_session.session session (stands_for who world_session session is) found.3.covered in
      used.other (record {
        program_is = sym (ap (λ (w : Write). w.program) found.2) ∙ found.3.program;
        covered = subst (λ v. Dominates v (write_need world_session.session)) (sym stands.deps ∙ ap (λ (w : Write). w.deps) found.2) covered;
      })

  repeats_there : (answer : Result Written WriteFault) → AsksIt answer → AsksAgain answer
  repeats_there (Ok (written.New accepted)) asks = asked_anew (Ok (written.New accepted)) asks asks.writes.0
  repeats_there (Ok (written.Known accepted)) asks = known_there accepted asks
  repeats_there (Err writing.TagUsed) asks = absurd (never_used asks)
  repeats_there (Err writing.Down) asks = asked_anew (Err writing.Down) asks asks.writes.0
  repeats_there (Err (writing.Behind vector)) asks = asked_anew (Err (writing.Behind vector)) asks asks.writes.0
  repeats_there (Err writing.LogFull) asks = asked_anew (Err writing.LogFull) asks asks.writes.0
  repeats_there (Err writing.OutOfMemory) asks = asked_anew (Err writing.OutOfMemory) asks asks.writes.0
  repeats_there (Err writing.Journal) asks = asked_anew (Err writing.Journal) asks asks.writes.0

pub again_tied : WriteLaw → (servers : List WorldServer) (world_sessions : List (Option WorldSession)) (offers : List (List ℕ)) (items : List Write) (told : List Entry) (machine : Machine) → IsGoodMachine machine
    → AreTagged machine → IsTied servers world_sessions offers items told machine → (who : ℕ) (server : ServerId) (world_session new : WorldSession) (old_server new_server : ServerState Memory) (answer : Result Written WriteFault)
    → who < SESSIONS → seat world_sessions who ≡ Some world_session → world_session.flight ≡ None → world_session.session.begun < MAX_PLACES → server.index < length servers
    → get_or servers server.index (Running old_server) ≡ Running old_server → (asked : Asked) (number : ℕ) → world_session.asked ≡ Some asked → world_session.session.asked ≡ Some number → asked.server ≡ server
    → Asks world_session (asks_again world_session.session) asked number old_server answer new new_server
    → (next : Machine) × AgainStep machine who (replies.AskedAgain server answer) next × IsTied (set servers server.index (Running new_server)) (set world_sessions who (Some new)) offers items told next
again_tied law servers world_sessions offers items told machine good tagged tied who server world_session new old_server new_server answer inside at none left known stands asked number kept may_ask place_is asks =
    let seat_is = session_of_seat who (seat world_sessions who) (machine.sessions who) world_session (tied.sessions_are who inside) at in
    let session = seat_is.0 in
    let is = seat_is.2 in
    let found = asking_of world_session.asked session.asked asked is.kept kept in
    let asking = found.0 in
    let for_it = found.2 in
    let here = runs_at servers world_sessions offers items told machine tied server.index old_server known stands in
    let there : server.index ≡ asking.server = ap (λ (s : ServerId). s.index) (sym place_is) ∙ for_it.0 in
    let same_number : number ≡ asking.number = some_is number asking.number (sym may_ask ∙ is.asked ∙ ap (option_map number_of) found.1) in
    let repeat : MayRepeat machine who session asking = record {
      asked = found.1;
      begin = may_begin machine who asking.server world_session session seat_is.1 is none left (subst (λ n. IsRunning machine n) there here.running);
    } in
    let session_is : asks_again world_session.session ≡ place_begun world_session.session (Some number) = ap (λ n. place_begun world_session.session n) may_ask in
    let asks_it : Asks world_session (place_begun world_session.session (Some asking.number)) asked asking.number old_server answer new new_server =
    subst (λ n. Asks world_session (place_begun world_session.session (Some n)) asked n old_server answer new new_server) same_number
    (subst (λ (t : Told). Asks world_session t asked number old_server answer new new_server) session_is asks) in
    subst (λ (s : ServerId). (next : Machine) × AgainStep machine who (replies.AskedAgain s answer) next × IsTied (set servers s.index (Running new_server)) (set world_sessions who (Some new)) offers items told next) place_is
    (subst (λ n. (next : Machine) × AgainStep machine who (replies.AskedAgain asked.server answer) next × IsTied (set servers n (Running new_server)) (set world_sessions who (Some new)) offers items told next) (sym for_it.0)
    (repeats_there law servers world_sessions offers items told machine good tagged tied who inside world_session new session is asking asked for_it repeat old_server new_server
    (subst (λ n. IsRunningServer machine n old_server) there here) answer asks_it))
