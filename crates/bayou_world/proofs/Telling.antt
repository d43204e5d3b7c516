-- Over each event sessions are told what was done, and servers remember what they had.
use Rattle.std.proofs.Common.{◌≡◌, ◌≢◌, inl, inr, ◌⊎◌, ℕ, ◌+◌, ◌<◌, Bool, false, List, [], ◌∷◌, ◌++◌, Result, Option, None, Some, IfSome, Contains, All, length, get_or, slice_index, ap, sym, ◌∙◌, refl, subst, arith}
use Rattle.std.specs.Option.{option_map}
use Rattle.std.proofs.lemmas.List.{append-nil, map-append}
use Rattle.std.proofs.lemmas.List.Elements.{All-contains, All-nil, All-push, All-weaker, Contains-append_left, Contains-push}
use Rattle.std.proofs.lemmas.List.Quantifiers.{all_pairs_push}
use Rattle.bayou_base.specs.declared.answer.Accepted.{Accepted}
use Rattle.bayou_base.specs.declared.asks.Asks.{Asks}
use Rattle.bayou_base.specs.declared.entry.Entry.{Entry}
use Rattle.bayou_base.specs.declared.entry.What.{What}
use Rattle.bayou_base.specs.declared.entry.What.TheVariants as whats
use Rattle.bayou_base.specs.declared.wid.Wid.{Wid}
use Rattle.bayou_lang.specs.declared.program.Program.{Program}
use Rattle.bayou_lang.specs.declared.write.Write.{Write}
use Rattle.bayou_lang.specs.Writes.{IsNextWrite, count_of}
use Rattle.bayou_judge.specs.Evidence.{TellsOf}
use Rattle.bayou_judge.specs.History.{IsFrontOf}
use Rattle.bayou_server.specs.declared.answer.Written.{Written}
use Rattle.bayou_server.specs.declared.fault.WriteFault.{WriteFault}
use Rattle.bayou_world.specs.declared.event.Event.{Event}
use Rattle.bayou_world.specs.declared.event.Event.TheVariants as events
use Rattle.bayou_world.specs.declared.reply.Reply.{Reply}
use Rattle.bayou_world.specs.Inner.Good.{IsGoodFlight, IsGoodMachine, IsHome, IsTrueAnswer, WasSo}
use Rattle.bayou_world.specs.Inner.Told.{Flies, IsLater, IsRemembered, IsToldBy, IsToldMachine, IsToldTrue, TellsOfOthers}
use Rattle.bayou_world.specs.Machine.{Answered, Asking, Machine, Made, ServerSets, SessionSets, changed, names, with_session, writes}
use Rattle.bayou_world.specs.Runs.{Run, first_machine, new_session}
use Rattle.bayou_world.specs.Steps.{AgainStep, AskStep, CollectStep, DeliverStep, FileStep, FuseStep, HoldsAsked, IsAccepted, IsEntry, IsInFlight, LoseStep, MayBegin, MayRepeat, OfferStep, ReadStep, Recovers, ReopenStep, RestartStep, Step, TakeStep, WriteStep, first_asking, refusal, served_by, stopped_now, told, with_answer, with_doubt, with_write}
use Rattle.bayou_world.specs.Tags.{AreTagged}
use Rattle.bayou_world.proofs.Homes.{fitting_at, home_of_held, one_home, stands_behind}
use Rattle.bayou_world.proofs.Lists.{Contains-map, at_changed, changed-other, changed-same, same_number}
use Rattle.bayou_world.proofs.Starting.{first_good}
use Rattle.bayou_world.proofs.Stepping.{all_of_contained, sessions_changed, step_good}
use Rattle.bayou_world.proofs.Tagging.{first_tagged, step_tagged}
use Rattle.bayou_world.proofs.Vectors.{named}

-- ---- what servers had

-- a front of a list with one more is a front of the list, or the whole
front_of_push : (list database rest : List Write) (write : Write) → list ++ write ∷ [] ≡ database ++ rest → IsFrontOf list database ⊎ (list ++ write ∷ [] ≡ database)
front_of_push list [] rest write same = inl (list, refl)
front_of_push [] (first ∷ []) rest write same = let one : write ≡ first = cc in inr (ap (λ (w : Write). w ∷ []) one)
front_of_push [] (first ∷ second ∷ database) rest write same = absurd (omega (arith, ap length same))
front_of_push (head ∷ list) (first ∷ database) rest write same =
    let one : head ≡ first = cc in
    let tail : list ++ write ∷ [] ≡ database ++ rest = cc in
    elim (front_of_push list database rest write tail) as (λ _. IsFrontOf (head ∷ list) (first ∷ database) ⊎ (head ∷ (list ++ write ∷ []) ≡ first ∷ database)) [
      | inl front ↦ inl (front.0, ap (λ (w : Write). w ∷ list) one ∙ ap (λ ws. first ∷ ws) front.1)
      | inr whole ↦ inr (ap (λ (w : Write). w ∷ (list ++ write ∷ [])) one ∙ ap (λ ws. first ∷ ws) whole)
    ]

remembers_write : (count place : ℕ) (server : ServerSets) (made : Made) (doubt : Option Made) (stopped : Bool) → place < count → IsRemembered count place server
    → IsRemembered count place (with_write (record server { doubt = doubt; stopped = stopped }) made)
remembers_write count place server made doubt stopped known is =
    let whole = writes (server.held ++ made ∷ []) in
    let split : whole ≡ writes server.held ++ made.write ∷ [] = map-append (λ (m : Made). m.write) server.held (made ∷ []) in
    record {
      had = λ database front.
          elim (front_of_push (writes server.held) database front.0 made.write (sym split ∙ front.1)) as (λ _. Contains (server.had ++ whole ∷ []) database) [
            | inl earlier ↦ Contains-append_left server.had (whole ∷ []) database (is.had database earlier)
            | inr all ↦ subst (Contains (server.had ++ whole ∷ [])) (split ∙ all) (Contains-push server.had whole)
          ];
      beyond = λ outside. absurd (omega (arith, known, outside));
    }

remembers_same : (count place : ℕ) (server new : ServerSets) → new.held ≡ server.held → new.had ≡ server.had → IsRemembered count place server → IsRemembered count place new
remembers_same count place server new held had is = record {
  had = λ database front. subst (λ list. Contains list database) (sym had) (is.had database (subst (λ (list : List Made). IsFrontOf (writes list) database) held front));
  beyond = λ outside. held ∙ is.beyond outside;
}

remembers_recovery : (count place : ℕ) (server : ServerSets) (adopted : Option Made) (new : ServerSets) → place < count → Recovers server adopted new → IsRemembered count place server → IsRemembered count place new
remembers_recovery count place server None new known recovers is =
    remembers_same count place server new (ap (λ (s : ServerSets). s.held) recovers) (ap (λ (s : ServerSets). s.had) recovers) is
remembers_recovery count place server (Some made) new known recovers is =
    subst (IsRemembered count place) (sym recovers.1) (remembers_write count place server made None false known is)

-- ---- what is in flight

flies_changed : (sessions : ℕ → Option SessionSets) (who : ℕ) (new : SessionSets) (other : ℕ) (answered : Answered) → Flies (changed sessions who (Some new)) other answered
    → ((other ≡ who) × (new.flight ≡ Some answered)) ⊎ ((other ≢ who) × Flies sessions other answered)
flies_changed sessions who new other answered flies =
    elim (same_number other who) as (λ _. ((other ≡ who) × (new.flight ≡ Some answered)) ⊎ ((other ≢ who) × Flies sessions other answered)) [
      | inl same ↦
          let there : changed sessions who (Some new) who ≡ Some flies.0 = subst (λ n. changed sessions who (Some new) n ≡ Some flies.0) same flies.1 in
          let here : Some new ≡ Some flies.0 = sym (changed-same sessions who (Some new)) ∙ there in
          let one : new ≡ flies.0 = cc in
          inl (same, ap (λ (s : SessionSets). s.flight) one ∙ flies.2)
      | inr differs ↦ inr (differs, (flies.0, sym (changed-other sessions who (Some new) other differs) ∙ flies.1, flies.2))
    ]

turn : (one other : Answered) → TellsOfOthers one other → TellsOfOthers other one
turn one other is = λ name here there. is name there here

-- a session whose flight ends, or goes on
lands : (count : ℕ) (asks : ℕ → Option Asks) (old : Machine) → IsToldMachine count asks old → (who : ℕ) (session new : SessionSets) → old.sessions who ≡ Some session → new.asks ≡ session.asks
    → ((answered : Answered) → new.flight ≡ Some answered → session.flight ≡ Some answered) → IsToldMachine count asks (with_session old who new)
lands count asks old is who session new there same goes_on =
    let flies : (other : ℕ) (answered : Answered) → Flies (changed old.sessions who (Some new)) other answered → Flies old.sessions other answered =
    λ other answered in_flight. elim (flies_changed old.sessions who new other answered in_flight) as (λ _. Flies old.sessions other answered) [
      | inl here ↦ (session, subst (λ n. old.sessions n ≡ Some session) (sym here.0) there, goes_on answered here.1)
      | inr elsewhere ↦ elsewhere.1
    ] in
    record {
      count_is = is.count_is;
      servers = is.servers;
      asks_are = sessions_changed (λ n (s : SessionSets). asks n ≡ Some s.asks) old.sessions who new (is.asks_are who session there ∙ ap Some (sym same)) is.asks_are;
      served = is.served;
      in_order = is.in_order;
      flights = λ other answered in_flight. is.flights other answered (flies other answered in_flight);
      new = λ other answered in_flight. is.new other answered (flies other answered in_flight);
      apart = λ one other first second differs here elsewhere. is.apart one other first second differs (flies one first here) (flies other second elsewhere);
    }

-- it hears what was in flight to it, which is served
hears : (count : ℕ) (asks : ℕ → Option Asks) (old : Machine) → IsToldMachine count asks old → (who : ℕ) (session new : SessionSets) (answered : Answered) → old.sessions who ≡ Some session
    → session.flight ≡ Some answered → new.asks ≡ session.asks → new.flight ≡ None
    → All (λ (other : Answered). other.entry.session.index ≡ answered.entry.session.index → other.entry.place < answered.entry.place) old.served
    → IsToldMachine count asks (record (with_session old who new) { served = old.served ++ answered ∷ [] })
hears count asks old is who session new answered there flight same none behind =
    let landed = lands count asks old is who session new there same (λ other flies. let both : None ≡ Some other = sym none ∙ flies in absurd (cc)) in
    let flown : Flies old.sessions who answered = (session, there, flight) in
    record {
      count_is = landed.count_is;
      servers = landed.servers;
      asks_are = landed.asks_are;
      served = All-push (IsToldTrue count asks) old.served answered is.served (is.flights who answered flown);
      in_order = all_pairs_push IsLater old.served answered is.in_order (λ k d within. record { place = behind k d within; others = is.new who answered flown k d within });
      flights = landed.flights;
      new = λ other second in_flight.
          All-push (λ (o : Answered). TellsOfOthers o second) old.served answered (landed.new other second in_flight)
          (elim (flies_changed old.sessions who new other second in_flight) as (λ _. TellsOfOthers answered second) [
            | inl here ↦ let both : None ≡ Some second = sym none ∙ here.1 in absurd (cc)
            | inr elsewhere ↦ is.apart who other answered second (λ e. elsewhere.0 (sym e)) flown elsewhere.1
          ]);
      apart = landed.apart;
    }

-- an answer goes in flight, over servers that may hold more
begins : (count : ℕ) (asks : ℕ → Option Asks) (old : Machine) → IsToldMachine count asks old → (servers : ℕ → ServerSets) → ((place : ℕ) → IsRemembered count place (servers place))
    → (who : ℕ) (session : SessionSets) (asked : Option Asking) (answered : Answered) → old.sessions who ≡ Some session → IsToldTrue count asks answered
    → All (λ other. TellsOfOthers other answered) old.served → ((other : ℕ) (second : Answered) → Flies old.sessions other second → TellsOfOthers second answered)
    → IsToldMachine count asks (with_answer (record old { servers = servers }) who session asked answered)
begins count asks old is servers remembered who session asked answered there is_true fresh other_flights =
    let new = record session { begun = session.begun + 1; asked = asked; flight = Some answered } in
    let split = flies_changed old.sessions who new in
    record {
      count_is = is.count_is;
      servers = remembered;
      asks_are = sessions_changed (λ n (s : SessionSets). asks n ≡ Some s.asks) old.sessions who new (is.asks_are who session there) is.asks_are;
      served = is.served;
      in_order = is.in_order;
      flights = λ other second in_flight. elim (split other second in_flight) as (λ _. IsToldTrue count asks second) [
        | inl here ↦ let one : answered ≡ second = (let both = here.1 in cc) in subst (IsToldTrue count asks) one is_true
        | inr elsewhere ↦ is.flights other second elsewhere.1
      ];
      new = λ other second in_flight. elim (split other second in_flight) as (λ _. All (λ (o : Answered). TellsOfOthers o second) old.served) [
        | inl here ↦ let one : answered ≡ second = (let both = here.1 in cc) in subst (λ a. All (λ (o : Answered). TellsOfOthers o a) old.served) one fresh
        | inr elsewhere ↦ is.new other second elsewhere.1
      ];
      apart = λ one other first second differs here elsewhere.
          elim (split one first here) as (λ _. TellsOfOthers first second) [
            | inl now ↦ elim (split other second elsewhere) as (λ _. TellsOfOthers first second) [
              | inl too ↦ absurd (differs (now.0 ∙ sym too.0))
              | inr before ↦
                  let is_it : answered ≡ first = (let both = now.1 in cc) in
                  subst (λ a. TellsOfOthers a second) is_it (turn second answered (other_flights other second before.1))
            ]
            | inr before ↦ elim (split other second elsewhere) as (λ _. TellsOfOthers first second) [
              | inl now ↦
                  let is_it : answered ≡ second = (let both = now.1 in cc) in
                  subst (TellsOfOthers first) is_it (other_flights one first before.1)
              | inr also ↦ is.apart one other first second differs before.1 also.1
            ]
          ];
    }

-- servers alone are others
servers_told : (count : ℕ) (asks : ℕ → Option Asks) (old : Machine) → IsToldMachine count asks old → (servers : ℕ → ServerSets) → ((place : ℕ) → IsRemembered count place (servers place))
    → IsToldMachine count asks (record old { servers = servers })
servers_told count asks old is servers remembered = record {
  count_is = is.count_is;
  servers = remembered;
  asks_are = is.asks_are;
  served = is.served;
  in_order = is.in_order;
  flights = is.flights;
  new = is.new;
  apart = is.apart;
}

-- ---- the answer of a server

-- the entry of an answer is true, where what it tells of a Write is
entry_told : (count : ℕ) (asks : ℕ → Option Asks) (who place : ℕ) (session : SessionSets) (what : What) (answered : Answered) → IsEntry who place session what answered.entry → place < count
    → asks who ≡ Some session.asks → IsToldBy what place answered.made → IsToldTrue count asks answered
entry_told count asks who place session what answered entry known asked is = record {
  server = omega (arith, known, entry.server_is);
  asks_are = ap asks entry.session_is ∙ asked ∙ ap Some (sym entry.asks_are);
  what = subst (λ w. IsToldBy w answered.entry.server.index answered.made) (sym entry.what_is) (subst (λ n. IsToldBy what n answered.made) (sym entry.server_is) is);
}

-- an answer that accepts no Write tells of none
tells_none : (what : What) (other answered : Answered) → answered.entry.what ≡ what → ((name : Wid) → TellsOf name what → ⊥) → TellsOfOthers other answered
tells_none what other answered is none = λ name here there. none name (subst (TellsOf name) is there)

-- a true answer that tells of a Write tells of one at home
told_home : (servers : ℕ → ServerSets) (what : What) (place : ℕ) (answered : Answered) (name : Wid) → TellsOf name what → WasSo servers what place answered
    → (made : Made) × IsHome servers made × (made.write.wid ≡ name)
told_home servers (whats.Read key vector) place answered name tells is = absurd tells
told_home servers (whats.Write wid stamp deps) place answered name tells (made, is, home, named_so) = (made, home, named_so ∙ tells)
told_home servers whats.Refused place answered name tells is = absurd tells

-- the server's next Write has a name that nothing was told of
next_is_new : (old : Machine) → IsGoodMachine old → (place : ℕ) (program : Program) (made : Made) → IsNextWrite (writes (old.servers place).held) place program made.write
    → (other : Answered) → IsTrueAnswer old.servers other → (name : Wid) → TellsOf name other.entry.what → name ≡ made.write.wid → ⊥
next_is_new old good place program made next other is_true name tells same =
    let held = writes (old.servers place).held in
    let home = told_home old.servers other.entry.what other.entry.server.index other name tells is_true in
    let wid : home.0.write.wid ≡ made.write.wid = home.2 ∙ same in
    let here : home.0.write.wid.origin.index ≡ place = ap (λ (w : Wid). w.origin.index) wid ∙ next.origin in
    let has : Contains (old.servers place).held home.0 = subst (λ n. Contains (old.servers n).held home.0) here home.1 in
    let has_name : Contains (names held) home.0.write.wid =
    Contains-map (λ (w : Write). w.wid) held home.0.write (Contains-map (λ (m : Made). m.write) (old.servers place).held home.0 has) in
    let covered = (named old.count held home.0.write.wid (fitting_at old.count old.limit old.servers good.servers place)).0 has_name in
    let seq : home.0.write.wid.seq ≡ made.write.wid.seq = ap (λ (w : Wid). w.seq) wid in
    let at : slice_index (count_of held) home.0.write.wid.origin.index ≡ slice_index (count_of held) place = ap (slice_index (count_of held)) here in
    omega (arith, covered, seq, next.seq, at)

-- ---- each event

same_told : (count : ℕ) (asks : ℕ → Option Asks) (old new : Machine) → new ≡ old → IsToldMachine count asks old → IsToldMachine count asks new
same_told count asks old new same is = subst (IsToldMachine count asks) (sym same) is

known_server : (count : ℕ) (asks : ℕ → Option Asks) (old : Machine) → IsToldMachine count asks old → (place : ℕ) → place < old.count → place < count
known_server count asks old is place known = omega (arith, known, is.count_is)

-- a refusal goes in flight, over servers that may hold more
refuses : (count : ℕ) (asks : ℕ → Option Asks) (old : Machine) → IsToldMachine count asks old → (servers : ℕ → ServerSets) → ((other : ℕ) → IsRemembered count other (servers other))
    → (who place : ℕ) (session : SessionSets) (asked : Option Asking) (entry : Entry) → MayBegin old who place session → IsEntry who place session whats.Refused entry
    → IsToldMachine count asks (with_answer (record old { servers = servers }) who session asked (refusal entry))
refuses count asks old is servers remembered who place session asked entry may entry_is =
    begins count asks old is servers remembered who session asked (refusal entry) may.there
    (entry_told count asks who place session whats.Refused (refusal entry) entry_is (known_server count asks old is place may.server.there) (is.asks_are who session may.there) tt)
    (λ k d within. tells_none whats.Refused (get_or old.served k d) (refusal entry) entry_is.what_is (λ name tells. tells))
    (λ other second flies. tells_none whats.Refused second (refusal entry) entry_is.what_is (λ name tells. tells))

read_told : (count : ℕ) (asks : ℕ → Option Asks) (old : Machine) (who place : ℕ) (key : List ℕ) (reply : Reply) (new : Machine) → IsToldMachine count asks old → ReadStep old who place key reply new → IsToldMachine count asks new
read_told count asks old who place key reply new is (ReadStep.skipped cannot replies same) = same_told count asks old new same is
read_told count asks old who place key reply new is (ReadStep.behind session entry may not_may replies entry_is same) =
    subst (IsToldMachine count asks) (sym same) (refuses count asks old is old.servers is.servers who place session None entry may entry_is)
read_told count asks old who place key reply new is (ReadStep.served session entry seen may covered value vector replies entry_is same) =
    let what = whats.Read key seen.vector in
    let answered : Answered = record { entry = entry; database = writes (old.servers place).held; made = None } in
    subst (IsToldMachine count asks) (sym same)
    (begins count asks old is old.servers is.servers who session None answered may.there
    (entry_told count asks who place session what answered entry_is (known_server count asks old is place may.server.there) (is.asks_are who session may.there) tt)
    (λ k d within. tells_none what (get_or old.served k d) answered entry_is.what_is (λ name tells. tells))
    (λ other second flies. tells_none what second answered entry_is.what_is (λ name tells. tells)))

-- a Write is asked for, for the first time or again
ask_told : (count : ℕ) (asks : ℕ → Option Asks) (old : Machine) (who : ℕ) (session : SessionSets) (asking : Asking) (answer : Result Written WriteFault) (new : Machine) → IsGoodMachine old → IsToldMachine count asks old
    → MayBegin old who asking.server session → AskStep old who session asking answer new → IsToldMachine count asks new
ask_told count asks old who session asking answer new good is may (AskStep.refused entry fault refused replies entry_is same) =
    subst (IsToldMachine count asks) (sym same) (refuses count asks old is old.servers is.servers who asking.server session (Some asking) entry may entry_is)
ask_told count asks old who session asking answer new good is may (AskStep.doubted entry made makes replies entry_is same) =
    let place = asking.server in
    let doubted = with_doubt (old.servers place) made in
    subst (IsToldMachine count asks) (sym same)
    (refuses count asks old is (changed old.servers place doubted)
    (at_changed (IsRemembered count) old.servers place doubted (remembers_same count place (old.servers place) doubted refl refl (is.servers place)) is.servers)
    who place session (Some asking) entry may entry_is)
ask_told count asks old who session asking answer new good is may (AskStep.accepted entry made accepted makes told_is replies entry_is same) =
    let place = asking.server in
    let server = old.servers place in
    let what = whats.Write accepted.wid accepted.stamp accepted.deps in
    let answered : Answered = record { entry = entry; database = made.past; made = Some made } in
    let known = known_server count asks old is place may.server.there in
    let is_new : (other : Answered) → IsTrueAnswer old.servers other → TellsOfOthers other answered = λ other is_true name here there.
    next_is_new old good place asking.program made makes.next other is_true name here (sym (subst (TellsOf name) entry_is.what_is there) ∙ told_is.wid) in
    subst (IsToldMachine count asks) (sym same)
    (begins count asks old is (changed old.servers place (with_write server made))
    (at_changed (IsRemembered count) old.servers place (with_write server made) (remembers_write count place server made server.doubt server.stopped known (is.servers place)) is.servers)
    who session (Some asking) answered may.there
    (entry_told count asks who place session what answered entry_is known (is.asks_are who session may.there)
    (made, refl, told_is.wid, told_is.stamp, told_is.deps ∙ ap count_of makes.past ∙ sym makes.next.deps, makes.next.origin))
    (All-weaker (IsTrueAnswer old.servers) (λ (o : Answered). TellsOfOthers o answered) is_new old.served good.served)
    (λ other second flies. is_new second (good.flights other flies.0 second flies.1 flies.2)))

write_told : (count : ℕ) (asks : ℕ → Option Asks) (old : Machine) (who place : ℕ) (program : Program) (reply : Reply) (new : Machine) → IsGoodMachine old → IsToldMachine count asks old
    → WriteStep old who place program reply new → IsToldMachine count asks new
write_told count asks old who place program reply new good is (WriteStep.skipped cannot replies same) = same_told count asks old new same is
write_told count asks old who place program reply new good is (WriteStep.asked session answer may does replies) =
    ask_told count asks old who session (first_asking place session program) answer new good is may does

-- who tells of a Write at home has it
tells_it : (old : Machine) → IsGoodMachine old → (made : Made) → IsHome old.servers made → (what : What) (place : ℕ) (other : Answered) → WasSo old.servers what place other → TellsOf made.write.wid what
    → other.made ≡ Some made
tells_it old good made home (whats.Read key vector) place other was tells = absurd tells
tells_it old good made home (whats.Write wid stamp deps) place other (one, is, one_at_home, named_so) tells =
    is ∙ ap Some (one_home old.count old.limit old.servers good.servers one made one_at_home home (named_so ∙ tells))
tells_it old good made home whats.Refused place other was tells = absurd tells

-- Of the Write that is held nobody was told yet: it was asked for by this session alone, which is told of none, and to which nothing is in flight.
held_told : (count : ℕ) (asks : ℕ → Option Asks) (old : Machine) (who : ℕ) (session : SessionSets) (asking : Asking) (entry : Entry) (made : Made) (accepted : Accepted) → IsGoodMachine old → AreTagged old
    → IsToldMachine count asks old → MayRepeat old who session asking → HoldsAsked old who asking made → IsAccepted made accepted
    → IsEntry who asking.server session (whats.Write accepted.wid accepted.stamp accepted.deps) entry
    → IsToldMachine count asks (with_answer old who session (Some asking) (record { entry = entry; database = made.past; made = Some made }))
held_told count asks old who session asking entry made accepted good tagged is may holds told_is entry_is =
    let place = asking.server in
    let what = whats.Write accepted.wid accepted.stamp accepted.deps in
    let answered : Answered = record { entry = entry; database = made.past; made = Some made } in
    let known = known_server count asks old is place may.begin.server.there in
    let home = home_of_held old.count old.limit old.servers good.servers place made holds.held in
    let made_for = tagged.again who asking (record { session = session; there = may.begin.there; asked = may.asked }) made (inl (place, holds.held)) holds.under in
    let stands = stands_behind old.count old.limit old.servers good.servers made home in
    let is_it : (name : Wid) → TellsOf name entry.what → name ≡ made.write.wid = λ name tells. sym (subst (TellsOf name) entry_is.what_is tells) ∙ told_is.wid in
    let has_it : (other : Answered) → IsTrueAnswer old.servers other → (name : Wid) → TellsOf name other.entry.what → TellsOf name entry.what → other.made ≡ Some made = λ other is_true name here there.
    tells_it old good made home other.entry.what other.entry.server.index other is_true (subst (λ n. TellsOf n other.entry.what) (is_it name there) here) in
    begins count asks old is old.servers is.servers who session (Some asking) answered may.begin.there
    (entry_told count asks who place session what answered entry_is known (is.asks_are who session may.begin.there)
    (made, refl, told_is.wid, told_is.stamp, told_is.deps ∙ sym stands.deps, made_for.server))
    (all_of_contained (λ (o : Answered). TellsOfOthers o answered) old.served (λ other among name here there.
    All-contains (λ (o : Answered). o.made ≢ Some made) old.served other made_for.untold among
    (has_it other (All-contains (IsTrueAnswer old.servers) old.served other good.served among) name here there)))
    (λ other second flies name here there.
    let flight = subst (λ f. IfSome f (IsGoodFlight old.served other flies.0)) flies.2 (good.sessions other flies.0 flies.1).flight in
    let own : made.tag.session.index ≡ other = flight.own made (has_it second (good.flights other flies.0 second flies.1 flies.2) name here there) in
    let same : session ≡ flies.0 = some_session session flies.0 (sym may.begin.there ∙ ap old.sessions (sym holds.under.session_is ∙ own) ∙ flies.1) in
    not_both second (sym may.begin.idle ∙ ap (λ (s : SessionSets). s.flight) same ∙ flies.2))
  where
    some_session : (a b : SessionSets) → Some a ≡ Some b → a ≡ b
    some_session a b both = cc

    not_both : (a : Answered) → None ≡ Some a → ⊥
    not_both a both = cc

again_told : (count : ℕ) (asks : ℕ → Option Asks) (old : Machine) (who : ℕ) (reply : Reply) (new : Machine) → IsGoodMachine old → AreTagged old → IsToldMachine count asks old → AgainStep old who reply new
    → IsToldMachine count asks new
again_told count asks old who reply new good tagged is (AgainStep.skipped cannot replies same) = same_told count asks old new same is
again_told count asks old who reply new good tagged is (AgainStep.known session asking entry made accepted may holds told_is replies entry_is same) =
    subst (IsToldMachine count asks) (sym same) (held_told count asks old who session asking entry made accepted good tagged is may holds told_is entry_is)
again_told count asks old who reply new good tagged is (AgainStep.asked session asking answer may none does replies) =
    ask_told count asks old who session asking answer new good is may.begin does

-- the answer in flight is of a later place than what the session was served
behind_all : (old : Machine) → IsGoodMachine old → (who : ℕ) (session : SessionSets) (answered : Answered) → IsInFlight old who session answered
    → All (λ (other : Answered). other.entry.session.index ≡ answered.entry.session.index → other.entry.place < answered.entry.place) old.served
behind_all old good who session answered flies =
    let flight = subst (λ f. IfSome f (IsGoodFlight old.served who session)) flies.flight (good.sessions who session flies.there).flight in
    let place : answered.entry.place ≡ session.begun = flight.last in
    All-weaker (λ (o : Answered). o.entry.session.index ≡ who → o.entry.place < session.begun) (λ (o : Answered). o.entry.session.index ≡ answered.entry.session.index → o.entry.place < answered.entry.place)
    (λ o early same. omega (arith, early (same ∙ flight.session_is), place)) old.served flight.behind

told_asks : (what : What) (answered : Answered) (session : SessionSets) → (told what answered session).asks ≡ session.asks
told_asks (whats.Read key vector) answered session = refl
told_asks (whats.Write wid stamp deps) answered session = refl
told_asks whats.Refused answered session = refl

-- by what the answer tells
deliver_as : (count : ℕ) (asks : ℕ → Option Asks) (old : Machine) → IsGoodMachine old → IsToldMachine count asks old → (who : ℕ) (session : SessionSets) (answered : Answered) → IsInFlight old who session answered
    → (what : What) → (told what answered session).asks ≡ session.asks
    → IsToldMachine count asks (record (with_session old who (record (told what answered session) { flight = None; waiting = session.waiting ++ answered.entry ∷ [] })) { served = old.served ++ served_by what answered })
deliver_as count asks old good is who session answered flies whats.Refused same =
    let new = record (told whats.Refused answered session) { flight = None; waiting = session.waiting ++ answered.entry ∷ [] } in
    subst (λ list. IsToldMachine count asks (record (with_session old who new) { served = list })) (sym (append-nil old.served))
    (lands count asks old is who session new flies.there same (λ other none. let both : None ≡ Some other = none in absurd (cc)))
deliver_as count asks old good is who session answered flies (whats.Read key vector) same =
    hears count asks old is who session (record (told (whats.Read key vector) answered session) { flight = None; waiting = session.waiting ++ answered.entry ∷ [] }) answered flies.there flies.flight same refl
    (behind_all old good who session answered flies)
deliver_as count asks old good is who session answered flies (whats.Write wid stamp deps) same =
    hears count asks old is who session (record (told (whats.Write wid stamp deps) answered session) { flight = None; waiting = session.waiting ++ answered.entry ∷ [] }) answered flies.there flies.flight same refl
    (behind_all old good who session answered flies)

deliver_told : (count : ℕ) (asks : ℕ → Option Asks) (old : Machine) (who : ℕ) (reply : Reply) (new : Machine) → IsGoodMachine old → IsToldMachine count asks old → DeliverStep old who reply new → IsToldMachine count asks new
deliver_told count asks old who reply new good is (DeliverStep.skipped none replies same) = same_told count asks old new same is
deliver_told count asks old who reply new good is (DeliverStep.delivered session answered flies replies same) =
    subst (IsToldMachine count asks) (sym same) (deliver_as count asks old good is who session answered flies answered.entry.what (told_asks answered.entry.what answered session))

lose_told : (count : ℕ) (asks : ℕ → Option Asks) (old : Machine) (who : ℕ) (reply : Reply) (new : Machine) → IsToldMachine count asks old → LoseStep old who reply new → IsToldMachine count asks new
lose_told count asks old who reply new is (LoseStep.skipped none replies same) = same_told count asks old new same is
lose_told count asks old who reply new is (LoseStep.dropped session answered flies replies same) =
    subst (IsToldMachine count asks) (sym same)
    (lands count asks old is who session _ flies.there refl (λ other none. let both : None ≡ Some other = none in absurd (cc)))

file_told : (count : ℕ) (asks : ℕ → Option Asks) (old : Machine) (who : ℕ) (reply : Reply) (new : Machine) → IsToldMachine count asks old → FileStep old who reply new → IsToldMachine count asks new
file_told count asks old who reply new is (FileStep.skipped none replies same) = same_told count asks old new same is
file_told count asks old who reply new is (FileStep.filed session entry later may replies same) =
    let filed = lands count asks old is who session (record session { waiting = later }) may.there refl (λ answered flies. flies) in
    subst (IsToldMachine count asks) (sym same) (record {
      count_is = filed.count_is;
      servers = filed.servers;
      asks_are = filed.asks_are;
      served = filed.served;
      in_order = filed.in_order;
      flights = filed.flights;
      new = filed.new;
      apart = filed.apart;
    })

offer_told : (count : ℕ) (asks : ℕ → Option Asks) (old : Machine) (place : ℕ) (reply : Reply) (new : Machine) → IsToldMachine count asks old → OfferStep old place reply new → IsToldMachine count asks new
offer_told count asks old place reply new is (OfferStep.skipped none replies same) = same_told count asks old new same is
offer_told count asks old place reply new is (OfferStep.kept known few replies same) = subst (IsToldMachine count asks) (sym same) (record {
  count_is = is.count_is;
  servers = is.servers;
  asks_are = is.asks_are;
  served = is.served;
  in_order = is.in_order;
  flights = is.flights;
  new = is.new;
  apart = is.apart;
})

collect_told : (count : ℕ) (asks : ℕ → Option Asks) (old : Machine) (place offer : ℕ) (reply : Reply) (new : Machine) → IsToldMachine count asks old → CollectStep old place offer reply new → IsToldMachine count asks new
collect_told count asks old place offer reply new is (CollectStep.skipped none replies same) = same_told count asks old new same is
collect_told count asks old place offer reply new is (CollectStep.no_memory maker database one known there has lacks replies same) = same_told count asks old new same is
collect_told count asks old place offer reply new is (CollectStep.flown offered lacking may replies same) = subst (IsToldMachine count asks) (sym same) (record {
  count_is = is.count_is;
  servers = is.servers;
  asks_are = is.asks_are;
  served = is.served;
  in_order = is.in_order;
  flights = is.flights;
  new = is.new;
  apart = is.apart;
})

-- one server is another
server_told : (count : ℕ) (asks : ℕ → Option Asks) (old : Machine) → IsToldMachine count asks old → (place : ℕ) (server : ServerSets) → IsRemembered count place server
    → IsToldMachine count asks (record old { servers = changed old.servers place server })
server_told count asks old is place server remembered =
    servers_told count asks old is (changed old.servers place server) (at_changed (IsRemembered count) old.servers place server remembered is.servers)

take_told : (count : ℕ) (asks : ℕ → Option Asks) (old : Machine) (place item : ℕ) (reply : Reply) (new : Machine) → IsToldMachine count asks old → TakeStep old place item reply new → IsToldMachine count asks new
take_told count asks old place item reply new is (TakeStep.skipped none replies same) = same_told count asks old new same is
take_told count asks old place item reply new is (TakeStep.had made given holds replies same) = same_told count asks old new same is
take_told count asks old place item reply new is (TakeStep.refused made fault given refused replies same) = same_told count asks old new same is
take_told count asks old place item reply new is (TakeStep.doubted made given next room replies same) =
    let server = old.servers place in
    subst (IsToldMachine count asks) (sym same)
    (server_told count asks old is place (with_doubt server made) (remembers_same count place server (with_doubt server made) refl refl (is.servers place)))
take_told count asks old place item reply new is (TakeStep.taken made given next room replies same) =
    let server = old.servers place in
    subst (IsToldMachine count asks) (sym same)
    (server_told count asks old is place (with_write server made)
    (remembers_write count place server made server.doubt server.stopped (known_server count asks old is place given.server.there) (is.servers place)))

fuse_told : (count : ℕ) (asks : ℕ → Option Asks) (old : Machine) (place call : ℕ) (reply : Reply) (new : Machine) → IsToldMachine count asks old → FuseStep old place call reply new → IsToldMachine count asks new
fuse_told count asks old place call reply new is (FuseStep.skipped none replies same) = same_told count asks old new same is
fuse_told count asks old place call reply new is (FuseStep.fused known some replies same) = same_told count asks old new same is

reopen_told : (count : ℕ) (asks : ℕ → Option Asks) (old : Machine) (place : ℕ) (reply : Reply) (new : Machine) → IsToldMachine count asks old → ReopenStep old place reply new → IsToldMachine count asks new
reopen_told count asks old place reply new is (ReopenStep.skipped none replies same) = same_told count asks old new same is
reopen_told count asks old place reply new is (ReopenStep.refused fault runs refused replies same) = same_told count asks old new same is
reopen_told count asks old place reply new is (ReopenStep.reopened adopted server runs down recovers replies same) =
    subst (IsToldMachine count asks) (sym same)
    (server_told count asks old is place server
    (remembers_recovery count place (old.servers place) adopted server (known_server count asks old is place runs.there) recovers (is.servers place)))

restart_told : (count : ℕ) (asks : ℕ → Option Asks) (old : Machine) (place : ℕ) (reply : Reply) (new : Machine) → IsToldMachine count asks old → RestartStep old place reply new → IsToldMachine count asks new
restart_told count asks old place reply new is (RestartStep.skipped none replies same) = same_told count asks old new same is
restart_told count asks old place reply new is (RestartStep.refused fault known refused replies same) =
    let server = old.servers place in
    subst (IsToldMachine count asks) (sym same)
    (server_told count asks old is place (stopped_now server) (remembers_same count place server (stopped_now server) refl refl (is.servers place)))
restart_told count asks old place reply new is (RestartStep.restarted adopted server known recovers replies same) =
    subst (IsToldMachine count asks) (sym same)
    (server_told count asks old is place server
    (remembers_recovery count place (old.servers place) adopted server (known_server count asks old is place known) recovers (is.servers place)))

pub step_told : (count : ℕ) (asks : ℕ → Option Asks) (old : Machine) (event : Event) (reply : Reply) (new : Machine) → IsGoodMachine old → AreTagged old → IsToldMachine count asks old → Step old event reply new → IsToldMachine count asks new
step_told count asks old (events.Read session server key) reply new good tagged is step = read_told count asks old session.index server.index key reply new is step
step_told count asks old (events.Write session server program) reply new good tagged is step = write_told count asks old session.index server.index program reply new good is step
step_told count asks old (events.Again session) reply new good tagged is step = again_told count asks old session.index reply new good tagged is step
step_told count asks old (events.Deliver session) reply new good tagged is step = deliver_told count asks old session.index reply new good is step
step_told count asks old (events.Lose session) reply new good tagged is step = lose_told count asks old session.index reply new is step
step_told count asks old (events.Offer server) reply new good tagged is step = offer_told count asks old server.index reply new is step
step_told count asks old (events.Collect server offer) reply new good tagged is step = collect_told count asks old server.index offer reply new is step
step_told count asks old (events.Take server item) reply new good tagged is step = take_told count asks old server.index item reply new is step
step_told count asks old (events.Fuse server call front) reply new good tagged is step = fuse_told count asks old server.index call reply new is step
step_told count asks old (events.Reopen server) reply new good tagged is step = reopen_told count asks old server.index reply new is step
step_told count asks old (events.Restart server) reply new good tagged is step = restart_told count asks old server.index reply new is step
step_told count asks old (events.File session) reply new good tagged is step = file_told count asks old session.index reply new is step

run_told : (count : ℕ) (asks : ℕ → Option Asks) (old : Machine) (events : List Event) (replies : List Reply) (new : Machine) → IsGoodMachine old → AreTagged old → IsToldMachine count asks old → Run old events replies new → IsToldMachine count asks new
run_told count asks old [] [] new good tagged is run = same_told count asks old new run is
run_told count asks old [] (reply ∷ replies) new good tagged is run = absurd run
run_told count asks old (event ∷ events) [] new good tagged is run = absurd run
run_told count asks old (event ∷ events) (reply ∷ replies) new good tagged is (mid, step, rest) =
    run_told count asks mid events replies new (step_good old event reply mid good tagged step) (step_tagged old event reply mid good tagged step) (step_told count asks old event reply mid good tagged is step) rest

-- ---- as a run begins

first_asks : (asks : Option Asks) (session : SessionSets) → option_map new_session asks ≡ Some session → asks ≡ Some session.asks
first_asks None session is = let both : None ≡ Some session = is in absurd (cc)
first_asks (Some asks) session is =
    let one : new_session asks ≡ session = cc in ap (λ (s : SessionSets). Some s.asks) one

first_flight : (asks : Option Asks) (session : SessionSets) (answered : Answered) → option_map new_session asks ≡ Some session → session.flight ≡ Some answered → ⊥
first_flight None session answered is flies = let both : None ≡ Some session = is in absurd (cc)
first_flight (Some asks) session answered is flies =
    let one : new_session asks ≡ session = cc in
    let none : None ≡ Some answered = ap (λ (s : SessionSets). s.flight) one ∙ flies in absurd (cc)

pub first_told : (count limit capacity : ℕ) (asks : ℕ → Option Asks) → IsToldMachine count asks (first_machine count limit capacity asks)
first_told count limit capacity asks = record {
  count_is = refl;
  servers = λ place. record {
    had = λ database front. (0, omega arith, front_of_none database front.0 front.1);
    beyond = λ outside. refl;
  };
  asks_are = λ who session there. first_asks (asks who) session there;
  served = All-nil (IsToldTrue count asks);
  in_order = λ i j d less within. absurd (omega (arith, within));
  flights = λ who answered flies. absurd (first_flight (asks who) flies.0 answered flies.1 flies.2);
  new = λ who answered flies. absurd (first_flight (asks who) flies.0 answered flies.1 flies.2);
  apart = λ who other one two differs here there. absurd (first_flight (asks who) here.0 one here.1 here.2);
}
  where
    front_of_none : (database rest : List Write) → [] ≡ database ++ rest → [] ≡ database
    front_of_none [] rest same = refl
    front_of_none (first ∷ database) rest same = absurd (omega (arith, ap length same))

pub run_is_told : (count limit capacity : ℕ) (asks : ℕ → Option Asks) (events : List Event) (replies : List Reply) (last : Machine)
    → Run (first_machine count limit capacity asks) events replies last → IsToldMachine count asks last
run_is_told count limit capacity asks events replies last run =
    run_told count asks (first_machine count limit capacity asks) events replies last (first_good count limit capacity asks) (first_tagged count limit capacity asks) (first_told count limit capacity asks) run
