-- What is good stays so over each event.
use Rattle.std.proofs.Common.{◌≡◌, ◌≢◌, inl, inr, ℕ, ◌+◌, ◌<◌, ◌≤◌, List, [], ◌∷◌, ◌++◌, Result, Option, None, Some, IfSome, Contains, All, length, ap, sym, ◌∙◌, refl, subst, arith}
use Rattle.std.specs.List.{slice_get}
use Rattle.std.proofs.lemmas.List.{append-nil, get_or_default}
use Rattle.std.proofs.lemmas.List.Elements.{All-append, All-contains, All-push, All-weaker, Contains-push}
use Rattle.std.proofs.lemmas.Option.{get_or_from_slice_get, slice_get_within}
use Rattle.bayou_base.specs.declared.entry.Entry.{Entry}
use Rattle.bayou_base.specs.declared.entry.What.{What}
use Rattle.bayou_base.specs.declared.entry.What.TheVariants as whats
use Rattle.bayou_lang.specs.declared.program.Program.{Program}
use Rattle.bayou_lang.specs.declared.write.Write.{Write}
use Rattle.bayou_lang.specs.Laws.Fitting.{next_fits}
use Rattle.bayou_judge.specs.History.{IsFrontOf}
use Rattle.bayou_server.specs.declared.answer.Written.{Written}
use Rattle.bayou_server.specs.declared.fault.WriteFault.{WriteFault}
use Rattle.bayou_world.specs.declared.event.Event.{Event}
use Rattle.bayou_world.specs.declared.event.Event.TheVariants as events
use Rattle.bayou_world.specs.declared.reply.Reply.{Reply}
use Rattle.bayou_world.specs.Inner.Good.{AreGoodServers, IsCovered, IsGoodMachine, IsGoodFlight, IsGoodSession, IsHome, WasSo, IsTrueAnswer, MayBeDoubted}
use Rattle.bayou_world.specs.Machine.{Answered, Asking, IsWithin, Machine, Made, Offered, ServerSets, SessionSets, changed, names, with_session, writes}
use Rattle.bayou_world.specs.Runs.{IsRead}
use Rattle.bayou_world.specs.Steps.{AgainStep, AskStep, CollectStep, CoversWrite, DeliverStep, FileStep, FuseStep, IsEntry, IsGiven, IsInFlight, IsNext, LoseStep, Makes, MayBegin, OfferStep, ReadStep, ReopenStep, RestartStep, Step, TakeStep, WriteStep, first_asking, landed, refusal, served_by, stopped_now, told, with_answer, with_doubt, with_write}
use Rattle.bayou_world.specs.Tags.{AreTagged}
use Rattle.bayou_world.proofs.Delivering.{heard_read, heard_write, more_of_other}
use Rattle.bayou_world.proofs.Given.{given_fits}
use Rattle.bayou_world.proofs.Growing.{HaveGrown, add_doubt, add_write, answer_grows, grown_by_doubt, grown_by_recovery, grown_by_stop, grown_by_write, home_grows, offers_grow, recover, stop}
use Rattle.bayou_world.proofs.Homes.{fitting_at, home_of_held}
use Rattle.bayou_world.proofs.Lists.{Contains-map, at_changed, changed-other, changed-same, same_number}

-- ---- small things

some_is : {X : Type 0} (a b : X) → Some a ≡ Some b → a ≡ b
some_is a b same = cc

none_is : {X : Type 0} (a : X) → None ≡ Some a → ⊥
none_is a same = cc

-- what is true of one session, and of each other as it was
pub sessions_changed : (P : ℕ → SessionSets → Type 0) (sessions : ℕ → Option SessionSets) (who : ℕ) (session : SessionSets) → P who session
    → ((other : ℕ) (found : SessionSets) → sessions other ≡ Some found → P other found)
    → (other : ℕ) (found : SessionSets) → changed sessions who (Some session) other ≡ Some found → P other found
sessions_changed P sessions who session here others =
    at_changed (λ other (o : Option SessionSets). (found : SessionSets) → o ≡ Some found → P other found) sessions who (Some session)
    (λ found is. subst (P who) (some_is session found is) here) others

whole_front : (list : List Write) → IsFrontOf list list
whole_front list = ([], sym (append-nil list))

no_growth : (servers : ℕ → ServerSets) → HaveGrown servers servers
no_growth servers place = ([], sym (append-nil (servers place).held))

pub all_of_contained : {X : Type 0} (P : X → Type 0) (xs : List X) → ((x : X) → Contains xs x → P x) → All P xs
all_of_contained P xs each k d within = each _ (k, within, get_or_default xs k _ d within)

item_at : (items : List Made) (item : ℕ) (made : Made) → slice_get items item ≡ Some made → Contains items made
item_at items item made got = (item, slice_get_within items item made got, get_or_from_slice_get items item made made got)

-- ---- an operation begins

-- the answer goes in flight, over servers that may hold more
begin_good : (old : Machine) → IsGoodMachine old → (servers : ℕ → ServerSets) → HaveGrown old.servers servers → AreGoodServers old.count old.limit servers
    → (who place : ℕ) (session : SessionSets) (asked : Option Asking) (what : What) (answered : Answered) → MayBegin old who place session → IsEntry who place session what answered.entry
    → WasSo servers what place answered → IsCovered session what answered → ((made : Made) → answered.made ≡ Some made → made.tag.session.index ≡ who) → (IsRead what → asked ≡ None)
    → IsGoodMachine (with_answer (record old { servers = servers }) who session asked answered)
begin_good old good servers grown are_good who place session asked what answered may entry is_true covered own reading =
    let new = record session { begun = session.begun + 1; asked = asked; flight = Some answered } in
    let mine = good.sessions who session may.there in
    let true_answer : IsTrueAnswer servers answered =
    subst (λ w. WasSo servers w answered.entry.server.index answered) (sym entry.what_is) (subst (λ n. WasSo servers what n answered) (sym entry.server_is) is_true) in
    let still : IsCovered new answered.entry.what answered = subst (λ w. IsCovered new w answered) (sym entry.what_is) (covers what covered) in
    record {
      servers = are_good;
      offers = offers_grow old.servers servers grown old.offers good.offers;
      items = All-weaker (IsHome old.servers) (IsHome servers) (λ made home. home_grows old.servers servers grown made home) old.items good.items;
      served = All-weaker (IsTrueAnswer old.servers) (IsTrueAnswer servers) (λ a is. answer_grows old.servers servers grown a is) old.served good.served;
      sessions = sessions_changed (IsGoodSession old.served) old.sessions who new
          (record {
            begun = All-weaker (λ (o : Answered). o.entry.session.index ≡ who → o.entry.place ≤ session.begun) (λ (o : Answered). o.entry.session.index ≡ who → o.entry.place ≤ session.begun + 1)
                (λ o early is. omega (arith, early is)) old.served mine.begun;
            reads = mine.reads;
            writes = mine.writes;
            ryw = mine.ryw;
            mr = mine.mr;
            wfr = mine.wfr;
            mw = mine.mw;
            flight = record {
              session_is = entry.session_is;
              last = entry.place_is;
              behind = All-weaker (λ (o : Answered). o.entry.session.index ≡ who → o.entry.place ≤ session.begun) (λ (o : Answered). o.entry.session.index ≡ who → o.entry.place < session.begun + 1)
                  (λ o early is. omega (arith, early is)) old.served mine.begun;
              covered = still;
              own = own;
              reading = λ read. reading (subst IsRead entry.what_is read);
            };
          })
          good.sessions;
      flights = λ other found flying there in_flight.
          sessions_changed (λ _ (s : SessionSets). (a : Answered) → s.flight ≡ Some a → IsTrueAnswer servers a) old.sessions who new
          (λ a is. subst (IsTrueAnswer servers) (some_is answered a is) true_answer)
          (λ o s is a flies. answer_grows old.servers servers grown a (good.flights o s a is flies)) other found there flying in_flight;
    }
  where
    covers : (what : What) → IsCovered session what answered → IsCovered (record session { begun = session.begun + 1; asked = asked; flight = Some answered }) what answered
    covers (whats.Read key vector) c = record { ryw = c.ryw; mr = c.mr }
    covers (whats.Write wid stamp deps) c = λ made is. let d = c made is in record { wfr = d.wfr; mw = d.mw }
    covers whats.Refused c = tt

-- what the server makes may be held next
made_may : (old : Machine) → IsGoodMachine old → (who : ℕ) (session : SessionSets) (asking : Asking) (made : Made) → asking.server < old.count
    → Makes old.limit who session (old.servers asking.server) asking made → MayBeDoubted old.count old.limit old.servers asking.server (old.servers asking.server).held made
made_may old good who session asking made known makes = record {
  room = makes.room;
  fits = next_fits old.count (writes (old.servers asking.server).held) asking.server asking.program made.write (fitting_at old.count old.limit old.servers good.servers asking.server) known makes.next;
  deps = λ own. makes.next.deps;
  past = λ own. makes.past;
  home = λ foreign. absurd (foreign makes.next.origin);
}

-- and what was added is at home there
added_home : (servers : ℕ → ServerSets) (place : ℕ) (made : Made) → made.write.wid.origin.index ≡ place → IsHome (changed servers place (with_write (servers place) made)) made
added_home servers place made own =
    let after = with_write (servers place) made in
    let new = changed servers place after in
    let has : Contains ((servers place).held ++ made ∷ []) made = Contains-push (servers place).held made in
    let here : (new place).held ≡ (servers place).held ++ made ∷ [] = ap (λ (s : ServerSets). s.held) (changed-same servers place after) in
    subst (λ n. Contains (new n).held made) (sym own) (subst (λ list. Contains list made) (sym here) has)

read_good : (old : Machine) (who place : ℕ) (key : List ℕ) (reply : Reply) (new : Machine) → IsGoodMachine old → ReadStep old who place key reply new → IsGoodMachine new
read_good old who place key reply new good (ReadStep.skipped cannot is same) = subst IsGoodMachine (sym same) good
read_good old who place key reply new good (ReadStep.behind session entry may not_may is entry_is same) =
    subst IsGoodMachine (sym same) (begin_good old good old.servers (no_growth old.servers) good.servers who place session None whats.Refused (refusal entry) may entry_is refl tt (λ made none. absurd (none_is made none)) (λ read. refl))
read_good old who place key reply new good (ReadStep.served session entry seen may covered value vector is entry_is same) =
    let database = writes (old.servers place).held in
    subst IsGoodMachine (sym same)
    (begin_good old good old.servers (no_growth old.servers) good.servers who place session None (whats.Read key seen.vector) (record { entry = entry; database = database; made = None }) may entry_is
    (refl, whole_front database, vector) (record { ryw = covered.ryw; mr = covered.mr }) (λ made none. absurd (none_is made none)) (λ read. refl))

-- a Write is asked for, for the first time or again
ask_good : (old : Machine) → IsGoodMachine old → (who : ℕ) (session : SessionSets) (asking : Asking) (answer : Result Written WriteFault) (new : Machine) → MayBegin old who asking.server session
    → AskStep old who session asking answer new → IsGoodMachine new
ask_good old good who session asking answer new may (AskStep.refused entry fault refused is entry_is same) =
    subst IsGoodMachine (sym same) (begin_good old good old.servers (no_growth old.servers) good.servers who asking.server session (Some asking) whats.Refused (refusal entry) may entry_is refl tt
    (λ made none. absurd (none_is made none)) (λ read. absurd read))
ask_good old good who session asking answer new may (AskStep.doubted entry made makes is entry_is same) =
    let place = asking.server in
    let may_be = made_may old good who session asking made may.server.there makes in
    subst IsGoodMachine (sym same)
    (begin_good old good (changed old.servers place (with_doubt (old.servers place) made)) (grown_by_doubt old.servers place made)
    (add_doubt old.count old.limit old.servers good.servers place made may_be) who place session (Some asking) whats.Refused (refusal entry) may entry_is refl tt
    (λ other none. absurd (none_is other none)) (λ read. absurd read))
ask_good old good who session asking answer new may (AskStep.accepted entry made accepted makes told_is is entry_is same) =
    let place = asking.server in
    let may_be = made_may old good who session asking made may.server.there makes in
    let covered = makes.ready.covered in
    subst IsGoodMachine (sym same)
    (begin_good old good (changed old.servers place (with_write (old.servers place) made)) (grown_by_write old.servers place made)
    (add_write old.count old.limit old.servers good.servers place made makes.ready.up may_be) who place session (Some asking) (whats.Write accepted.wid accepted.stamp accepted.deps)
    (record { entry = entry; database = made.past; made = Some made }) may entry_is
    (made, refl, added_home old.servers place made makes.next.origin, sym told_is.wid)
    (λ other is_it. subst (λ (m : Made). CoversWrite session m.past) (some_is made other is_it)
    (subst (CoversWrite session) (sym makes.past) (record { wfr = covered.wfr; mw = covered.mw })))
    (λ other is_it. subst (λ (m : Made). m.tag.session.index ≡ who) (some_is made other is_it) makes.tag.session_is) (λ read. absurd read))

write_good : (old : Machine) (who place : ℕ) (program : Program) (reply : Reply) (new : Machine) → IsGoodMachine old → WriteStep old who place program reply new → IsGoodMachine new
write_good old who place program reply new good (WriteStep.skipped cannot is same) = subst IsGoodMachine (sym same) good
write_good old who place program reply new good (WriteStep.asked session answer may asks is) = ask_good old good who session (first_asking place session program) answer new may asks

-- what is held under the tag is at home, and was made behind what the session needs
again_good : (old : Machine) (who : ℕ) (reply : Reply) (new : Machine) → IsGoodMachine old → AreTagged old → AgainStep old who reply new → IsGoodMachine new
again_good old who reply new good tagged (AgainStep.skipped cannot is same) = subst IsGoodMachine (sym same) good
again_good old who reply new good tagged (AgainStep.known session asking entry made accepted may holds told_is is entry_is same) =
    let home = home_of_held old.count old.limit old.servers good.servers asking.server made holds.held in
    let made_for = tagged.again who asking (record { session = session; there = may.begin.there; asked = may.asked }) made (inl (asking.server, holds.held)) holds.under in
    subst IsGoodMachine (sym same)
    (begin_good old good old.servers (no_growth old.servers) good.servers who asking.server session (Some asking) (whats.Write accepted.wid accepted.stamp accepted.deps)
    (record { entry = entry; database = made.past; made = Some made }) may.begin entry_is (made, refl, home, sym told_is.wid)
    (λ other is_it. subst (λ (m : Made). CoversWrite session m.past) (some_is made other is_it) made_for.covered)
    (λ other is_it. subst (λ (m : Made). m.tag.session.index ≡ who) (some_is made other is_it) holds.under.session_is) (λ read. absurd read))
again_good old who reply new good tagged (AgainStep.asked session asking answer may none asks is) = ask_good old good who session asking answer new may.begin asks

-- ---- the answer in flight

-- of the other sessions what was good stays so
others_hear : (old : Machine) → IsGoodMachine old → (who : ℕ) (session : SessionSets) (answered : Answered) → IsInFlight old who session answered → (other : ℕ) (found : SessionSets)
    → other ≢ who → old.sessions other ≡ Some found → IsGoodSession (old.served ++ answered ∷ []) other found
others_hear old good who session answered flies other found differs there =
    let flight = subst (λ f. IfSome f (IsGoodFlight old.served who session)) flies.flight (good.sessions who session flies.there).flight in
    more_of_other old.served answered other found (λ is. differs (sym is ∙ flight.session_is)) (good.sessions other found there)

hear_good : (old : Machine) → IsGoodMachine old → (who : ℕ) (session new : SessionSets) (answered : Answered) → IsInFlight old who session answered
    → IsGoodSession (old.served ++ answered ∷ []) who new → new.flight ≡ None
    → IsGoodMachine (record (with_session old who new) { served = old.served ++ answered ∷ [] })
hear_good old good who session new answered flies mine none = record {
  servers = good.servers;
  offers = good.offers;
  items = good.items;
  served = All-push (IsTrueAnswer old.servers) old.served answered good.served (good.flights who session answered flies.there flies.flight);
  sessions = λ other found there. elim (same_number other who) as (λ _. IsGoodSession (old.served ++ answered ∷ []) other found) [
    | inl same ↦
        let here : Some new ≡ Some found = sym (changed-same old.sessions who (Some new)) ∙ ap (changed old.sessions who (Some new)) (sym same) ∙ there in
        subst (λ n. IsGoodSession (old.served ++ answered ∷ []) n found) (sym same) (subst (IsGoodSession (old.served ++ answered ∷ []) who) (some_is new found here) mine)
    | inr differs ↦ others_hear old good who session answered flies other found differs
        (sym (changed-other old.sessions who (Some new) other differs) ∙ there)
  ];
  flights = λ other found flying there in_flight.
      sessions_changed (λ _ (s : SessionSets). (a : Answered) → s.flight ≡ Some a → IsTrueAnswer old.servers a) old.sessions who new
      (λ a is. let both : None ≡ Some a = sym none ∙ is in absurd (cc))
      (λ o s is a flies_too. good.flights o s a is flies_too) other found there flying in_flight;
}

-- nothing is served: the session's flight ends
land_good : (old : Machine) → IsGoodMachine old → (who : ℕ) (session new : SessionSets) → old.sessions who ≡ Some session
    → new.asks ≡ session.asks → new.begun ≡ session.begun → new.reads ≡ session.reads → new.writes ≡ session.writes → new.flight ≡ None
    → IsGoodMachine (with_session old who new)
land_good old good who session new there asks begun reads same_writes none =
    let mine = good.sessions who session there in
    record {
      servers = good.servers;
      offers = good.offers;
      items = good.items;
      served = good.served;
      sessions = sessions_changed (IsGoodSession old.served) old.sessions who new
          (record {
            begun = subst (λ n. All (λ (o : Answered). o.entry.session.index ≡ who → o.entry.place ≤ n) old.served) (sym begun) mine.begun;
            reads = λ place server database is. subst (IsWithin (names database)) (sym reads) (mine.reads place server database is);
            writes = λ place made is. subst (λ list. Contains list made.write.wid) (sym same_writes) (mine.writes place made is);
            ryw = λ asked. mine.ryw (ap (λ (a : _). a.ryw) (sym asks) ∙ asked);
            mr = λ asked. mine.mr (ap (λ (a : _). a.mr) (sym asks) ∙ asked);
            wfr = λ asked. mine.wfr (ap (λ (a : _). a.wfr) (sym asks) ∙ asked);
            mw = λ asked. mine.mw (ap (λ (a : _). a.mw) (sym asks) ∙ asked);
            flight = subst (λ f. IfSome f (IsGoodFlight old.served who new)) (sym none) tt;
          })
          good.sessions;
      flights = λ other found flying is in_flight.
          sessions_changed (λ _ (s : SessionSets). (a : Answered) → s.flight ≡ Some a → IsTrueAnswer old.servers a) old.sessions who new
          (λ a flies. let both : None ≡ Some a = sym none ∙ flies in absurd (cc))
          (λ o s found_is a flies. good.flights o s a found_is flies) other found is flying in_flight;
    }

deliver_as : (old : Machine) → IsGoodMachine old → (who : ℕ) (session : SessionSets) (answered : Answered) → IsInFlight old who session answered → (what : What) → answered.entry.what ≡ what
    → IsGoodMachine (record (with_session old who (record (told what answered session) { flight = None; waiting = session.waiting ++ answered.entry ∷ [] })) { served = old.served ++ served_by what answered })
deliver_as old good who session answered flies (whats.Read key vector) is =
    let flight = subst (λ f. IfSome f (IsGoodFlight old.served who session)) flies.flight (good.sessions who session flies.there).flight in
    let is_true = subst (λ w. WasSo old.servers w answered.entry.server.index answered) is (good.flights who session answered flies.there flies.flight) in
    let covered = subst (λ w. IsCovered session w answered) is flight.covered in
    let new = record (told (whats.Read key vector) answered session) { flight = None; waiting = session.waiting ++ answered.entry ∷ [] } in
    hear_good old good who session new answered flies
    (heard_read old.served who session new answered (good.sessions who session flies.there) flight is_true.0 covered refl refl refl refl refl) refl
deliver_as old good who session answered flies (whats.Write wid stamp deps) is =
    let flight = subst (λ f. IfSome f (IsGoodFlight old.served who session)) flies.flight (good.sessions who session flies.there).flight in
    let is_true = subst (λ w. WasSo old.servers w answered.entry.server.index answered) is (good.flights who session answered flies.there flies.flight) in
    let covered = subst (λ w. IsCovered session w answered) is flight.covered in
    let new = record (told (whats.Write wid stamp deps) answered session) { flight = None; waiting = session.waiting ++ answered.entry ∷ [] } in
    hear_good old good who session new answered flies
    (heard_write old.served who session new answered wid (good.sessions who session flies.there) flight (λ read. subst IsRead is read)
    (λ made accepted.
    let one : is_true.0 ≡ made = some_is is_true.0 made (sym is_true.1 ∙ accepted) in
    (ap (λ (m : Made). m.write.wid) (sym one) ∙ is_true.3, covered made accepted)) refl refl refl refl refl) refl
deliver_as old good who session answered flies whats.Refused is =
    let new = record (told whats.Refused answered session) { flight = None; waiting = session.waiting ++ answered.entry ∷ [] } in
    subst (λ list. IsGoodMachine (record (with_session old who new) { served = list })) (sym (append-nil old.served))
    (land_good old good who session new flies.there refl refl refl refl refl)

deliver_good : (old : Machine) (who : ℕ) (reply : Reply) (new : Machine) → IsGoodMachine old → DeliverStep old who reply new → IsGoodMachine new
deliver_good old who reply new good (DeliverStep.skipped none is same) = subst IsGoodMachine (sym same) good
deliver_good old who reply new good (DeliverStep.delivered session answered flies is same) =
    subst IsGoodMachine (sym same) (deliver_as old good who session answered flies answered.entry.what refl)

lose_good : (old : Machine) (who : ℕ) (reply : Reply) (new : Machine) → IsGoodMachine old → LoseStep old who reply new → IsGoodMachine new
lose_good old who reply new good (LoseStep.skipped none is same) = subst IsGoodMachine (sym same) good
lose_good old who reply new good (LoseStep.dropped session answered flies is same) =
    subst IsGoodMachine (sym same) (land_good old good who session (landed session) flies.there refl refl refl refl refl)

-- ---- anti-entropy

offer_good : (old : Machine) (place : ℕ) (reply : Reply) (new : Machine) → IsGoodMachine old → OfferStep old place reply new → IsGoodMachine new
offer_good old place reply new good (OfferStep.skipped none is same) = subst IsGoodMachine (sym same) good
offer_good old place reply new good (OfferStep.kept known few is same) =
    subst IsGoodMachine (sym same) (record {
      servers = good.servers;
      offers = All-push (λ (offer : Offered). IsFrontOf (writes (old.servers offer.server).held) offer.database) old.offers
          (record { server = place; database = writes (old.servers place).held }) good.offers (whole_front (writes (old.servers place).held));
      items = good.items;
      served = good.served;
      sessions = good.sessions;
      flights = good.flights;
    })

collect_good : (old : Machine) (place offer : ℕ) (reply : Reply) (new : Machine) → IsGoodMachine old → CollectStep old place offer reply new → IsGoodMachine new
collect_good old place offer reply new good (CollectStep.skipped none is same) = subst IsGoodMachine (sym same) good
collect_good old place offer reply new good (CollectStep.no_memory maker database one known there has lacks is same) = subst IsGoodMachine (sym same) good
collect_good old place offer reply new good (CollectStep.flown offered lacking may is same) =
    subst IsGoodMachine (sym same) (record {
      servers = good.servers;
      offers = good.offers;
      items = All-append (IsHome old.servers) old.items lacking good.items
          (all_of_contained (IsHome old.servers) lacking (λ made has. home_of_held old.count old.limit old.servers good.servers place made ((may.those.those made).0 has).0));
      served = good.served;
      sessions = good.sessions;
      flights = good.flights;
    })

-- an item that is the server's next may be held next
pub given_may : (old : Machine) → IsGoodMachine old → (place item : ℕ) (made : Made) → IsGiven old place item made → IsNext (old.servers place) made
    → length (old.servers place).held < old.limit → MayBeDoubted old.count old.limit old.servers place (old.servers place).held made
given_may old good place item made given next room =
    let home = All-contains (IsHome old.servers) old.items made good.items (item_at old.items item made given.there) in
    let no_own : made.write.wid.origin.index ≢ place = λ own.
    next.fresh.missing (Contains-map (λ (w : Write). w.wid) (writes (old.servers place).held) made.write
    (Contains-map (λ (m : Made). m.write) (old.servers place).held made (subst (λ n. Contains (old.servers n).held made) own home))) in
    record {
      room = room;
      fits = given_fits old.count old.limit old.servers good.servers place made home next.fresh.missing next.past;
      deps = λ own. absurd (no_own own);
      past = λ own. absurd (no_own own);
      home = λ foreign. home;
    }

-- a server holds more, or is down
server_good : (old : Machine) → IsGoodMachine old → (servers : ℕ → ServerSets) → HaveGrown old.servers servers → AreGoodServers old.count old.limit servers → IsGoodMachine (record old { servers = servers })
server_good old good servers grown are_good = record {
  servers = are_good;
  offers = offers_grow old.servers servers grown old.offers good.offers;
  items = All-weaker (IsHome old.servers) (IsHome servers) (λ made home. home_grows old.servers servers grown made home) old.items good.items;
  served = All-weaker (IsTrueAnswer old.servers) (IsTrueAnswer servers) (λ a is. answer_grows old.servers servers grown a is) old.served good.served;
  sessions = good.sessions;
  flights = λ who session answered there flies. answer_grows old.servers servers grown answered (good.flights who session answered there flies);
}

take_good : (old : Machine) (place item : ℕ) (reply : Reply) (new : Machine) → IsGoodMachine old → TakeStep old place item reply new → IsGoodMachine new
take_good old place item reply new good (TakeStep.skipped none is same) = subst IsGoodMachine (sym same) good
take_good old place item reply new good (TakeStep.had made given holds is same) = subst IsGoodMachine (sym same) good
take_good old place item reply new good (TakeStep.refused made fault given refused is same) = subst IsGoodMachine (sym same) good
take_good old place item reply new good (TakeStep.doubted made given next room is same) =
    subst IsGoodMachine (sym same) (server_good old good (changed old.servers place (with_doubt (old.servers place) made)) (grown_by_doubt old.servers place made)
    (add_doubt old.count old.limit old.servers good.servers place made (given_may old good place item made given next room)))
take_good old place item reply new good (TakeStep.taken made given next room is same) =
    subst IsGoodMachine (sym same) (server_good old good (changed old.servers place (with_write (old.servers place) made)) (grown_by_write old.servers place made)
    (add_write old.count old.limit old.servers good.servers place made next.fresh.up (given_may old good place item made given next room)))

-- ---- failures

fuse_good : (old : Machine) (place call : ℕ) (reply : Reply) (new : Machine) → IsGoodMachine old → FuseStep old place call reply new → IsGoodMachine new
fuse_good old place call reply new good (FuseStep.skipped none is same) = subst IsGoodMachine (sym same) good
fuse_good old place call reply new good (FuseStep.fused known some is same) = subst IsGoodMachine (sym same) good

reopen_good : (old : Machine) (place : ℕ) (reply : Reply) (new : Machine) → IsGoodMachine old → ReopenStep old place reply new → IsGoodMachine new
reopen_good old place reply new good (ReopenStep.skipped none is same) = subst IsGoodMachine (sym same) good
reopen_good old place reply new good (ReopenStep.refused fault runs refused is same) = subst IsGoodMachine (sym same) good
reopen_good old place reply new good (ReopenStep.reopened adopted server runs down recovers is same) =
    subst IsGoodMachine (sym same) (server_good old good (changed old.servers place server) (grown_by_recovery old.servers place adopted server recovers)
    (recover old.count old.limit old.servers good.servers place adopted server recovers))

restart_good : (old : Machine) (place : ℕ) (reply : Reply) (new : Machine) → IsGoodMachine old → RestartStep old place reply new → IsGoodMachine new
restart_good old place reply new good (RestartStep.skipped none is same) = subst IsGoodMachine (sym same) good
restart_good old place reply new good (RestartStep.refused fault known refused is same) =
    subst IsGoodMachine (sym same) (server_good old good (changed old.servers place (stopped_now (old.servers place))) (grown_by_stop old.servers place)
    (stop old.count old.limit old.servers good.servers place))
restart_good old place reply new good (RestartStep.restarted adopted server known recovers is same) =
    subst IsGoodMachine (sym same) (server_good old good (changed old.servers place server) (grown_by_recovery old.servers place adopted server recovers)
    (recover old.count old.limit old.servers good.servers place adopted server recovers))

-- ---- the book

flight_waits : (served : List Answered) (who : ℕ) (session : SessionSets) (later : List Entry) (flight : Option Answered) → IfSome flight (IsGoodFlight served who session)
    → IfSome flight (IsGoodFlight served who (record session { waiting = later }))
flight_waits served who session later None good = tt
flight_waits served who session later (Some answered) good = record { session_is = good.session_is; last = good.last; behind = good.behind; covered = covers answered.entry.what good.covered; own = good.own; reading = good.reading }
  where
    covers : (what : What) → IsCovered session what answered → IsCovered (record session { waiting = later }) what answered
    covers (whats.Read key vector) c = record { ryw = c.ryw; mr = c.mr }
    covers (whats.Write wid stamp deps) c = λ made is. let d = c made is in record { wfr = d.wfr; mw = d.mw }
    covers whats.Refused c = tt

file_good : (old : Machine) (who : ℕ) (reply : Reply) (new : Machine) → IsGoodMachine old → FileStep old who reply new → IsGoodMachine new
file_good old who reply new good (FileStep.skipped none is same) = subst IsGoodMachine (sym same) good
file_good old who reply new good (FileStep.filed session entry later may is same) =
    let mine = good.sessions who session may.there in
    let waits = record session { waiting = later } in
    subst IsGoodMachine (sym same) (record {
      servers = good.servers;
      offers = good.offers;
      items = good.items;
      served = good.served;
      sessions = sessions_changed (IsGoodSession old.served) old.sessions who waits
          (record {
            begun = mine.begun;
            reads = mine.reads;
            writes = mine.writes;
            ryw = mine.ryw;
            mr = mine.mr;
            wfr = mine.wfr;
            mw = mine.mw;
            flight = flight_waits old.served who session later session.flight mine.flight;
          })
          good.sessions;
      flights = λ other found flying there in_flight.
          sessions_changed (λ _ (s : SessionSets). (a : Answered) → s.flight ≡ Some a → IsTrueAnswer old.servers a) old.sessions who waits
          (λ a flies. good.flights who session a may.there flies)
          (λ o s is a flies. good.flights o s a is flies) other found there flying in_flight;
    })

-- ---- an event

pub step_good : (old : Machine) (event : Event) (reply : Reply) (new : Machine) → IsGoodMachine old → AreTagged old → Step old event reply new → IsGoodMachine new
step_good old (events.Read session server key) reply new good tagged step = read_good old session.index server.index key reply new good step
step_good old (events.Write session server program) reply new good tagged step = write_good old session.index server.index program reply new good step
step_good old (events.Again session) reply new good tagged step = again_good old session.index reply new good tagged step
step_good old (events.Deliver session) reply new good tagged step = deliver_good old session.index reply new good step
step_good old (events.Lose session) reply new good tagged step = lose_good old session.index reply new good step
step_good old (events.Offer server) reply new good tagged step = offer_good old server.index reply new good step
step_good old (events.Collect server offer) reply new good tagged step = collect_good old server.index offer reply new good step
step_good old (events.Take server item) reply new good tagged step = take_good old server.index item reply new good step
step_good old (events.Fuse server call front) reply new good tagged step = fuse_good old server.index call reply new good step
step_good old (events.Reopen server) reply new good tagged step = reopen_good old server.index reply new good step
step_good old (events.Restart server) reply new good tagged step = restart_good old server.index reply new good step
step_good old (events.File session) reply new good tagged step = file_good old session.index reply new good step
