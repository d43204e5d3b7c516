-- Over each event what is filed, and what waits to be, tells of what was served, or of a refusal, and each session's entries stand in its order.
use Rattle.std.proofs.Common.{◌≡◌, ◌≢◌, inl, inr, ◌⊎◌, ℕ, zero, suc, ◌+◌, List, [], ◌∷◌, ◌++◌, Result, Option, None, Some, IfSome, Contains, All, AllPairs, ap, sym, ◌∙◌, refl, subst, arith}
use Rattle.std.specs.Option.{option_map}
use Rattle.std.proofs.lemmas.List.Elements.{All-append, All-cons, All-contains, All-head, All-nil, All-push, All-tail, All-weaker, Contains-append_left, Contains-push}
use Rattle.std.proofs.lemmas.List.Quantifiers.{all_pairs_push}
use Rattle.bayou_base.specs.declared.asks.Asks.{Asks}
use Rattle.bayou_base.specs.declared.entry.Entry.{Entry}
use Rattle.bayou_base.specs.declared.entry.What.{What}
use Rattle.bayou_base.specs.declared.entry.What.TheVariants as whats
use Rattle.bayou_lang.specs.declared.program.Program.{Program}
use Rattle.bayou_server.specs.declared.answer.Written.{Written}
use Rattle.bayou_server.specs.declared.fault.WriteFault.{WriteFault}
use Rattle.bayou_world.specs.declared.event.Event.{Event}
use Rattle.bayou_world.specs.declared.event.Event.TheVariants as events
use Rattle.bayou_world.specs.declared.reply.Reply.{Reply}
use Rattle.bayou_world.specs.Inner.Entered.{AreEntered, IsBelow, IsEntered, IsFiledOrWaits, IsOfServed, IsQueued, Rises, Waits}
use Rattle.bayou_world.specs.Inner.Good.{IsGoodFlight, IsGoodMachine}
use Rattle.bayou_world.specs.Inner.Told.{IsToldMachine}
use Rattle.bayou_world.specs.Machine.{Answered, Asking, Machine, SessionSets, changed}
use Rattle.bayou_world.specs.Runs.{Run, first_machine, new_session}
use Rattle.bayou_world.specs.Steps.{AgainStep, AskStep, CollectStep, DeliverStep, FileStep, FuseStep, IsInFlight, LoseStep, OfferStep, ReadStep, ReopenStep, RestartStep, Step, TakeStep, WriteStep, first_asking, heard, landed, served_by, told}
use Rattle.bayou_world.specs.Tags.{AreTagged}
use Rattle.bayou_world.proofs.Lists.{changed-other, changed-same, same_number}
use Rattle.bayou_world.proofs.Starting.{first_good}
use Rattle.bayou_world.proofs.Stepping.{all_of_contained, step_good}
use Rattle.bayou_world.proofs.Tagging.{first_tagged, step_tagged}
use Rattle.bayou_world.proofs.Telling.{first_told, step_told}

AllPairs-tail : {X : Type 0} (R : X → X → Type 0) (first : X) (xs : List X) → AllPairs R (first ∷ xs) → AllPairs R xs
AllPairs-tail R first xs pairs i j d less within = pairs (suc i) (suc j) d (omega (arith, less)) (omega (arith, within))

AllPairs-head : {X : Type 0} (R : X → X → Type 0) (first : X) (xs : List X) → AllPairs R (first ∷ xs) → All (R first) xs
AllPairs-head R first xs pairs k d within = pairs 0 (suc k) d (omega arith) (omega (arith, within))

some_of : {X : Type 0} (x y : X) → Some x ≡ Some y → x ≡ y
some_of x y same = let one : x ≡ y = cc in one

no_some : {X : Type 0} {Y : Type 0} (x : X) → None ≡ Some x → Y
no_some x none = absurd (cc)

-- the same but for one session, of which something else is said
pub others_changed : (P : ℕ → SessionSets → Type 0) (sessions : ℕ → Option SessionSets) (who : ℕ) (session : SessionSets) → P who session
    → ((other : ℕ) (found : SessionSets) → other ≢ who → sessions other ≡ Some found → P other found)
    → (other : ℕ) (found : SessionSets) → changed sessions who (Some session) other ≡ Some found → P other found
others_changed P sessions who session here others other found is = elim (same_number other who) as (λ _. P other found) [
  | inl same ↦
      let there : changed sessions who (Some session) who ≡ Some found = subst (λ n. changed sessions who (Some session) n ≡ Some found) same is in
      let one : session ≡ found = some_of session found (sym (changed-same sessions who (Some session)) ∙ there) in
      subst (λ n. P n found) (sym same) (subst (P who) one here)
  | inr differs ↦ others other found differs (sym (changed-other sessions who (Some session) other differs) ∙ is)
]

-- what waits goes on to where the session has it still
waits_changed : (sessions : ℕ → Option SessionSets) (who : ℕ) (session new : SessionSets) → sessions who ≡ Some session
    → (entry : Entry) → (Contains session.waiting entry → Contains new.waiting entry) → Waits sessions entry → Waits (changed sessions who (Some new)) entry
waits_changed sessions who session new there entry goes (other, found, at, has) = elim (same_number other who) as (λ _. Waits (changed sessions who (Some new)) entry) [
  | inl same ↦
      let one : found ≡ session = some_of found session (sym at ∙ (ap sessions same ∙ there)) in
      (who, new, changed-same sessions who (Some new), goes (subst (λ (s : SessionSets). Contains s.waiting entry) one has))
  | inr differs ↦ (other, found, changed-other sessions who (Some new) other differs ∙ at, has)
]

lost_changed : (filed : List Entry) (sessions : ℕ → Option SessionSets) (who : ℕ) (session new : SessionSets) → sessions who ≡ Some session
    → ((entry : Entry) → Contains session.waiting entry → Contains new.waiting entry) → (answered : Answered)
    → IsFiledOrWaits filed sessions answered → IsFiledOrWaits filed (changed sessions who (Some new)) answered
lost_changed filed sessions who session new there goes answered is = elim is as (λ _. IsFiledOrWaits filed (changed sessions who (Some new)) answered) [
  | inl in_book ↦ inl in_book
  | inr waits ↦ inr (waits_changed sessions who session new there answered.entry (goes answered.entry) waits)
]

-- ---- more was served

entered_more : (count : ℕ) (asks : ℕ → Option Asks) (served more : List Answered) (entry : Entry) → IsEntered count asks served entry → IsEntered count asks (served ++ more) entry
entered_more count asks served more entry is = record {
  server = is.server;
  asks_are = is.asks_are;
  told = elim is.told as (λ _. (entry.what ≡ whats.Refused) ⊎ IsOfServed (served ++ more) entry) [
    | inl refused ↦ inl refused
    | inr (answered, has, same) ↦ inr (answered, Contains-append_left served more answered has, same)
  ];
}

queued_more : (count : ℕ) (asks : ℕ → Option Asks) (served more : List Answered) (filed : List Entry) (who : ℕ) (session : SessionSets)
    → IsQueued count asks served filed who session → IsQueued count asks (served ++ more) filed who session
queued_more count asks served more filed who session is = record {
  own = is.own;
  entered = All-weaker (IsEntered count asks served) (IsEntered count asks (served ++ more)) (entered_more count asks served more) session.waiting is.entered;
  in_order = is.in_order;
  behind = is.behind;
  filed_begun = is.filed_begun;
  waiting_begun = is.waiting_begun;
  filed_flies = is.filed_flies;
  waiting_flies = is.waiting_flies;
}

-- ---- what an event leaves

module _ (count : ℕ) (asks : ℕ → Option Asks) where
  abbrev AreIn : Machine → Type 0
  AreIn machine = AreEntered count asks machine.sessions machine.served machine.filed

  later_below : (who bound : ℕ) (entries : List Entry) → All (IsBelow who bound) entries → All (IsBelow who (bound + 1)) entries
  later_below who bound entries all = All-weaker (IsBelow who bound) (IsBelow who (bound + 1)) (λ entry below same. let less = below same in omega (arith, less)) entries all

  -- the session begins a place, and an answer is in flight to it
  answers : (old : Machine) → AreIn old → (who : ℕ) (session : SessionSets) (asked : Option Asking) (answered : Answered) → old.sessions who ≡ Some session
      → AreEntered count asks (changed old.sessions who (Some (record session { begun = session.begun + 1; asked = asked; flight = Some answered }))) old.served old.filed
  answers old is who session asked answered there =
      let new = record session { begun = session.begun + 1; asked = asked; flight = Some answered } in
      let queue = is.queues who session there in
      record {
        filed_are = is.filed_are;
        in_order = is.in_order;
        queues = others_changed (IsQueued count asks old.served old.filed) old.sessions who new (record {
          own = queue.own;
          entered = queue.entered;
          in_order = queue.in_order;
          behind = queue.behind;
          filed_begun = later_below who (session.begun + 1) old.filed queue.filed_begun;
          waiting_begun = later_below who (session.begun + 1) session.waiting queue.waiting_begun;
          filed_flies = λ one flies. queue.filed_begun;
          waiting_flies = λ one flies. queue.waiting_begun;
        }) (λ other found differs at. is.queues other found at);
        none_lost = All-weaker (IsFiledOrWaits old.filed old.sessions) (IsFiledOrWaits old.filed (changed old.sessions who (Some new)))
            (lost_changed old.filed old.sessions who session new there (λ entry has. has)) old.served is.none_lost;
      }

  -- nothing is in flight to it any more
  lands : (old : Machine) → AreIn old → (who : ℕ) (session : SessionSets) → old.sessions who ≡ Some session
      → AreEntered count asks (changed old.sessions who (Some (landed session))) old.served old.filed
  lands old is who session there =
      let queue = is.queues who session there in
      record {
        filed_are = is.filed_are;
        in_order = is.in_order;
        queues = others_changed (IsQueued count asks old.served old.filed) old.sessions who (landed session) (record {
          own = queue.own;
          entered = queue.entered;
          in_order = queue.in_order;
          behind = queue.behind;
          filed_begun = queue.filed_begun;
          waiting_begun = queue.waiting_begun;
          filed_flies = λ one none. no_some one none;
          waiting_flies = λ one none. no_some one none;
        }) (λ other found differs at. is.queues other found at);
        none_lost = All-weaker (IsFiledOrWaits old.filed old.sessions) (IsFiledOrWaits old.filed (changed old.sessions who (Some (landed session))))
            (lost_changed old.filed old.sessions who session (landed session) there (λ entry has. has)) old.served is.none_lost;
      }

  -- it hears what was in flight, and the entry of that waits
  hears : (old : Machine) → AreIn old → (who : ℕ) (session new : SessionSets) (answered : Answered) (more : List Answered) → old.sessions who ≡ Some session
      → IsGoodFlight old.served who session answered → session.flight ≡ Some answered → IsEntered count asks (old.served ++ more) answered.entry
      → new.begun ≡ session.begun → new.flight ≡ None → new.waiting ≡ session.waiting ++ answered.entry ∷ []
      → All (λ (other : Answered). other.entry ≡ answered.entry) more
      → AreEntered count asks (changed old.sessions who (Some new)) (old.served ++ more) old.filed
  hears old is who session new answered more there flight flies entered begun none waiting only =
      let entry = answered.entry in
      let served = old.served ++ more in
      let queue = queued_more count asks old.served more old.filed who session (is.queues who session there) in
      let below : IsBelow who (new.begun + 1) entry = λ same. omega (arith, flight.last, begun) in
      let has_it : Contains new.waiting entry = subst (λ list. Contains list entry) (sym waiting) (Contains-push session.waiting entry) in
      let filed_before = queue.filed_flies answered flies in
      let waiting_before = queue.waiting_flies answered flies in
      let before : (other : Entry) → IsBelow who session.begun other → Rises other entry = λ other less same.
      let is_less = less (same ∙ flight.session_is) in omega (arith, is_less, flight.last) in
      let all_before : (list : List Entry) → All (IsBelow who session.begun) list → All (λ (other : Entry). Rises other entry) list = λ list all.
      All-weaker (IsBelow who session.begun) (λ (other : Entry). Rises other entry) before list all in
      record {
        filed_are = All-weaker (IsEntered count asks old.served) (IsEntered count asks served) (entered_more count asks old.served more) old.filed is.filed_are;
        in_order = is.in_order;
        queues = others_changed (IsQueued count asks served old.filed) old.sessions who new (record {
          own = subst (All (λ (e : Entry). e.session.index ≡ who)) (sym waiting) (All-push (λ (e : Entry). e.session.index ≡ who) session.waiting entry queue.own flight.session_is);
          entered = subst (All (IsEntered count asks served)) (sym waiting) (All-push (IsEntered count asks served) session.waiting entry queue.entered entered);
          in_order = subst (AllPairs Rises) (sym waiting) (all_pairs_push Rises session.waiting entry queue.in_order (all_before session.waiting waiting_before));
          behind = subst (All (λ (e : Entry). All (λ (other : Entry). Rises other e) old.filed)) (sym waiting)
              (All-push (λ (e : Entry). All (λ (other : Entry). Rises other e) old.filed) session.waiting entry queue.behind (all_before old.filed filed_before));
          filed_begun = subst (λ n. All (IsBelow who (n + 1)) old.filed) (sym begun) queue.filed_begun;
          waiting_begun = subst (All (IsBelow who (new.begun + 1))) (sym waiting)
              (All-push (IsBelow who (new.begun + 1)) session.waiting entry (subst (λ n. All (IsBelow who (n + 1)) session.waiting) (sym begun) queue.waiting_begun) below);
          filed_flies = λ one goes. no_some one (sym none ∙ goes);
          waiting_flies = λ one goes. no_some one (sym none ∙ goes);
        }) (λ other found differs at. queued_more count asks old.served more old.filed other found (is.queues other found at));
        none_lost = All-append (IsFiledOrWaits old.filed (changed old.sessions who (Some new))) old.served more
            (All-weaker (IsFiledOrWaits old.filed old.sessions) (IsFiledOrWaits old.filed (changed old.sessions who (Some new)))
            (lost_changed old.filed old.sessions who session new there
            (λ e has. subst (λ list. Contains list e) (sym waiting) (Contains-append_left session.waiting (entry ∷ []) e has))) old.served is.none_lost)
            (All-weaker (λ (other : Answered). other.entry ≡ entry) (IsFiledOrWaits old.filed (changed old.sessions who (Some new)))
            (λ other same. inr (who, new, changed-same old.sessions who (Some new), subst (Contains new.waiting) (sym same) has_it)) more only);
      }

  -- the entry of a session that waits the longest is filed
  files : (old : Machine) → AreIn old → (who : ℕ) (session : SessionSets) (entry : Entry) (later : List Entry) → old.sessions who ≡ Some session → session.waiting ≡ entry ∷ later
      → AreEntered count asks (changed old.sessions who (Some (record session { waiting = later }))) old.served (old.filed ++ entry ∷ [])
  files old is who session entry later there waits =
      let new = record session { waiting = later } in
      let filed = old.filed ++ entry ∷ [] in
      let queue = is.queues who session there in
      let own : All (λ (e : Entry). e.session.index ≡ who) (entry ∷ later) = subst (All (λ (e : Entry). e.session.index ≡ who)) waits queue.own in
      let entered : All (IsEntered count asks old.served) (entry ∷ later) = subst (All (IsEntered count asks old.served)) waits queue.entered in
      let rise : AllPairs Rises (entry ∷ later) = subst (AllPairs Rises) waits queue.in_order in
      let behind : All (λ (e : Entry). All (λ (other : Entry). Rises other e) old.filed) (entry ∷ later) = subst (All (λ (e : Entry). All (λ (other : Entry). Rises other e) old.filed)) waits queue.behind in
      let begun : All (IsBelow who (session.begun + 1)) (entry ∷ later) = subst (All (IsBelow who (session.begun + 1))) waits queue.waiting_begun in
      let is_own : entry.session.index ≡ who = All-head (λ (e : Entry). e.session.index ≡ who) entry later own in
      record {
        filed_are = All-push (IsEntered count asks old.served) old.filed entry is.filed_are (All-head (IsEntered count asks old.served) entry later entered);
        in_order = all_pairs_push Rises old.filed entry is.in_order (All-head (λ (e : Entry). All (λ (other : Entry). Rises other e) old.filed) entry later behind);
        queues = others_changed (IsQueued count asks old.served filed) old.sessions who new (record {
          own = All-tail (λ (e : Entry). e.session.index ≡ who) entry later own;
          entered = All-tail (IsEntered count asks old.served) entry later entered;
          in_order = AllPairs-tail Rises entry later rise;
          behind = all_of_contained (λ (e : Entry). All (λ (other : Entry). Rises other e) filed) later
              (λ e has. All-push (λ (other : Entry). Rises other e) old.filed entry
              (All-contains (λ (one : Entry). All (λ (other : Entry). Rises other one) old.filed) later e (All-tail (λ (one : Entry). All (λ (other : Entry). Rises other one) old.filed) entry later behind) has)
              (All-contains (Rises entry) later e (AllPairs-head Rises entry later rise) has));
          filed_begun = All-push (IsBelow who (session.begun + 1)) old.filed entry queue.filed_begun (All-head (IsBelow who (session.begun + 1)) entry later begun);
          waiting_begun = All-tail (IsBelow who (session.begun + 1)) entry later begun;
          filed_flies = λ one flies.
              All-push (IsBelow who session.begun) old.filed entry (queue.filed_flies one flies)
              (All-head (IsBelow who session.begun) entry later (subst (All (IsBelow who session.begun)) waits (queue.waiting_flies one flies)));
          waiting_flies = λ one flies. All-tail (IsBelow who session.begun) entry later (subst (All (IsBelow who session.begun)) waits (queue.waiting_flies one flies));
        }) (λ other found differs at. beside other found differs is_own (is.queues other found at));
        none_lost = All-weaker (IsFiledOrWaits old.filed old.sessions) (IsFiledOrWaits filed (changed old.sessions who (Some new))) moves old.served is.none_lost;
      }
    where
      beside : (other : ℕ) (found : SessionSets) → other ≢ who → entry.session.index ≡ who → IsQueued count asks old.served old.filed other found → IsQueued count asks old.served (old.filed ++ entry ∷ []) other found
      beside other found differs is_own queue =
          let below : (bound : ℕ) → IsBelow other bound entry = λ bound same. absurd (differs (sym same ∙ is_own)) in
          record {
            own = queue.own;
            entered = queue.entered;
            in_order = queue.in_order;
            behind = all_of_contained (λ (e : Entry). All (λ (one : Entry). Rises one e) (old.filed ++ entry ∷ [])) found.waiting
                (λ e has. All-push (λ (one : Entry). Rises one e) old.filed entry
                (All-contains (λ (two : Entry). All (λ (one : Entry). Rises one two) old.filed) found.waiting e queue.behind has)
                (λ same. absurd (differs (sym (All-contains (λ (two : Entry). two.session.index ≡ other) found.waiting e queue.own has) ∙ (sym same ∙ is_own)))));
            filed_begun = All-push (IsBelow other (found.begun + 1)) old.filed entry queue.filed_begun (below (found.begun + 1));
            waiting_begun = queue.waiting_begun;
            filed_flies = λ one flies. All-push (IsBelow other found.begun) old.filed entry (queue.filed_flies one flies) (below found.begun);
            waiting_flies = queue.waiting_flies;
          }

      parts : (e : Entry) → Contains (entry ∷ later) e → (e ≡ entry) ⊎ Contains later e
      parts e (zero, within, same) = inl (sym same)
      parts e (suc k, within, same) = inr (k, omega (arith, within), same)

      moved : (new : SessionSets) → new.waiting ≡ later → (e : Entry) → Waits old.sessions e → Contains (old.filed ++ entry ∷ []) e ⊎ Waits (changed old.sessions who (Some new)) e
      moved new left e (other, found, at, has) = elim (same_number other who) as (λ _. Contains (old.filed ++ entry ∷ []) e ⊎ Waits (changed old.sessions who (Some new)) e) [
        | inl same ↦
            let one : found ≡ session = some_of found session (sym at ∙ (ap old.sessions same ∙ there)) in
            let here : Contains (entry ∷ later) e = subst (λ list. Contains list e) waits (subst (λ (s : SessionSets). Contains s.waiting e) one has) in
            elim (parts e here) as (λ _. Contains (old.filed ++ entry ∷ []) e ⊎ Waits (changed old.sessions who (Some new)) e) [
              | inl is_it ↦ inl (subst (Contains (old.filed ++ entry ∷ [])) (sym is_it) (Contains-push old.filed entry))
              | inr behind ↦ inr (who, new, changed-same old.sessions who (Some new), subst (λ list. Contains list e) (sym left) behind)
            ]
        | inr differs ↦ inr (other, found, changed-other old.sessions who (Some new) other differs ∙ at, has)
      ]

      moves : (answered : Answered) → IsFiledOrWaits old.filed old.sessions answered → IsFiledOrWaits (old.filed ++ entry ∷ []) (changed old.sessions who (Some (record session { waiting = later }))) answered
      moves answered is = elim is as (λ _. IsFiledOrWaits (old.filed ++ entry ∷ []) (changed old.sessions who (Some (record session { waiting = later }))) answered) [
        | inl in_book ↦ inl (Contains-append_left old.filed (entry ∷ []) answered.entry in_book)
        | inr waits ↦ moved (record session { waiting = later }) refl answered.entry waits
      ]

  -- ---- each event

  same_in : (old new : Machine) → new ≡ old → AreIn old → AreIn new
  same_in old new same is = subst AreIn (sym same) is

  read_in : (old : Machine) (who place : ℕ) (key : List ℕ) (reply : Reply) (new : Machine) → AreIn old → ReadStep old who place key reply new → AreIn new
  read_in old who place key reply new is (ReadStep.skipped cannot replies same) = same_in old new same is
  read_in old who place key reply new is (ReadStep.behind session entry may not_may replies entry_is same) = subst AreIn (sym same) (answers old is who session _ _ may.there)
  read_in old who place key reply new is (ReadStep.served session entry seen may covered value vector replies entry_is same) = subst AreIn (sym same) (answers old is who session _ _ may.there)

  ask_in : (old : Machine) (who : ℕ) (session : SessionSets) (asking : Asking) (answer : Result Written WriteFault) (new : Machine) → AreIn old → old.sessions who ≡ Some session
      → AskStep old who session asking answer new → AreIn new
  ask_in old who session asking answer new is there (AskStep.refused entry fault refused replies entry_is same) = subst AreIn (sym same) (answers old is who session _ _ there)
  ask_in old who session asking answer new is there (AskStep.doubted entry made makes replies entry_is same) = subst AreIn (sym same) (answers old is who session _ _ there)
  ask_in old who session asking answer new is there (AskStep.accepted entry made accepted makes told_is replies entry_is same) = subst AreIn (sym same) (answers old is who session _ _ there)

  write_in : (old : Machine) (who place : ℕ) (program : Program) (reply : Reply) (new : Machine) → AreIn old → WriteStep old who place program reply new → AreIn new
  write_in old who place program reply new is (WriteStep.skipped cannot replies same) = same_in old new same is
  write_in old who place program reply new is (WriteStep.asked session answer may asks_it replies) = ask_in old who session (first_asking place session program) answer new is may.there asks_it

  again_in : (old : Machine) (who : ℕ) (reply : Reply) (new : Machine) → AreIn old → AgainStep old who reply new → AreIn new
  again_in old who reply new is (AgainStep.skipped cannot replies same) = same_in old new same is
  again_in old who reply new is (AgainStep.known session asking entry made accepted may holds told_is replies entry_is same) = subst AreIn (sym same) (answers old is who session _ _ may.begin.there)
  again_in old who reply new is (AgainStep.asked session asking answer may none asks_it replies) = ask_in old who session asking answer new is may.begin.there asks_it

  -- the entry of the answer in flight is as it is to be entered
  enters : (old : Machine) → IsToldMachine count asks old → (who : ℕ) (session : SessionSets) (answered : Answered) → IsInFlight old who session answered → (what : What) → answered.entry.what ≡ what
      → IsEntered count asks (old.served ++ served_by what answered) answered.entry
  enters old is_told who session answered flies what same =
      let is_true = is_told.flights who answered (session, flies.there, flies.flight) in
      record { server = is_true.server; asks_are = is_true.asks_are; told = by_what what same }
    where
      by_what : (what : What) → answered.entry.what ≡ what → (answered.entry.what ≡ whats.Refused) ⊎ IsOfServed (old.served ++ served_by what answered) answered.entry
      by_what (whats.Read key vector) same = inr (answered, Contains-push old.served answered, refl)
      by_what (whats.Write wid stamp deps) same = inr (answered, Contains-push old.served answered, refl)
      by_what whats.Refused same = inl same

  only_it : (what : What) (answered : Answered) → All (λ (other : Answered). other.entry ≡ answered.entry) (served_by what answered)
  only_it (whats.Read key vector) answered = All-cons (λ (other : Answered). other.entry ≡ answered.entry) answered [] refl (All-nil (λ (other : Answered). other.entry ≡ answered.entry))
  only_it (whats.Write wid stamp deps) answered = All-cons (λ (other : Answered). other.entry ≡ answered.entry) answered [] refl (All-nil (λ (other : Answered). other.entry ≡ answered.entry))
  only_it whats.Refused answered = All-nil (λ (other : Answered). other.entry ≡ answered.entry)

  told_begun : (what : What) (answered : Answered) (session : SessionSets) → (told what answered session).begun ≡ session.begun
  told_begun (whats.Read key vector) answered session = refl
  told_begun (whats.Write wid stamp deps) answered session = refl
  told_begun whats.Refused answered session = refl

  deliver_in : (old : Machine) (who : ℕ) (reply : Reply) (new : Machine) → IsGoodMachine old → IsToldMachine count asks old → AreIn old → DeliverStep old who reply new → AreIn new
  deliver_in old who reply new good is_told is (DeliverStep.skipped none replies same) = same_in old new same is
  deliver_in old who reply new good is_told is (DeliverStep.delivered session answered flies replies same) =
      let what = answered.entry.what in
      let flight = subst (λ (o : Option Answered). IfSome o (IsGoodFlight old.served who session)) flies.flight (good.sessions who session flies.there).flight in
      subst AreIn (sym same)
      (hears old is who session (heard answered session) answered (served_by what answered) flies.there flight flies.flight (enters old is_told who session answered flies what refl) (told_begun what answered session) refl refl (only_it what answered))

  lose_in : (old : Machine) (who : ℕ) (reply : Reply) (new : Machine) → AreIn old → LoseStep old who reply new → AreIn new
  lose_in old who reply new is (LoseStep.skipped none replies same) = same_in old new same is
  lose_in old who reply new is (LoseStep.dropped session answered flies replies same) = subst AreIn (sym same) (lands old is who session flies.there)

  file_in : (old : Machine) (who : ℕ) (reply : Reply) (new : Machine) → AreIn old → FileStep old who reply new → AreIn new
  file_in old who reply new is (FileStep.skipped none replies same) = same_in old new same is
  file_in old who reply new is (FileStep.filed session entry later may replies same) = subst AreIn (sym same) (files old is who session entry later may.there may.waits)

  offer_in : (old : Machine) (place : ℕ) (reply : Reply) (new : Machine) → AreIn old → OfferStep old place reply new → AreIn new
  offer_in old place reply new is (OfferStep.skipped none replies same) = same_in old new same is
  offer_in old place reply new is (OfferStep.kept known few replies same) = subst AreIn (sym same) is

  collect_in : (old : Machine) (place offer : ℕ) (reply : Reply) (new : Machine) → AreIn old → CollectStep old place offer reply new → AreIn new
  collect_in old place offer reply new is (CollectStep.skipped none replies same) = same_in old new same is
  collect_in old place offer reply new is (CollectStep.no_memory maker database one known there has lacks replies same) = same_in old new same is
  collect_in old place offer reply new is (CollectStep.flown offered lacking may replies same) = subst AreIn (sym same) is

  take_in : (old : Machine) (place item : ℕ) (reply : Reply) (new : Machine) → AreIn old → TakeStep old place item reply new → AreIn new
  take_in old place item reply new is (TakeStep.skipped none replies same) = same_in old new same is
  take_in old place item reply new is (TakeStep.had made given holds replies same) = same_in old new same is
  take_in old place item reply new is (TakeStep.refused made fault given refused replies same) = same_in old new same is
  take_in old place item reply new is (TakeStep.doubted made given next room replies same) = subst AreIn (sym same) is
  take_in old place item reply new is (TakeStep.taken made given next room replies same) = subst AreIn (sym same) is

  fuse_in : (old : Machine) (place call : ℕ) (reply : Reply) (new : Machine) → AreIn old → FuseStep old place call reply new → AreIn new
  fuse_in old place call reply new is (FuseStep.skipped none replies same) = same_in old new same is
  fuse_in old place call reply new is (FuseStep.fused known some replies same) = same_in old new same is

  reopen_in : (old : Machine) (place : ℕ) (reply : Reply) (new : Machine) → AreIn old → ReopenStep old place reply new → AreIn new
  reopen_in old place reply new is (ReopenStep.skipped none replies same) = same_in old new same is
  reopen_in old place reply new is (ReopenStep.refused fault runs refused replies same) = same_in old new same is
  reopen_in old place reply new is (ReopenStep.reopened adopted server runs down recovers replies same) = subst AreIn (sym same) is

  restart_in : (old : Machine) (place : ℕ) (reply : Reply) (new : Machine) → AreIn old → RestartStep old place reply new → AreIn new
  restart_in old place reply new is (RestartStep.skipped none replies same) = same_in old new same is
  restart_in old place reply new is (RestartStep.refused fault known refused replies same) = subst AreIn (sym same) is
  restart_in old place reply new is (RestartStep.restarted adopted server known recovers replies same) = subst AreIn (sym same) is

  step_in : (old : Machine) (event : Event) (reply : Reply) (new : Machine) → IsGoodMachine old → IsToldMachine count asks old → AreIn old → Step old event reply new → AreIn new
  step_in old (events.Read session server key) reply new good is_told is step = read_in old session.index server.index key reply new is step
  step_in old (events.Write session server program) reply new good is_told is step = write_in old session.index server.index program reply new is step
  step_in old (events.Again session) reply new good is_told is step = again_in old session.index reply new is step
  step_in old (events.Deliver session) reply new good is_told is step = deliver_in old session.index reply new good is_told is step
  step_in old (events.Lose session) reply new good is_told is step = lose_in old session.index reply new is step
  step_in old (events.Offer server) reply new good is_told is step = offer_in old server.index reply new is step
  step_in old (events.Collect server offer) reply new good is_told is step = collect_in old server.index offer reply new is step
  step_in old (events.Take server item) reply new good is_told is step = take_in old server.index item reply new is step
  step_in old (events.Fuse server call front) reply new good is_told is step = fuse_in old server.index call reply new is step
  step_in old (events.Reopen server) reply new good is_told is step = reopen_in old server.index reply new is step
  step_in old (events.Restart server) reply new good is_told is step = restart_in old server.index reply new is step
  step_in old (events.File session) reply new good is_told is step = file_in old session.index reply new is step

  run_in : (old : Machine) (events : List Event) (replies : List Reply) (new : Machine) → IsGoodMachine old → AreTagged old → IsToldMachine count asks old → AreIn old → Run old events replies new → AreIn new
  run_in old [] [] new good tagged is_told is run = same_in old new run is
  run_in old [] (reply ∷ replies) new good tagged is_told is run = absurd run
  run_in old (event ∷ events) [] new good tagged is_told is run = absurd run
  run_in old (event ∷ events) (reply ∷ replies) new good tagged is_told is (mid, step, rest) =
      run_in mid events replies new (step_good old event reply mid good tagged step) (step_tagged old event reply mid good tagged step)
      (step_told count asks old event reply mid good tagged is_told step) (step_in old event reply mid good is_told is step) rest

  -- ---- as a run begins

  first_queue : (who : ℕ) (wants : Option Asks) (session : SessionSets) → option_map new_session wants ≡ Some session → IsQueued count asks [] [] who session
  first_queue who None session is = no_some session is
  first_queue who (Some wants) session is = subst (IsQueued count asks [] [] who) (some_of (new_session wants) session is) (record {
    own = All-nil (λ (e : Entry). e.session.index ≡ who);
    entered = All-nil (IsEntered count asks []);
    in_order = λ i j d less within. absurd (omega (arith, within));
    behind = All-nil (λ (e : Entry). All (λ (other : Entry). Rises other e) []);
    filed_begun = All-nil (IsBelow who 1);
    waiting_begun = All-nil (IsBelow who 1);
    filed_flies = λ one none. no_some one none;
    waiting_flies = λ one none. no_some one none;
  })

  first_in : (limit capacity : ℕ) → AreIn (first_machine count limit capacity asks)
  first_in limit capacity = record {
    filed_are = All-nil (IsEntered count asks []);
    in_order = λ i j d less within. absurd (omega (arith, within));
    queues = λ who session is. first_queue who (asks who) session is;
    none_lost = All-nil (IsFiledOrWaits [] (first_machine count limit capacity asks).sessions);
  }

pub run_is_entered : (count limit capacity : ℕ) (asks : ℕ → Option Asks) (events : List Event) (replies : List Reply) (last : Machine)
    → Run (first_machine count limit capacity asks) events replies last → AreEntered count asks last.sessions last.served last.filed
run_is_entered count limit capacity asks events replies last run =
    run_in count asks (first_machine count limit capacity asks) events replies last (first_good count limit capacity asks) (first_tagged count limit capacity asks) (first_told count limit capacity asks)
    (first_in count asks limit capacity) run
