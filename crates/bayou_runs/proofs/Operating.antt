-- An operation of a session, with what becomes of its reply, is told by events of the machine, and leaves script and machine alike.
use Rattle.std.proofs.Common.{◌≡◌, ◌≢◌, inl, inr, ℕ, ◌+◌, ◌<◌, ◌≤◌, Bool, true, false, ◌||◌, List, [], ◌∷◌, ◌++◌, Option, None, Some, length, ap, sym, ◌∙◌, refl, subst, arith, append_assoc}
use Rattle.std.specs.List.{slice_get, slice_index_or, slice_set}
use Rattle.std.specs.Coded.{le_prop}
use Rattle.std.proofs.lemmas.List.{append-nil, length_push}
use Rattle.bayou_base.specs.declared.asks.Asks.{Asks}
use Rattle.bayou_base.specs.declared.entry.Entry.{Entry}
use Rattle.bayou_base.specs.declared.entry.What.{What}
use Rattle.bayou_base.specs.declared.limits.TheConstants.{MAX_WRITES, SESSIONS}
use Rattle.bayou_base.specs.declared.server.ServerId.{ServerId}
use Rattle.bayou_base.specs.declared.session.SessionId.{SessionId}
use Rattle.bayou_lang.specs.Laws.Equality.{server-ext}
use Rattle.bayou_server.specs.Server.{Core}
use Rattle.bayou_text.specs.Said.{Said}
use Rattle.bayou_script.specs.Capacity.{operations}
use Rattle.bayou_script.specs.Script.{Plan, is_open, opens}
use Rattle.bayou_answers.specs.declared.answer.Answer.{Answer}
use Rattle.bayou_answers.specs.declared.answer.Answer.TheVariants.{Lost}
use Rattle.bayou_machine.specs.declared.script_server.ScriptServer.{ScriptServer}
use Rattle.bayou_machine.specs.Filed.{Files}
use Rattle.bayou_machine.specs.Laws.Runs.{operations-first}
use Rattle.bayou_machine.specs.Run.{ScriptState}
use Rattle.bayou_machine.specs.Seats.{Seat, new_seat}
use Rattle.bayou_machine.specs.Standing.{Standing, StandsAt, nothing_asked, seat_of, with_server, with_session}
use Rattle.bayou_world.specs.declared.event.Event.{Event}
use Rattle.bayou_world.specs.declared.event.Event.TheVariants as events
use Rattle.bayou_world.specs.declared.reply.Reply.{Reply}
use Rattle.bayou_world.specs.declared.reply.Reply.TheVariants as replies
use Rattle.bayou_world.specs.Machine.{Answered, Asking, Machine, SessionSets, changed}
use Rattle.bayou_world.specs.Never.{core_at}
use Rattle.bayou_world.specs.Rows.{IsAnsweredAt}
use Rattle.bayou_world.specs.Runs.{Run}
use Rattle.bayou_world.specs.Steps.{DeliverStep, FileStep, LoseStep, Step, heard, landed, served_by, told}
use Rattle.bayou_runs.specs.Inner.Tie.{IsAt, IsBeside, IsSeatOf, IsSeated, IsTelling}
use Rattle.bayou_runs.specs.Lines.{Ends, has_lost}
use Rattle.bayou_runs.proofs.Lists.{changed-other, changed-same, get-set_other, get-set_same, get_within, index-set_other, index-set_same, length-set_it, same_number, some_of}
use Rattle.bayou_runs.proofs.Safe.{beside_on, beside_still}

-- a session is its index
pub session-ext : (a b : SessionId) → a.index ≡ b.index → a ≡ b
session-ext a b same =
    let made : (n : ℕ) → n < SESSIONS → SessionId = λ n h. record { index = n; in_range = h } in
    let P : ℕ → Type 0 = λ n. (h : n < SESSIONS) → made a.index a.in_range ≡ made n h in
    subst P same (λ h. ap (made a.index) (le_prop a.in_range h)) b.in_range

-- the two entries are of one operation
same_entry : (one other : Entry) → one.session.index ≡ other.session.index → one.place ≡ other.place → one.asks ≡ other.asks → one.server.index ≡ other.server.index → one.what ≡ other.what → one ≡ other
same_entry one other session place asks server what =
    let made : (s : SessionId) (n : ℕ) (a : Asks) (p : ServerId) (w : What) → 0 < n → Entry = λ s n a p w h. record { session = s; place = n; asks = a; server = p; what = w; in_range = h } in
    let is : SessionId → ℕ → Asks → ServerId → What → Type 0 = λ s n a p w. (h : 0 < n) → one ≡ made s n a p w h in
    let first : is one.session one.place one.asks one.server one.what = λ h. ap (made one.session one.place one.asks one.server one.what) (le_prop one.in_range h) in
    let with_session : is other.session one.place one.asks one.server one.what = subst (λ s. is s one.place one.asks one.server one.what) (session-ext one.session other.session session) first in
    let with_place : is other.session other.place one.asks one.server one.what = subst (λ n. is other.session n one.asks one.server one.what) place with_session in
    let with_asks : is other.session other.place other.asks one.server one.what = subst (λ a. is other.session other.place a one.server one.what) asks with_place in
    let with_server : is other.session other.place other.asks other.server one.what = subst (λ p. is other.session other.place other.asks p one.what) (server-ext one.server other.server server) with_asks in
    subst (λ w. is other.session other.place other.asks other.server w) what with_server other.in_range

-- ---- a run goes on

pub run_append : (old mid new : Machine) (events : List Event) (replies : List Reply) (more : List Event) (others : List Reply) → Run old events replies mid → Run mid more others new
    → Run old (events ++ more) (replies ++ others) new
run_append old mid new [] [] more others run rest = subst (λ (m : Machine). Run m more others new) run rest
run_append old mid new [] (reply ∷ replies) more others run rest = absurd run
run_append old mid new (event ∷ events) [] more others run rest = absurd run
run_append old mid new (event ∷ events) (reply ∷ replies) more others (next, step, run) rest = (next, step, run_append next mid new events replies more others run rest)

-- ---- what stays

-- all but this session and this server is as it was
pub record IsApart (old : Machine) (who place : ℕ) (new : Machine) : Type 0 where
  pub count : new.count ≡ old.count
  pub limit : new.limit ≡ old.limit
  pub capacity : new.capacity ≡ old.capacity
  pub servers : (other : ℕ) → other ≢ place → new.servers other ≡ old.servers other
  pub sessions : (other : ℕ) → other ≢ who → new.sessions other ≡ old.sessions other
  pub offers : new.offers ≡ old.offers
  pub items : new.items ≡ old.items

-- The script's session and its server are other ones, and nothing else.
pub record IsMoved (old : Standing) (who : SessionId) (place : ℕ) (after : ScriptServer) (now : Seat) (new : Standing) : Type 0 where
  pub only : new ≡ with_session (with_server old place after) who now

-- the line opens no session
abbrev pub OpensNone : Said → Type 0
OpensNone said = (who : ℕ) → opens who said ≡ false

none_more : (b : Bool) → b ≡ false → (b || false) ≡ false
none_more true none = none
none_more false none = refl

pub still_open : (who : ℕ) (front : List Said) (said : Said) → opens who said ≡ false → is_open who (front ++ said ∷ []) ≡ is_open who front
still_open who [] said none = none_more (opens who said) none
still_open who (first ∷ front) said none = ap (λ b. opens who first || b) (still_open who front said none)

-- how the script stands behind one line more, of which the machine's events are told
pub record StandsAgain (plan : Plan) (front others : List Said) (said : Said) (state new : ScriptState) (old last : Machine) : Type 0 where
  pub opens_none : OpensNone said
  pub events : List Event
  pub replies : List Reply
  pub run : Run old events replies last
  pub count : last.count ≡ old.count
  pub limit : last.limit ≡ old.limit
  pub count_is : new.standing.count ≡ state.standing.count
  pub limit_is : new.standing.limit ≡ state.standing.limit
  pub servers : length new.standing.servers ≡ length state.standing.servers
  pub each : (place : ℕ) (replica : ScriptServer) → StandsAt new.standing place replica → IsBeside (has_lost place (front ++ said ∷ [])) last place replica
  pub sessions : length new.standing.sessions ≡ length state.standing.sessions
  pub seats : (who : SessionId) → is_open who.index front ≡ true → IsSeated last who.index (seat_of new.standing who)
  pub closed : (who : ℕ) → is_open who front ≡ false → last.sessions who ≡ old.sessions who
  pub entries : new.book.entries ≡ last.filed
  pub room : length last.filed + operations others ≤ last.capacity
  pub offer : slice_get last.offers 0 ≡ slice_get old.offers 0
  pub offers_few : length last.offers ≤ length old.offers + 1
  pub items_few : length last.items ≤ length old.items + MAX_WRITES

pub stands_again : (plan : Plan) (front : List Said) (said : Said) (others : List Said) (state new : ScriptState) (old last : Machine) → IsAt plan front (said ∷ others) state old
    → StandsAgain plan front others said state new old last → IsAt plan (front ++ said ∷ []) others new last
stands_again plan front said others state new old last at is =
    let more : length (front ++ said ∷ []) ≡ length front + 1 = length_push front said in
    record {
      split = at.split ∙ sym (append_assoc front (said ∷ []) others);
      events = at.events ++ is.events;
      replies = at.replies ++ is.replies;
      run = run_append _ old last at.events at.replies is.events is.replies at.run is.run;
      count = is.count ∙ at.count;
      limit = is.limit ∙ at.limit;
      count_is = is.count_is ∙ at.count_is;
      limit_is = is.limit_is ∙ at.limit_is;
      one_each = is.servers ∙ at.one_each;
      each = is.each;
      one_seat_each = is.sessions ∙ at.one_seat_each;
      known = λ who opened_there. at.known who (sym (still_open who front said (is.opens_none who)) ∙ opened_there);
      opened = λ who opened_there. is.seats who (sym (still_open who.index front said (is.opens_none who.index)) ∙ opened_there);
      unopened = λ who none. let was = sym (still_open who front said (is.opens_none who)) ∙ none in is.closed who was ∙ at.unopened who was;
      entries = is.entries;
      room = is.room;
      offer = is.offer ∙ at.offer;
      offers_few = omega (arith, at.offers_few, is.offers_few, more);
      items_few = omega (arith, at.items_few, is.items_few, more);
    }

-- where a server is another one
pub server_set : (lost : ℕ → Bool) (standing : Standing) (place : ℕ) (after : ScriptServer) (last : Machine) → place < length standing.servers → IsBeside (lost place) last place after
    → ((other : ℕ) (replica : ScriptServer) → other ≢ place → StandsAt standing other replica → IsBeside (lost other) last other replica)
    → (other : ℕ) (replica : ScriptServer) → slice_get (slice_set standing.servers place after) other ≡ Some replica → IsBeside (lost other) last other replica
server_set lost standing place after last within beside others other replica is = elim (same_number other place) as (λ _. IsBeside (lost other) last other replica) [
  | inl same ↦
      let here : slice_get (slice_set standing.servers place after) place ≡ Some replica = subst (λ n. slice_get (slice_set standing.servers place after) n ≡ Some replica) same is in
      let one : after ≡ replica = some_of after replica (sym (get-set_same standing.servers place after within) ∙ here) in
      subst (λ n. IsBeside (lost n) last n replica) (sym same) (subst (IsBeside (lost place) last place) one beside)
  | inr differs ↦ others other replica differs (sym (get-set_other standing.servers place after other differs) ∙ is)
]

-- where a session is another one
pub seat_set : (standing : Standing) (who : SessionId) (now : Seat) (last : Machine) → length standing.sessions ≡ SESSIONS → IsSeated last who.index now
    → (other : SessionId) → (other.index ≢ who.index → IsSeated last other.index (seat_of standing other)) → IsSeated last other.index (slice_index_or (slice_set standing.sessions who.index now) other.index (new_seat other nothing_asked))
seat_set standing who now last many seated other was = elim (same_number other.index who.index)
    as (λ _. IsSeated last other.index (slice_index_or (slice_set standing.sessions who.index now) other.index (new_seat other nothing_asked))) [
      | inl same ↦
          let inside : who.index < length standing.sessions = omega (arith, many, who.in_range) in
          subst (λ n. IsSeated last n (slice_index_or (slice_set standing.sessions who.index now) n (new_seat other nothing_asked))) (sym same)
          (subst (IsSeated last who.index) (sym (index-set_same standing.sessions who.index now (new_seat other nothing_asked) inside)) seated)
      | inr differs ↦
          subst (IsSeated last other.index) (sym (index-set_other standing.sessions who.index now (new_seat other nothing_asked) other.index differs)) (was differs)
    ]

module _ (plan : Plan) where
  -- the script's line is one of a session at a server, and so did the machine
  pub moved : (front : List Said) (said : Said) (others : List Said) (state new : ScriptState) (old last : Machine) → IsAt plan front (said ∷ others) state old → OpensNone said
      → (events : List Event) (replies : List Reply) → Run old events replies last → (who : SessionId) (place : ℕ) (before after : ScriptServer) (now : Seat) → StandsAt state.standing place before
      → is_open who.index front ≡ true → IsApart old who.index place last → IsBeside (has_lost place front) last place after → IsSeated last who.index now
      → new.standing ≡ with_session (with_server state.standing place after) who now → new.book.entries ≡ last.filed → length last.filed + operations others ≤ last.capacity
      → IsAt plan (front ++ said ∷ []) others new last
  moved front said others state new old last at opens_none events replies run who place before after now stands opened_there apart beside seated only entries room =
      let within : place < length state.standing.servers = get_within state.standing.servers place before stands in
      let servers : new.standing.servers ≡ slice_set state.standing.servers place after = ap (λ (s : Standing). s.servers) only in
      let sessions : new.standing.sessions ≡ slice_set state.standing.sessions who.index now = ap (λ (s : Standing). s.sessions) only in
      stands_again plan front said others state new old last at (record {
        opens_none = opens_none;
        events = events;
        replies = replies;
        run = run;
        count = apart.count;
        limit = apart.limit;
        count_is = ap (λ (s : Standing). s.count) only;
        limit_is = ap (λ (s : Standing). s.limit) only;
        servers = ap (λ (list : List ScriptServer). length list) servers ∙ length-set_it state.standing.servers place after;
        each = λ other replica is. server_set (λ n. has_lost n (front ++ said ∷ [])) state.standing place after last within (beside_on front said last place after beside)
            (λ one found differs stood. beside_on front said last one found
            (beside_still (has_lost one front) old last one found apart.count apart.limit (apart.servers one differs) (at.each one found stood)))
            other replica (subst (λ (list : List ScriptServer). slice_get list other ≡ Some replica) servers is);
        sessions = ap (λ (list : List Seat). length list) sessions ∙ length-set_it state.standing.sessions who.index now;
        seats = λ other is.
            subst (λ (list : List Seat). IsSeated last other.index (slice_index_or list other.index (new_seat other nothing_asked))) (sym sessions)
            (seat_set state.standing who now last at.one_seat_each seated other (λ differs.
            let was = at.opened other is in record { session = was.session; there = apart.sessions other.index differs ∙ was.there; is = was.is }));
        closed = λ other none. apart.sessions other (λ same. let both : true ≡ false = sym opened_there ∙ (ap (λ n. is_open n front) (sym same) ∙ none) in absurd (cc));
        entries = entries;
        room = room;
        offer = ap (λ list. slice_get list 0) apart.offers;
        offers_few = omega (arith, ap length apart.offers);
        items_few = omega (arith, ap length apart.items);
      })

-- ---- what becomes of the reply

-- the session that an answer is in flight to
abbrev pub flying_of : SessionSets → Option Asking → Answered → SessionSets
flying_of session asked answered = record session { begun = session.begun + 1; asked = asked; flight = Some answered }

-- one operation of a session: what it came to in the machine, and what the script says of it
pub record IsOperation (front others : List Said) (said : Said) (state new : ScriptState) (old next : Machine) (who : SessionId) (place : ℕ) (session : SessionSets) (asked : Option Asking)
    (what : What) (core : Core) (before after : ScriptServer) (begun_seat : Seat) : Type 0 where
  pub opens_none : OpensNone said
  pub one : operations (said ∷ []) ≡ 1
  pub stands : StandsAt state.standing place before
  pub opened_there : is_open who.index front ≡ true
  pub there : old.sessions who.index ≡ Some session
  pub was : IsSeatOf who.index (seat_of state.standing who) session
  pub event : Event
  pub reply : Reply
  pub step : Step old event reply next
  pub answered : IsAnsweredAt old who.index place session asked what core next
  pub beside : (last : Machine) → core ≡ core_at last place → (last.servers place).stopped ≡ false → IsBeside (has_lost place front) last place after
  pub telling : IsTelling who.index begun_seat (flying_of session asked answered.answered)

-- the operation is told so, and script and machine stand alike behind it
pub record IsToldSo (plan : Plan) (front others : List Said) (said : Said) (new : ScriptState) (old : Machine) (who : SessionId) (event : Event) (reply : Reply) (told_answer answer : Answer) : Type 0 where
  pub last : Machine
  pub events : List Event
  pub replies : List Reply
  pub ends : Ends who told_answer answer events replies
  pub run : Run old (event ∷ events) (reply ∷ replies) last
  pub at : IsAt plan (front ++ said ∷ []) others new last

-- of what was told a session keeps the same, be it in flight or filed
settled : (who : ℕ) (seat : Seat) (session : SessionSets) (flight : Option Answered) (waiting : List Entry) → IsTelling who seat session → IsTelling who seat (record session { flight = flight; waiting = waiting })
settled who seat session flight waiting is = record {
  id = is.id;
  run = is.run;
  begun = is.begun;
  number = is.number;
  asked = is.asked;
  stands = record { asks = is.stands.asks; long = is.stands.long; reads = is.stands.reads; writes = is.stands.writes };
}

module _ (plan : Plan) (front others : List Said) (said : Said) (state new : ScriptState) (old next : Machine) (at : IsAt plan front (said ∷ others) state old) (who : SessionId) (place : ℕ)
    (session : SessionSets) (asked : Option Asking) (what : What) (core : Core) (before after : ScriptServer) (begun_seat now : Seat)
    (did : IsOperation front others said state new old next who place session asked what core before after begun_seat)
    (only : new.standing ≡ with_session (with_server state.standing place after) who now)
    (filed : List Entry) (books : new.book ≡ record state.book { entries = state.book.entries ++ filed }) where
  abbrev pub flying : SessionSets
  flying = flying_of session asked did.answered.answered

  -- the reply is lost
  pub finish_lost : (told_answer answer : Answer) → answer ≡ Lost who → now ≡ begun_seat → filed ≡ [] → IsToldSo plan front others said new old who did.event did.reply told_answer answer
  finish_lost told_answer answer is_lost same none =
      let last = record next { sessions = changed next.sessions who.index (Some (landed flying)) } in
      let ans = did.answered in
      let dropped : LoseStep next who.index replies.Dropped last = LoseStep.dropped flying ans.answered (record { there = ans.flies; flight = refl }) refl refl in
      let run : Run old (did.event ∷ events.Lose who ∷ []) (did.reply ∷ replies.Dropped ∷ []) last = (next, did.step, (last, dropped, refl)) in
      let entries : new.book.entries ≡ last.filed =
      ap (λ (b : _). b.entries) books ∙ ap (λ list. state.book.entries ++ list) none ∙ append-nil state.book.entries ∙ at.entries ∙ sym ans.only.filed in
      record {
        last = last;
        events = events.Lose who ∷ [];
        replies = replies.Dropped ∷ [];
        ends = subst (λ (a : Answer). Ends who told_answer a (events.Lose who ∷ []) (replies.Dropped ∷ [])) (sym is_lost) Ends.lost;
        run = run;
        at = moved plan front said others state new old last at did.opens_none (did.event ∷ events.Lose who ∷ []) (did.reply ∷ replies.Dropped ∷ []) run who place before after now did.stands did.opened_there
            (record {
              count = ans.only.count;
              limit = ans.only.limit;
              capacity = ans.only.capacity;
              servers = ans.only.servers;
              sessions = λ other differs. changed-other next.sessions who.index (Some (landed flying)) other differs ∙ ans.only.sessions other differs;
              offers = ans.only.offers;
              items = ans.only.items;
            })
            (did.beside last ans.core_is ans.runs)
            (record {
              session = landed flying;
              there = changed-same next.sessions who.index (Some (landed flying));
              is = record {
                telling = subst (λ (s : Seat). IsTelling who.index s (landed flying)) (sym same) (settled who.index begun_seat flying None flying.waiting did.telling);
                idle = refl;
                filed = did.was.filed;
              };
            })
            only entries (omega (arith, at.room, ap length ans.only.filed, ap (λ n. n) ans.only.capacity, operations-first said others, did.one));
      }

  -- it is heard, and its entry filed
  pub finish_heard : (told_answer answer : Answer) → answer ≡ told_answer → Files who.index place (seat_of state.standing who).told (Some what) filed
      → IsTelling who.index now (told what did.answered.answered flying) → IsToldSo plan front others said new old who did.event did.reply told_answer answer
  finish_heard told_answer answer is_told (entry, is_filed, is_entry) telling =
      let ans = did.answered in
      let answered = ans.answered in
      let hearing = heard answered flying in
      let mid = record next { sessions = changed next.sessions who.index (Some hearing); served = next.served ++ served_by answered.entry.what answered } in
      let done = record hearing { waiting = [] } in
      let last = record mid { sessions = changed mid.sessions who.index (Some done); filed = mid.filed ++ answered.entry ∷ [] } in
      let waits : hearing.waiting ≡ answered.entry ∷ [] = ap (λ list. list ++ answered.entry ∷ []) did.was.filed in
      let few : length next.filed < next.capacity = omega (arith, at.room, ap length ans.only.filed, ans.only.capacity, operations-first said others, did.one) in
      let delivered : DeliverStep next who.index replies.Delivered mid = DeliverStep.delivered flying answered (record { there = ans.flies; flight = refl }) refl refl in
      let files : FileStep mid who.index replies.Filed last = FileStep.filed hearing answered.entry [] (record { there = changed-same next.sessions who.index (Some hearing); waits = waits; room = few }) refl refl in
      let run : Run old (did.event ∷ events.Deliver who ∷ events.File who ∷ []) (did.reply ∷ replies.Delivered ∷ replies.Filed ∷ []) last = (next, did.step, (mid, delivered, (last, files, refl))) in
      let same : entry ≡ answered.entry = same_entry entry answered.entry (is_entry.session_is ∙ sym ans.entry.session_is)
      (is_entry.place_is ∙ (ap (λ n. n + 1) did.was.telling.begun ∙ sym ans.entry.place_is)) (is_entry.asks_are ∙ (did.was.telling.stands.asks ∙ sym ans.entry.asks_are))
      (is_entry.server_is ∙ sym ans.entry.server_is) (is_entry.what_is ∙ sym ans.entry.what_is) in
      let entries : new.book.entries ≡ last.filed =
      ap (λ (b : _). b.entries) books ∙ ap (λ list. state.book.entries ++ list) (is_filed ∙ ap (λ e. e ∷ []) same) ∙ ap (λ list. list ++ answered.entry ∷ []) (at.entries ∙ sym ans.only.filed) in
      record {
        last = last;
        events = events.Deliver who ∷ events.File who ∷ [];
        replies = replies.Delivered ∷ replies.Filed ∷ [];
        ends = subst (λ (a : Answer). Ends who told_answer a (events.Deliver who ∷ events.File who ∷ []) (replies.Delivered ∷ replies.Filed ∷ [])) (sym is_told) Ends.heard;
        run = run;
        at = moved plan front said others state new old last at did.opens_none (did.event ∷ events.Deliver who ∷ events.File who ∷ []) (did.reply ∷ replies.Delivered ∷ replies.Filed ∷ []) run
            who place before after now did.stands did.opened_there
            (record {
              count = ans.only.count;
              limit = ans.only.limit;
              capacity = ans.only.capacity;
              servers = ans.only.servers;
              sessions = λ other differs. changed-other mid.sessions who.index (Some done) other differs ∙ (changed-other next.sessions who.index (Some hearing) other differs ∙ ans.only.sessions other differs);
              offers = ans.only.offers;
              items = ans.only.items;
            })
            (did.beside last ans.core_is ans.runs)
            (record {
              session = done;
              there = changed-same mid.sessions who.index (Some done);
              is = record {
                telling = subst (λ (w : What). IsTelling who.index now (record (told w answered flying) { flight = None; waiting = [] })) (sym ans.entry.what_is) (settled who.index now (told what answered flying) None [] telling);
                idle = refl;
                filed = refl;
              };
            })
            only entries (omega (arith, at.room, length_push mid.filed answered.entry, ap length ans.only.filed, ans.only.capacity, operations-first said others, did.one));
      }
