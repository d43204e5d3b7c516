-- Names, entries and Writes of numbers are those that have these numbers.
use Rattle.std.proofs.Common.{◌≡◌, ℕ, ◌<◌, ◌≤◌, Bool, true, false, nat_lt, nat_le, List, Option, Some, Ok, refl, sym, ap, ◌∙◌, subst, arith}
use Rattle.std.proofs.lemmas.Bool.{leb-false, ltb-false}
use Rattle.std.specs.Coded.{×_prop, le_prop}
use Rattle.bayou_base.specs.declared.asks.Asks.{Asks}
use Rattle.bayou_base.specs.declared.entry.Entry.{Entry}
use Rattle.bayou_base.specs.declared.entry.What.{What}
use Rattle.bayou_base.specs.declared.entry.What.TheVariants as what
use Rattle.bayou_base.specs.declared.limits.TheConstants.{SERVERS, SESSIONS, MAX_WRITES}
use Rattle.bayou_base.specs.declared.server.ServerId.{ServerId}
use Rattle.bayou_base.specs.declared.session.SessionId.{SessionId}
use Rattle.bayou_base.specs.declared.stamp.Stamp.{Stamp}
use Rattle.bayou_base.specs.declared.wid.Wid.{Wid}
use Rattle.bayou_lang.specs.Laws.Equality.{server-ext, wid-ext, stamp-ext, write-ext}
use Rattle.bayou_lang.specs.declared.program.Program.{Program}
use Rattle.bayou_lang.specs.declared.write.Write.{Write}
use Rattle.bayou_text.specs.Laws.Inner.Readers.{bound}
use Rattle.bayou_text.specs.Names.{session_if, session_of, server_if, server_of, counted_if, counted, placed_if, placed, entry_of, accepted_of, write_of}
use Rattle.bayou_text.specs.Reading.{Parsed, ◌>>=◌}
use Rattle.bayou_text.specs.Said.{Said, entry}

pub ok_same : {A : Type 0} (x y : A) → ◌≡◌ {A = Parsed A} (Ok x) (Ok y) → x ≡ y
ok_same x y same = cc

-- ---- what has these numbers is named

session-ext : (a b : SessionId) → a.index ≡ b.index → a ≡ b
session-ext a b same =
    let made : (n : ℕ) → n < SESSIONS → SessionId = λ n h. record { index = n; in_range = h } in
    let P : ℕ → Type 0 = λ n. (h : n < SESSIONS) → made a.index a.in_range ≡ made n h in
    subst P same (λ h. ap (made a.index) (le_prop a.in_range h)) b.in_range

session_if-is : (n : ℕ) (below : Bool) (e : nat_lt n SESSIONS ≡ below) (s : SessionId) → s.index ≡ n → session_if n below e ≡ Ok s
session_if-is n true e s same = ap (λ x. Ok x) (session-ext _ s (sym same))
session_if-is n false e s same = let out : SESSIONS ≤ n = ltb-false n SESSIONS e in absurd (omega (arith, s.in_range))

pub session_of-is : (s : SessionId) → session_of s.index ≡ Ok s
unfolding session_of
session_of-is s = session_if-is s.index _ refl s refl

server_if-is : (n : ℕ) (below : Bool) (e : nat_lt n SERVERS ≡ below) (s : ServerId) → s.index ≡ n → server_if n below e ≡ Ok s
server_if-is n true e s same = ap (λ x. Ok x) (server-ext _ s (sym same))
server_if-is n false e s same = let out : SERVERS ≤ n = ltb-false n SERVERS e in absurd (omega (arith, s.in_range))

pub server_of-is : (s : ServerId) → server_of s.index ≡ Ok s
unfolding server_of
server_of-is s = server_if-is s.index _ refl s refl

counted_if-is : (n : ℕ) (above : Bool) (e : nat_lt 0 n ≡ above) (h : 0 < n) → counted_if n above e ≡ Ok h
counted_if-is n true e h = ap (λ x. Ok x) (le_prop _ h)
counted_if-is n false e h = let out : n ≤ 0 = ltb-false 0 n e in absurd (omega (arith, h))

pub counted-is : (n : ℕ) (h : 0 < n) → counted n ≡ Ok h
unfolding counted
counted-is n h = counted_if-is n _ refl h

placed_if-is : (n : ℕ) (above below : Bool) (a : nat_lt 0 n ≡ above) (b : nat_le n MAX_WRITES ≡ below) (h : (0 < n) × (n ≤ MAX_WRITES))
    → placed_if n above below a b ≡ Ok h
placed_if-is n true true a b h = ap (λ x. Ok x) (×_prop le_prop le_prop _ h)
placed_if-is n true false a b h = let out : MAX_WRITES < n = leb-false _ _ b in absurd (omega (arith, h.1))
placed_if-is n false true a b h = let out : n ≤ 0 = ltb-false _ _ a in absurd (omega (arith, h.0))
placed_if-is n false false a b h = let out : n ≤ 0 = ltb-false _ _ a in absurd (omega (arith, h.0))

pub placed-is : (n : ℕ) (h : (0 < n) × (n ≤ MAX_WRITES)) → placed n ≡ Ok h
unfolding placed
placed-is n h = placed_if-is n _ _ refl refl h

pub entry_of-is : (e : Entry) → entry_of e.session.index e.place e.asks e.server.index ≡ Ok (record e { what = what.Refused })
unfolding entry_of
entry_of-is e = rw (session_of-is e.session, counted-is e.place e.in_range, server_of-is e.server) refl

pub accepted_of-is : (origin : ServerId) (wid : Wid) (stamp : Stamp) (deps : List ℕ) → wid.origin ≡ origin → stamp.origin ≡ origin
    → accepted_of origin wid.seq stamp.clock deps ≡ Ok (what.Write wid stamp deps)
unfolding accepted_of
accepted_of-is origin wid stamp deps own its =
    let name : Wid = record { origin = origin; seq = wid.seq; in_range = wid.in_range } in
    let time : Stamp = record { clock = stamp.clock; origin = origin; in_range = stamp.in_range } in
    rw (placed-is wid.seq wid.in_range, placed-is stamp.clock stamp.in_range)
    (ap (λ (w : Wid). Ok (what.Write w time deps)) (wid-ext name wid (sym own) refl)
    ∙ ap (λ (s : Stamp). Ok (what.Write wid s deps)) (stamp-ext time stamp refl (sym its)))

pub write_of-is : (w : Write) → write_of w.wid.origin.index w.wid.seq w.stamp.clock w.deps w.program ≡ Ok w
unfolding write_of
write_of-is w =
    let time : Stamp = record { clock = w.stamp.clock; origin = w.wid.origin; in_range = w.stamp.in_range } in
    let made : Write = record { wid = w.wid; stamp = time; deps = w.deps; program = w.program; one_origin = refl } in
    rw (server_of-is w.wid.origin, placed-is w.wid.seq w.wid.in_range, placed-is w.stamp.clock w.stamp.in_range)
    (ap (λ (x : Write). Ok x) (write-ext made w refl (stamp-ext time w.stamp refl w.one_origin) refl refl))

-- ---- what is named has these numbers

session_if-from : (n : ℕ) (below : Bool) (e : nat_lt n SESSIONS ≡ below) (s : SessionId) → session_if n below e ≡ Ok s → s.index ≡ n
session_if-from n true e s given = ap (λ (t : SessionId). t.index) (sym (ok_same _ s given))
session_if-from n false e s given = absurd (cc)

session_of-from : (n : ℕ) (s : SessionId) → session_of n ≡ Ok s → s.index ≡ n
unfolding session_of
session_of-from n s given = session_if-from n _ refl s given

server_if-from : (n : ℕ) (below : Bool) (e : nat_lt n SERVERS ≡ below) (s : ServerId) → server_if n below e ≡ Ok s → s.index ≡ n
server_if-from n true e s given = ap (λ (t : ServerId). t.index) (sym (ok_same _ s given))
server_if-from n false e s given = absurd (cc)

server_of-from : (n : ℕ) (s : ServerId) → server_of n ≡ Ok s → s.index ≡ n
unfolding server_of
server_of-from n s given = server_if-from n _ refl s given

-- the entry has these numbers, and is of an operation that was refused
pub record HasNumbers (who place : ℕ) (asks : Asks) (at : ℕ) (tried : Entry) : Type 0 where
  pub session : tried.session.index ≡ who
  pub place_is : tried.place ≡ place
  pub asks_are : tried.asks ≡ asks
  pub server : tried.server.index ≡ at
  pub what_is : tried.what ≡ what.Refused

pub entry_of-from : (who place : ℕ) (asks : Asks) (at : ℕ) (tried : Entry) → entry_of who place asks at ≡ Ok tried → HasNumbers who place asks at tried
unfolding entry_of
entry_of-from who place asks at tried e =
    let made : SessionId → ServerId → 0 < place → Entry =
    λ session server above. record { session = session; place = place; asks = asks; server = server; what = what.Refused; in_range = above } in
    let session = bound (session_of who) (λ session. counted place >>= λ above. server_of at >>= λ server. Ok (made session server above)) tried e in
    let above = bound (counted place) (λ above. server_of at >>= λ server. Ok (made session.0 server above)) tried session.2 in
    let server = bound (server_of at) (λ server. Ok (made session.0 server above.0)) tried above.2 in
    let is : made session.0 server.0 above.0 ≡ tried = ok_same (made session.0 server.0 above.0) tried server.2 in
    subst (λ (t : Entry). HasNumbers who place asks at t) is (record {
      session = session_of-from who session.0 session.1;
      place_is = refl;
      asks_are = refl;
      server = server_of-from at server.0 server.1;
      what_is = refl;
    })

-- what a server gave a Write: its name and its stamp have these numbers
pub record IsGiven (origin : ServerId) (seq clock : ℕ) (deps : List ℕ) (given : What) : Type 0 where
  pub within : (0 < seq) × (seq ≤ MAX_WRITES)
  pub timely : (0 < clock) × (clock ≤ MAX_WRITES)
  pub given_is : what.Write (record { origin = origin; seq = seq; in_range = within }) (record { clock = clock; origin = origin; in_range = timely }) deps ≡ given

pub accepted_of-from : (origin : ServerId) (seq clock : ℕ) (deps : List ℕ) (given : What) → accepted_of origin seq clock deps ≡ Ok given
    → IsGiven origin seq clock deps given
unfolding accepted_of
accepted_of-from origin seq clock deps given e =
    let made : (0 < seq) × (seq ≤ MAX_WRITES) → (0 < clock) × (clock ≤ MAX_WRITES) → What =
    λ within timely. what.Write (record { origin = origin; seq = seq; in_range = within }) (record { clock = clock; origin = origin; in_range = timely }) deps in
    let within = bound (placed seq) (λ within. placed clock >>= λ timely. Ok (made within timely)) given e in
    let timely = bound (placed clock) (λ timely. Ok (made within.0 timely)) given within.2 in
    record { within = within.0; timely = timely.0; given_is = ok_same (made within.0 timely.0) given timely.2 }

-- the Write has these numbers, these deps and this program
pub record IsOf (at seq clock : ℕ) (deps : List ℕ) (program : Program) (w : Write) : Type 0 where
  pub origin : w.wid.origin.index ≡ at
  pub seq_is : w.wid.seq ≡ seq
  pub clock_is : w.stamp.clock ≡ clock
  pub deps_are : w.deps ≡ deps
  pub program_is : w.program ≡ program

pub write_of-from : (at seq clock : ℕ) (deps : List ℕ) (program : Program) (w : Write) → write_of at seq clock deps program ≡ Ok w
    → IsOf at seq clock deps program w
unfolding write_of
write_of-from at seq clock deps program w e =
    let made : ServerId → (0 < seq) × (seq ≤ MAX_WRITES) → (0 < clock) × (clock ≤ MAX_WRITES) → Write =
    λ origin within timely. record {
      wid = record { origin = origin; seq = seq; in_range = within };
      stamp = record { clock = clock; origin = origin; in_range = timely };
      deps = deps;
      program = program;
      one_origin = refl;
    } in
    let origin = bound (server_of at) (λ origin. placed seq >>= λ within. placed clock >>= λ timely. Ok (made origin within timely)) w e in
    let within = bound (placed seq) (λ within. placed clock >>= λ timely. Ok (made origin.0 within timely)) w origin.2 in
    let timely = bound (placed clock) (λ timely. Ok (made origin.0 within.0 timely)) w within.2 in
    let is : made origin.0 within.0 timely.0 ≡ w = ok_same (made origin.0 within.0 timely.0) w timely.2 in
    subst (λ (x : Write). IsOf at seq clock deps program x) {x = made origin.0 within.0 timely.0} is (record {
      origin = server_of-from at origin.0 origin.1;
      seq_is = refl;
      clock_is = refl;
      deps_are = refl;
      program_is = refl;
    })

-- ---- as they are made

pub tried_is : (session : SessionId) (place : ℕ) (asks : Asks) (server : ServerId) (above : 0 < place)
    → entry_of session.index place asks server.index
    ≡ Ok (record { session = session; place = place; asks = asks; server = server; what = what.Refused; in_range = above })
tried_is session place asks server above =
    entry_of-is (record { session = session; place = place; asks = asks; server = server; what = what.Refused; in_range = above })

-- an entry that says what became of it
abbrev pub told : (tried : Entry) → What → 0 < tried.place → Entry
told tried became above = record {
  session = tried.session;
  place = tried.place;
  asks = tried.asks;
  server = tried.server;
  what = became;
  in_range = above;
}

pub told_is : (tried : Entry) (became : What) (counts : Option ℕ) (above : 0 < tried.place)
    → ◌≡◌ {A = Parsed Said} (Ok (entry (record tried { what = became }) counts)) (Ok (entry (told tried became above) counts))
told_is tried became counts above = ap (λ h. Ok (entry (told tried became h) counts)) (le_prop tried.in_range above)

pub accepted_is : (tried : Entry) (seq clock : ℕ) (deps : List ℕ) (n : ℕ) (within : (0 < seq) × (seq ≤ MAX_WRITES))
    (timely : (0 < clock) × (clock ≤ MAX_WRITES)) (above : 0 < tried.place)
    → (accepted_of tried.server seq clock deps >>= λ given. Ok (entry (record tried { what = given }) (Some n)))
    ≡ Ok (entry (told tried (what.Write (record { origin = tried.server; seq = seq; in_range = within })
    (record { clock = clock; origin = tried.server; in_range = timely }) deps) above) (Some n))
accepted_is tried seq clock deps n within timely above =
    let wid : Wid = record { origin = tried.server; seq = seq; in_range = within } in
    let stamp : Stamp = record { clock = clock; origin = tried.server; in_range = timely } in
    rw (accepted_of-is tried.server wid stamp deps refl refl) (told_is tried (what.Write wid stamp deps) (Some n) above)

pub write_is : (at seq clock : ℕ) (deps : List ℕ) (program : Program) (w : Write) → w.wid.origin.index ≡ at → w.wid.seq ≡ seq → w.stamp.clock ≡ clock
    → w.deps ≡ deps → w.program ≡ program → write_of at seq clock deps program ≡ Ok w
write_is at seq clock deps program w origin seqs clocks pasts programs = rw (← origin, ← seqs, ← clocks, ← pasts, ← programs) (write_of-is w)
