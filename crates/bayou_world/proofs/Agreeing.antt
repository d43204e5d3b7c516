-- Tests of sets and tests of vectors agree.
use Rattle.std.proofs.Common.{◌≡◌, ◌↔◌, ℕ, true, List, [], ◌∷◌, ◌++◌, None, Some, length, ap, sym, ◌∙◌, refl, subst}
use Rattle.std.proofs.lemmas.List.{length-replicate, length-set}
use Rattle.std.proofs.lemmas.List.Elements.{All-contains}
use Rattle.bayou_base.specs.declared.asks.Asks.{Asks}
use Rattle.bayou_base.specs.declared.entry.Entry.{Entry}
use Rattle.bayou_base.specs.declared.entry.What.{What}
use Rattle.bayou_base.specs.declared.entry.What.TheVariants as whats
use Rattle.bayou_base.specs.declared.limits.TheConstants.{SERVERS}
use Rattle.bayou_base.specs.declared.session.SessionId.{SessionId}
use Rattle.bayou_base.specs.Vector.{Dominates}
use Rattle.bayou_judge.specs.History.{IsFrontOf}
use Rattle.bayou_lang.specs.declared.write.Write.{Write}
use Rattle.bayou_lang.specs.Laws.Fitting.{fitting-front, length-count_of}
use Rattle.bayou_lang.specs.Writes.{AreFitting, count_of}
use Rattle.bayou_session.specs.Needs as sessions
use Rattle.bayou_session.specs.Needs.{Told, read_need, write_need}
use Rattle.bayou_world.specs.Agreement.{IsToldOf, ItemTestsAgree, NeedsAgree, StandsFor}
use Rattle.bayou_world.specs.Inner.Good.{IsGoodMachine, IsHome, WasSo}
use Rattle.bayou_world.specs.Invariant.{IsVectorOf}
use Rattle.bayou_world.specs.Machine.{Answered, Machine, Made, Offered, SessionSets, names, writes}
use Rattle.bayou_world.specs.Runs.{new_session}
use Rattle.bayou_world.specs.Steps.{CoversWrite, MayRead, MayWrite, heard, told}
use Rattle.bayou_world.proofs.Given.{given_fits, no_gap_within}
use Rattle.bayou_world.proofs.Homes.{fitting_at}
use Rattle.bayou_world.proofs.Vectors.{IsVectorOf-counts, IsVectorOf-joined, IsVectorOf-none, IsVectorOf-raised, length-joined, named, tests_agree}

-- what the session's own crate says of its needs
abbrev pub ReadLaw : Type 0
ReadLaw = (session : Told) (held : List ℕ) → length session.reads ≡ SERVERS → length session.writes ≡ SERVERS
    → Dominates held (read_need session) ↔ ((session.asks.ryw ≡ true → Dominates held session.writes) × (session.asks.mr ≡ true → Dominates held session.reads))

abbrev pub WriteLaw : Type 0
WriteLaw = (session : Told) (held : List ℕ) → length session.reads ≡ SERVERS → length session.writes ≡ SERVERS
    → Dominates held (write_need session) ↔ ((session.asks.wfr ≡ true → Dominates held session.reads) × (session.asks.mw ≡ true → Dominates held session.writes))

pub may_read : ReadLaw → (count : ℕ) (held : List Made) → AreFitting count (writes held) → (told : Told) (session : SessionSets) → StandsFor told session
    → MayRead session held ↔ Dominates (count_of (writes held)) (read_need told)
may_read law count held fitting told session is =
    let all = law told (count_of (writes held)) is.long.0 is.long.1 in
    let reads = tests_agree count (writes held) told.reads session.reads fitting is.reads in
    let wrote = tests_agree count (writes held) told.writes session.writes fitting is.writes in (
      λ may. all.1 (
        (λ asked. wrote.0 (may.ryw (ap (λ (a : Asks). a.ryw) (sym is.asks) ∙ asked))),
        (λ asked. reads.0 (may.mr (ap (λ (a : Asks). a.mr) (sym is.asks) ∙ asked))),
      ),
      λ dominates. record {
        ryw = λ asked. wrote.1 ((all.0 dominates).0 (ap (λ (a : Asks). a.ryw) is.asks ∙ asked));
        mr = λ asked. reads.1 ((all.0 dominates).1 (ap (λ (a : Asks). a.mr) is.asks ∙ asked));
      },
    )

pub may_write : WriteLaw → (count : ℕ) (held : List Made) → AreFitting count (writes held) → (told : Told) (session : SessionSets) → StandsFor told session
    → MayWrite session held ↔ Dominates (count_of (writes held)) (write_need told)
may_write law count held fitting told session is =
    let all = law told (count_of (writes held)) is.long.0 is.long.1 in
    let reads = tests_agree count (writes held) told.reads session.reads fitting is.reads in
    let wrote = tests_agree count (writes held) told.writes session.writes fitting is.writes in (
      λ may. all.1 (
        (λ asked. reads.0 (may.wfr (ap (λ (a : Asks). a.wfr) (sym is.asks) ∙ asked))),
        (λ asked. wrote.0 (may.mw (ap (λ (a : Asks). a.mw) (sym is.asks) ∙ asked))),
      ),
      λ dominates. record {
        wfr = λ asked. reads.1 ((all.0 dominates).0 (ap (λ (a : Asks). a.wfr) is.asks ∙ asked));
        mw = λ asked. wrote.1 ((all.0 dominates).1 (ap (λ (a : Asks). a.mw) is.asks ∙ asked));
      },
    )

-- what a past has that the session needs
pub covers_write : WriteLaw → (count : ℕ) (past : List Write) → AreFitting count past → (told : Told) (session : SessionSets) → StandsFor told session → CoversWrite session past
    → Dominates (count_of past) (write_need told)
covers_write law count past fitting told session is covers =
    let all = law told (count_of past) is.long.0 is.long.1 in
    let reads = tests_agree count past told.reads session.reads fitting is.reads in
    let wrote = tests_agree count past told.writes session.writes fitting is.writes in
    all.1 (
      (λ asked. reads.0 (covers.wfr (ap (λ (a : Asks). a.wfr) (sym is.asks) ∙ asked))),
      (λ asked. wrote.0 (covers.mw (ap (λ (a : Asks). a.mw) (sym is.asks) ∙ asked))),
    )

pub needs_agree : ReadLaw → WriteLaw → (machine : Machine) → IsGoodMachine machine → (session : SessionSets) (told : Told) → StandsFor told session → NeedsAgree machine session told
needs_agree read_law write_law machine good session told is = record {
  read = λ place. may_read read_law machine.count (machine.servers place).held (fitting_at machine.count machine.limit machine.servers good.servers place) told session is;
  write = λ place. may_write write_law machine.count (machine.servers place).held (fitting_at machine.count machine.limit machine.servers good.servers place) told session is;
}

pub begins_standing : (id : SessionId) (run : ℕ) (asks : Asks) → StandsFor (sessions.new_session id run asks) (new_session asks)
begins_standing id run asks = record {
  asks = refl;
  long = (length-replicate {A = ℕ} SERVERS 0, length-replicate {A = ℕ} SERVERS 0);
  reads = IsVectorOf-none;
  writes = IsVectorOf-none;
}

-- by what the answer tells
heard_as : (machine : Machine) → IsGoodMachine machine → (place : ℕ) (session : SessionSets) (answered : Answered) (what : What) (waiting : List Entry) → WasSo machine.servers what place answered
    → (old new : Told) → StandsFor old session → IsToldOf what old new → StandsFor new (record (told what answered session) { flight = None; waiting = waiting })
heard_as machine good place session answered (whats.Read key vector) waiting was old new is (seen, saw, becomes) =
    let front = was.1 in
    let fitting : AreFitting machine.count answered.database =
    fitting-front machine.count answered.database front.0 (subst (AreFitting machine.count) front.1 (fitting_at machine.count machine.limit machine.servers good.servers place)) in
    let counts : seen.vector ≡ count_of answered.database = saw ∙ was.2 in
    let vector_of = subst (λ v. IsVectorOf v (names answered.database)) (sym counts) (IsVectorOf-counts machine.count answered.database fitting) in
    let same_long : length old.reads ≡ length seen.vector = is.long.0 ∙ sym (length-count_of answered.database) ∙ ap length (sym counts) in
    subst (λ (t : Told). StandsFor t (record (told (whats.Read key vector) answered session) { flight = None; waiting = waiting })) (sym becomes) (record {
      asks = is.asks;
      long = (length-joined old.reads seen.vector same_long ∙ is.long.0, is.long.1);
      reads = IsVectorOf-joined old.reads seen.vector session.reads (names answered.database) same_long is.reads vector_of;
      writes = is.writes;
    })
heard_as machine good place session answered (whats.Write wid stamp deps) waiting was old new is (accepted, named_so, becomes) =
    subst (λ (t : Told). StandsFor t (record (told (whats.Write wid stamp deps) answered session) { flight = None; waiting = waiting })) (sym becomes) (record {
      asks = is.asks;
      long = (is.long.0, length-set old.writes _ _ ∙ is.long.1);
      reads = is.reads;
      writes = subst (λ w. IsVectorOf (sessions.after_write old accepted).writes (session.writes ++ w ∷ [])) named_so (IsVectorOf-raised old.writes session.writes accepted.wid is.long.1 is.writes);
    })
heard_as machine good place session answered whats.Refused waiting was old new is becomes =
    subst (λ (t : Told). StandsFor t (record (told whats.Refused answered session) { flight = None; waiting = waiting })) (sym becomes) (record {
      asks = is.asks;
      long = is.long;
      reads = is.reads;
      writes = is.writes;
    })

pub heard_standing : (machine : Machine) → IsGoodMachine machine → (who : ℕ) (session : SessionSets) (answered : Answered) → machine.sessions who ≡ Some session → session.flight ≡ Some answered
    → (old new : Told) → StandsFor old session → IsToldOf answered.entry.what old new → StandsFor new (heard answered session)
heard_standing machine good who session answered there flies old new is told_it =
    heard_as machine good answered.entry.server.index session answered answered.entry.what (session.waiting ++ answered.entry ∷ []) (good.flights who session answered there flies) old new is told_it

-- ---- items and offers

pub item_tests_agree : (machine : Machine) → IsGoodMachine machine → ItemTestsAgree machine
item_tests_agree machine good = record {
  taken = λ place made among missing.
      let home = All-contains (IsHome machine.servers) machine.items made good.items among in (
        λ within. (given_fits machine.count machine.limit machine.servers good.servers place made home missing within).0,
        λ none. no_gap_within machine.count machine.limit machine.servers good.servers place made home none,
      );
  collected = λ offer name among.
      let front = All-contains (λ (o : Offered). IsFrontOf (writes (machine.servers o.server).held) o.database) machine.offers offer good.offers among in
      let fitting : AreFitting machine.count offer.database =
      fitting-front machine.count offer.database front.0 (subst (AreFitting machine.count) front.1 (fitting_at machine.count machine.limit machine.servers good.servers offer.server)) in
      named machine.count offer.database name fitting;
}
