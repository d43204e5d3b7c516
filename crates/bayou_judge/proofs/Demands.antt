-- What an operation demands, by vectors, is what the guarantees ask for.
use Rattle.std.proofs.Common.{◌≡◌, ◌≢◌, ℕ, ◌+◌, ◌<◌, ◌≤◌, true, List, [], length, take, drop, All, Contains, Option, Some, None, ap, sym, ◌∙◌, subst, arith, length-append}
use Rattle.std.specs.List.{slice_get}
use Rattle.std.proofs.lemmas.List.{get_or_past, take-append-le, take-append-drop}
use Rattle.std.proofs.lemmas.List.Elements.{Contains-append_left}
use Rattle.std.proofs.lemmas.Option.{slice_get-get_or}
use Rattle.bayou_base.specs.Order.{is_before}
use Rattle.bayou_base.specs.Vector.{Covers}
use Rattle.bayou_base.specs.declared.entry.What.{What}
use Rattle.bayou_base.specs.declared.entry.What.TheVariants as whats
use Rattle.bayou_base.specs.declared.stamp.Stamp.{Stamp}
use Rattle.bayou_base.specs.declared.wid.Wid.{Wid}
use Rattle.bayou_lang.specs.declared.write.Write.{Write}
use Rattle.bayou_lang.specs.Writes.{count_of}
use Rattle.bayou_judge.specs.declared.demand.Demand.{Demand}
use Rattle.bayou_judge.specs.Evidence.{AreGood}
use Rattle.bayou_judge.specs.History.{dump_of, IsFrontOf, IsReadFrom, IsWriteOf}
use Rattle.bayou_judge.specs.Inner.Needs.{IsBeforeAll, IsDemandOf, IsServed, IsWriteDemand, Lacks}
use Rattle.bayou_judge.proofs.Good.{front_counts, front_has, front_is_held, front_of_dump, good_is_fitting, held_at, last_of_front, one_place, one_write, slice_get_front}

-- of a read it is what its vector counts
pub read_demand : (count : ℕ) (dumps : List (List Write)) → AreGood count dumps → (home server : ℕ) (key vector : List ℕ) → home ≡ server → IsServed (dump_of dumps home) (whats.Read key vector)
    → IsDemandOf dumps home (whats.Read key vector) server (Some (record { counts = vector; next = None }))
read_demand count dumps good home server key vector here served write held = (
  λ lacks met.
      let database = lacks.1.0 in
      let from : IsReadFrom (dump_of dumps server) (whats.Read key vector) database = lacks.1.1 in
      lacks.1.2 (front_has count dumps good server database from.0 write held (subst (λ counts. Covers counts write.wid.origin.index write.wid.seq) (sym from.1) met.counted)),
  λ unmet.
      let moved : IsServed (dump_of dumps server) (whats.Read key vector) = subst (λ s. IsServed (dump_of dumps s) (whats.Read key vector)) here served in
      let database = moved.0 in
      let from : IsReadFrom (dump_of dumps server) (whats.Read key vector) database = moved.1 in (
        here,
        (
          database,
          from,
          λ has. unmet (record {
            counted = subst (λ counts. Covers counts write.wid.origin.index write.wid.seq) from.1 (front_counts count dumps good server database from.0 write has);
            in_order = tt;
          }),
        ),
      ),
)

-- where no Write of the name stands, nothing is demanded
absent_demand : (dumps : List (List Write)) (home server : ℕ) (wid : Wid) (stamp : Stamp) (deps : List ℕ) → All (λ write. write.wid ≢ wid) (dump_of dumps server)
    → IsDemandOf dumps home (whats.Write wid stamp deps) server None
absent_demand dumps home server wid stamp deps none write held lacks =
    let later = lacks.0 in
    let named : later.wid ≡ wid = lacks.1.1 in
    let database = lacks.2.0 in
    lacks.2.2 (λ has.
    let there = front_is_held dumps server database later lacks.2.1 has in
    absurd (none there.0 later there.1 (ap (λ (w : Write). w.wid) there.2 ∙ named)))

-- a front that has what stands at a place has the front up to that place
front_behind : (dump database : List Write) (place : ℕ) → IsFrontOf dump database → place < length database → (write : Write) → Contains (take (place + 1) dump) write → Contains database write
front_behind dump database place front within write has =
    let cut : take (place + 1) dump ≡ take (place + 1) database = ap (take (place + 1)) front.1 ∙ take-append-le (place + 1) database front.0 (omega arith) in
    let part = subst (λ list. Contains list write) cut has in
    let whole = Contains-append_left (take (place + 1) database) (drop (place + 1) database) write part in
    subst (λ list. Contains list write) (take-append-drop (place + 1) database) whole

-- of a Write it is what stands up to it, and that its stamp comes behind
present_demand : (count : ℕ) (dumps : List (List Write)) → AreGood count dumps → (home server : ℕ) (wid : Wid) (stamp : Stamp) (deps : List ℕ) (demand : Demand)
    → IsServed (dump_of dumps home) (whats.Write wid stamp deps) → IsWriteDemand (dump_of dumps server) wid stamp (Some demand)
    → IsDemandOf dumps home (whats.Write wid stamp deps) server (Some demand)
present_demand count dumps good home server wid stamp deps demand served is write held =
    let dump = dump_of dumps server in
    let place = is.0 in
    let there = is.1 in
    let got : slice_get dump place ≡ Some there = is.2 in
    let counts : demand.counts ≡ count_of (take (place + 1) dump) = is.4 in
    let next : demand.next ≡ Some stamp = is.5 in
    let own = served.0 in
    let own_is : IsWriteOf (dump_of dumps home) (whats.Write wid stamp deps) own = served.1 in
    let front = front_of_dump dump (place + 1) in
    let is_there : (later : Write) → IsWriteOf (dump_of dumps home) (whats.Write wid stamp deps) later → there ≡ later =
    λ later which. one_write count dumps good there later (server, held_at dump place there got) (home, which.0) (is.3 ∙ sym which.1) in
    let stamped : (later : Write) → IsWriteOf (dump_of dumps home) (whats.Write wid stamp deps) later → later.stamp ≡ stamp =
    λ later which. ap (λ (w : Write). w.stamp) (sym (is_there later which) ∙ is_there own own_is) ∙ served.2 in (
      λ lacks met.
          let later = lacks.0 in
          let database = lacks.2.0 in
          lacks.2.2 (λ has.
          let at : slice_get database has.0 ≡ Some later = slice_get-get_or database has.0 later has.1 ∙ ap Some has.2 in
          let in_dump : slice_get dump has.0 ≡ Some later = slice_get_front dump database has.0 later lacks.2.1 at in
          let same : has.0 ≡ place = one_place count dump has.0 place later there (good_is_fitting count dumps good server) in_dump got (lacks.1.1 ∙ sym is.3) in
          let within : place < length database = omega (arith, has.1, same) in
          let counted = subst (λ list. Covers list write.wid.origin.index write.wid.seq) counts met.counted in
          let behind = front_has count dumps good server (take (place + 1) dump) front write held counted in
          let order = subst (IsBeforeAll write.stamp) next met.in_order in
          (front_behind dump database place lacks.2.1 within write behind, subst (λ s. is_before write.stamp s ≡ true) (sym (stamped later lacks.1)) order)),
      λ unmet. (
        own,
        own_is,
        (
          take (place + 1) dump,
          front,
          λ precedes.
              let at : Contains (take (place + 1) dump) own = subst (Contains (take (place + 1) dump)) (is_there own own_is) (last_of_front dump place there got) in
              let both = precedes at in
              unmet (record {
                counted = subst (λ list. Covers list write.wid.origin.index write.wid.seq) (sym counts) (front_counts count dumps good server (take (place + 1) dump) front write both.0);
                in_order = subst (IsBeforeAll write.stamp) (sym next) (subst (λ s. is_before write.stamp s ≡ true) (stamped own own_is) both.1);
              }),
        ),
      ),
    )

pub write_demand : (count : ℕ) (dumps : List (List Write)) → AreGood count dumps → (home server : ℕ) (wid : Wid) (stamp : Stamp) (deps : List ℕ) (result : Option Demand)
    → IsServed (dump_of dumps home) (whats.Write wid stamp deps) → IsWriteDemand (dump_of dumps server) wid stamp result
    → IsDemandOf dumps home (whats.Write wid stamp deps) server result
write_demand count dumps good home server wid stamp deps None served is = absent_demand dumps home server wid stamp deps is
write_demand count dumps good home server wid stamp deps (Some demand) served is = present_demand count dumps good home server wid stamp deps demand served is

-- beyond the last server nothing is demanded
pub beyond : (dumps : List (List Write)) (home : ℕ) (what : What) (server : ℕ) (write : Write) → length dumps ≤ server → home < length dumps → Lacks dumps home what server write → ⊥
beyond dumps home (whats.Read key vector) server write past known lacks = let here : home ≡ server = lacks.0 in omega arith
beyond dumps home (whats.Write wid stamp deps) server write past known lacks =
    let database = lacks.2.0 in
    let empty : dump_of dumps server ≡ [] = get_or_past dumps server [] past in
    let none = ap length (sym empty ∙ lacks.2.1.1) in
    lacks.2.2 (λ has. absurd (omega (arith, none, length-append database lacks.2.1.0, has.1)))
beyond dumps home whats.Refused server write past known lacks = lacks
