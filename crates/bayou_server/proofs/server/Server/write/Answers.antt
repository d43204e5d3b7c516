use Rattle.std.proofs.Common.{◌≡◌, OnOk, Ok, Err, Some, sym, ap, subst}
use Rattle.bayou_lang.specs.Writes.{IsNextWrite}
use Rattle.bayou_lang.specs.declared.program.Program.{Program}
use Rattle.bayou_log.specs.Log.{Log}
use Rattle.bayou_server.specs.declared.answer.Written.TheVariants.{New}
use Rattle.bayou_server.specs.declared.fault.WriteFault.TheVariants as faults
use Rattle.bayou_server.specs.declared.storing.Stored.{Stored}
use Rattle.bayou_server.specs.declared.storing.Stored.TheVariants.{Held, InDoubt}
use Rattle.bayou_server.specs.Inner.Fields.{core_of, server_of}
use Rattle.bayou_server.specs.Inner.Storing.{Keeps, StaysStored}
use Rattle.bayou_server.specs.Server.{Core}
use Rattle.bayou_server.specs.Stored.{IsStored}
use Rattle.bayou_server.specs.Writes.{Makes, Writes}
use Rattle.bayou_server.proofs.Adding.{caught_up_together}
use Rattle.bayou_server.proofs.Steps.{next_may_be_stored, own_of_write}
use Rattle.bayou_server.proofs.server.Server.write.Goals as goal
use Rattle.bayou_server.proofs.server.Server.write.Goals.{in-Held, in-InDoubt}

pub store-stored-requires-clause-may : goal.store-stored-requires-clause-may
store-stored-requires-clause-may g c =
    let inside = c.self.inside in
    let may = c.in_default.ensures.1 in
    next_may_be_stored (core_of inside.holding inside.id.index) c.args.program.now c.next_write-write.result c.self.invariant.0.sound may.0.up may.1
    (subst (λ (p : Program). IsNextWrite inside.holding.log.receipts inside.id.index p c.next_write-write.result) c.in_ok-program.ensures c.next_write-write.ensures)

pub store-stored-requires-clause-tagged : goal.store-stored-requires-clause-tagged
store-stored-requires-clause-tagged g c = record {
  own = ((λ some. c.next_write-write.ensures.origin), (λ own. cc));
  new = c.in_default.ensures.0;
}

pub returns-clause-writes : goal.returns-clause-writes
returns-clause-writes g c =
    let inside = c.self.inside in
    let made = c.next_write-write.result in
    let old = core_of inside.holding inside.id.index in
    let new = core_of c.store-stored.new.holding inside.id.index in
    let may = c.in_default.ensures.1 in
    let same : core_of (record c.store-stored.new.holding { log = c.catch_up.new.self }) inside.id.index ≡ new =
    ap (λ (log : Log). core_of (record c.store-stored.new.holding { log = log }) inside.id.index) c.catch_up.ensures in
    let next : IsNextWrite old.held old.id c.args.program.now made =
    subst (λ (p : Program). IsNextWrite old.held old.id p made) c.in_ok-program.ensures c.next_write-write.ensures in
    rw (← c.self.view_is)
    (subst (λ (core : Core). Writes old c.args.tag c.args.need.now c.args.program.now c.match-branch-3.result core) (sym same)
    (elim c.match-branch-3.branch [
      | in-Held w ↦
          let kept : Keeps old (Some c.args.tag) made Held new = subst (λ (s : Stored). Keeps old (Some c.args.tag) made s new) w.in-Held.is c.in_ok-stored.ensures.keeps in
          let makes : Makes old c.args.need.now c.args.program.now made = record { ready = may.0; room = may.1; next = next; spelled = kept.0 } in
          let writes : Writes old c.args.tag c.args.need.now c.args.program.now (Ok (New c.accepted-accepted.result)) new =
          (c.in_default.ensures.0, record { made = made; makes = makes; tells = c.accepted-accepted.ensures; is = kept.1 }) in
          rw w.result-is writes
      | in-InDoubt w ↦
          let kept : Keeps old (Some c.args.tag) made InDoubt new = subst (λ (s : Stored). Keeps old (Some c.args.tag) made s new) w.in-InDoubt.is c.in_ok-stored.ensures.keeps in
          let makes : Makes old c.args.need.now c.args.program.now made = record { ready = may.0; room = may.1; next = next; spelled = kept.0 } in
          let writes : Writes old c.args.tag c.args.need.now c.args.program.now (Err faults.Journal) new =
          (c.in_default.ensures.0, record { made = made; makes = makes; is = kept.1 }) in
          rw w.result-is writes
    ]))

pub returns-clause-own : goal.returns-clause-own
returns-clause-own g c = own_of_write c.args.self.now.core c.args.tag c.args.need.now c.args.program.now c.match-branch-3.result _ (returns-clause-writes g c)

pub returns-clause-stored : goal.returns-clause-stored
returns-clause-stored g c = λ modelled.
    let inside = c.self.inside in
    let old = server_of inside.journal inside.holding inside.id.index in
    let new = server_of c.store-stored.new.journal c.store-stored.new.holding inside.id.index in
    let same : core_of (record c.store-stored.new.holding { log = c.catch_up.new.self }) inside.id.index ≡ new.core =
    ap (λ (log : Log). core_of (record c.store-stored.new.holding { log = log }) inside.id.index) c.catch_up.ensures in
    rw (← c.self.view_is)
    (subst (λ (core : Core). OnOk c.match-branch-3.result (IsStored g.D.Device old → IsStored g.D.Device (record { core = core; device = new.device; last = new.last; taking = new.taking }))) (sym same)
    (elim c.match-branch-3.branch [
      | in-Held w ↦
          let stays : StaysStored g.D.Device old Held new = subst (λ (s : Stored). StaysStored g.D.Device old s new) w.in-Held.is (c.in_ok-stored.ensures.stored modelled) in
          rw w.result-is stays
      | in-InDoubt w ↦ rw w.result-is tt
    ]))

pub returns-clause-safe : goal.returns-clause-safe
returns-clause-safe g c = rw (← c.self.view_is) c.store-stored.ensures.safe

pub invariant_of-self-2 : goal.invariant_of-self-2
invariant_of-self-2 g c =
    caught_up_together c.store-stored.new.journal c.store-stored.new.holding c.catch_up.new.self c.self.inside.id.index c.store-stored.ensures.together c.catch_up.ensures
