-- What is renewed of a journal, and why something isn't.
use Rattle.std.proofs.Common.{◌≡◌, ◌*◌, ◌+◌, ◌<◌, ◌≤◌, ℕ, List, [], Option, Result, Ok, Err, IfErr, IfOk, OnOk, arith, length, subst, sym}
use Rattle.bayou_base.specs.declared.limits.TheConstants.{MAX_OPS}
use Rattle.bayou_device.specs.declared.device.Device.{Ghosts}
use Rattle.bayou_journal.specs.declared.careful.Damage.{Damage}
use Rattle.bayou_lang.specs.Writes.{count_of}
use Rattle.bayou_log.specs.Replay.{replay}
use Rattle.bayou_log.specs.Rows.{Row}
use Rattle.bayou_renew.specs.Renewal.{AreMadeOf, kept_rows}
use Rattle.bayou_renew.specs.Renewing.{AreNotRenewed, AreRowsOf, IsNotRenewed, IsOnCopy, IsRenewed, digest}
use Rattle.bayou_renew.specs.declared.fault.RenewFault.{RenewFault}
use Rattle.bayou_renew.specs.declared.fault.RenewFault.TheVariants.{Unread, Elsewhere, TooMany, OutOfMemory}
use Rattle.bayou_renew.specs.declared.plan.RenewalPlan.{RenewalPlan}
use Rattle.bayou_renew.specs.declared.renewing.Renewed.{Renewed}
use Rattle.bayou_renew.proofs.Made.{made-few, made-own, made-without}
use Rattle.bayou_server.specs.Server.{Core, IsUp, ServerState}

-- the rows are those of the server that was started on a copy
pub rows_of : {D V : Type 0} (d : Ghosts D) (items : V → List Row) (plan : RenewalPlan) (bytes : List ℕ) (server : ServerState D) (result : Result V RenewFault) → IsOnCopy d plan.id.index plan.servers bytes server
    → OnOk result (count_of server.core.held ≡ plan.wish.at) → IfOk result (λ rows. items rows ≡ kept_rows plan.wish.without.items (replay server.core.held))
    → IfOk result (λ rows. AreRowsOf d plan bytes (items rows))
rows_of d items plan bytes server (Ok rows) copy at are = record { server = server; copy = copy; at = at; are = are }
rows_of d items plan bytes server (Err fault) copy at are = tt

-- and so is the fault
fault_of : {D : Type 0} (d : Ghosts D) (damage : D → Option Damage) (has_failed : Type 0) (plan : RenewalPlan) (bytes : List ℕ) (server : ServerState D) (fault : RenewFault)
    → IsOnCopy d plan.id.index plan.servers bytes server → AreNotRenewed plan.wish server.core.held fault → IsNotRenewed d damage has_failed plan bytes fault
fault_of d damage has_failed plan bytes server (Unread fault) copy none = absurd none
fault_of d damage has_failed plan bytes server (Elsewhere held) copy is = (server, copy, is)
fault_of d damage has_failed plan bytes server (TooMany number) copy is = (server, copy, is)
fault_of d damage has_failed plan bytes server OutOfMemory copy is = tt

pub not_renewed : {D V : Type 0} (d : Ghosts D) (damage : D → Option Damage) (has_failed : Type 0) (plan : RenewalPlan) (bytes : List ℕ) (server : ServerState D) (result : Result V RenewFault)
    → IsOnCopy d plan.id.index plan.servers bytes server → IfErr result (AreNotRenewed plan.wish server.core.held) → IfErr result (IsNotRenewed d damage has_failed plan bytes)
not_renewed d damage has_failed plan bytes server (Ok rows) copy why = tt
not_renewed d damage has_failed plan bytes server (Err fault) copy why = fault_of d damage has_failed plan bytes server fault copy why

-- a server that holds what is made of those rows is what is wanted
renewed_of : {D : Type 0} (d : Ghosts D) (plan : RenewalPlan) (bytes : List ℕ) (rows : List Row) (core : Core) (keys told : ℕ) → AreRowsOf d plan bytes rows → length rows ≤ MAX_OPS * plan.wish.most
    → AreMadeOf [] rows core.held → IsUp core × (core.id ≡ plan.id.index) × (core.count ≡ plan.servers_then) → keys ≡ length rows → told ≡ digest core.held → IsRenewed d plan bytes core keys told
renewed_of d plan bytes rows core keys told of few made whose number digested =
    let old = of.server.core.held in
    let prefixes = plan.wish.without.items in
    let made_so : AreMadeOf [] (kept_rows prefixes (replay old)) core.held = subst (λ (l : List Row). AreMadeOf [] l core.held) of.are made in
    let as_few = made-few rows core.held made in
    record {
      server = of.server;
      copy = of.copy;
      renewed = record {
        at = of.at;
        made = made_so;
        database = made-without prefixes (replay old) core.held made_so;
        own = made-own rows core.held made;
        few = omega (arith, few, as_few.0, as_few.1);
      };
      number = subst (λ (l : List Row). keys ≡ length l) of.are number;
      digested = digested;
      up = whose.0;
      id = whose.1;
      count = whose.2;
    }

all_of : {D : Type 0} (d : Ghosts D) (plan : RenewalPlan) (bytes : List ℕ) (rows : List Row) (result : Result Renewed RenewFault) → AreRowsOf d plan bytes rows → length rows ≤ MAX_OPS * plan.wish.most
    → IfOk result (λ renewed. AreMadeOf [] rows renewed.server.core.held)
    → IfOk result (λ renewed. IsUp renewed.server.core × (renewed.server.core.id ≡ plan.id.index) × (renewed.server.core.count ≡ plan.servers_then))
    → IfOk result (λ renewed. renewed.keys ≡ length rows) → IfOk result (λ renewed. renewed.digest ≡ digest renewed.server.core.held)
    → IfOk result (λ renewed. IsRenewed d plan bytes renewed.server.core renewed.keys renewed.digest)
all_of d plan bytes rows (Ok renewed) of few made whose number digested = renewed_of d plan bytes rows renewed.server.core renewed.keys renewed.digest of few made whose number digested
all_of d plan bytes rows (Err fault) of few made whose number digested = tt

-- the same, of rows that were lent
pub all_renewed : {D : Type 0} (d : Ghosts D) (plan : RenewalPlan) (bytes : List ℕ) (rows lent : List Row) (result : Result Renewed RenewFault) → lent ≡ rows → AreRowsOf d plan bytes rows
    → length rows ≤ MAX_OPS * plan.wish.most → IfOk result (λ renewed. AreMadeOf [] lent renewed.server.core.held)
    → IfOk result (λ renewed. IsUp renewed.server.core × (renewed.server.core.id ≡ plan.id.index) × (renewed.server.core.count ≡ plan.servers_then))
    → IfOk result (λ renewed. renewed.keys ≡ length lent) → IfOk result (λ renewed. renewed.digest ≡ digest renewed.server.core.held)
    → IfOk result (λ renewed. IsRenewed d plan bytes renewed.server.core renewed.keys renewed.digest)
all_renewed d plan bytes rows lent result same of few made whose number digested =
    all_of d plan bytes rows result of few (subst (λ (l : List Row). IfOk result (λ renewed. AreMadeOf [] l renewed.server.core.held)) same made) whose
    (subst (λ (l : List Row). IfOk result (λ renewed. renewed.keys ≡ length l)) same number) digested

pub memory_alone : {D : Type 0} (d : Ghosts D) (damage : D → Option Damage) (has_failed : Type 0) (plan : RenewalPlan) (bytes : List ℕ) (result : Result Renewed RenewFault) → IfErr result (λ fault. fault ≡ OutOfMemory)
    → IfErr result (IsNotRenewed d damage has_failed plan bytes)
memory_alone d damage has_failed plan bytes (Ok renewed) is = tt
memory_alone d damage has_failed plan bytes (Err fault) is = subst (λ (why : RenewFault). IsNotRenewed d damage has_failed plan bytes why) (sym is) tt
