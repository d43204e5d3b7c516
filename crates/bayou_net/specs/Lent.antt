-- What becomes of a server that is lent to serve, and of a node with a desk.
use Rattle.std.specs.Prelude.{◌≡◌, ℕ, List, None, Result, IfOk, OnOk}
use Rattle.bayou_base.specs.declared.tag.Tag.{Tag}
use Rattle.bayou_device.specs.declared.device.Device.{Ghosts}
use Rattle.bayou_journal.specs.Opening.{KeepsChains}
use Rattle.bayou_lang.specs.declared.program.Program.{Program}
use Rattle.bayou_net.specs.Serving.{Steps}
use Rattle.bayou_node.specs.Answers.{BySome, InSome, IsWritten, Pays, TakesAtNode}
use Rattle.bayou_node.specs.Books.{Begun}
use Rattle.bayou_peer.specs.Pulls.{Ways}
use Rattle.bayou_server.specs.declared.answer.Reopened.{Reopened}
use Rattle.bayou_server.specs.declared.answer.Written.{Written}
use Rattle.bayou_server.specs.declared.fault.ReopenFault.{ReopenFault}
use Rattle.bayou_server.specs.declared.fault.WriteFault.{WriteFault}
use Rattle.bayou_server.specs.Reads.{Reads}
use Rattle.bayou_server.specs.Reopens.{ReopensAll, ReopensSome}
use Rattle.bayou_server.specs.Server.{IsSoundServer, ServerState}
use Rattle.bayou_server.specs.Stored.{IsStored, OpensInCalls, ReopensJournal, StoresWrite}
use Rattle.bayou_server.specs.Writes.{Writes}

-- a server, a program, the tag of its asking, what it answers, and the server then: what it holds and how its device stands
pub record WritesAt {D : Type 0} (d : Ghosts D) (old : ServerState D) (tag : Tag) (need : List ℕ) (program : Program) (answer : Result Written WriteFault) (new : ServerState D) : Type 0 where
  pub writes : Writes old.core tag need program answer new.core
  pub sound : IsSoundServer old.core × IsSoundServer new.core
  pub stores : StoresWrite d old answer new
  pub stored : d.is_modelled → OnOk answer (IsStored d old → IsStored d new)
  pub safe : d.is_modelled → KeepsChains (d.kept old.device) (d.kept new.device)
  pub calls : d.leads_to 2 old.device new.device

-- the same of a reopening
pub record ReopensAt {D : Type 0} (d : Ghosts D) (old : ServerState D) (answer : Result Reopened ReopenFault) (new : ServerState D) : Type 0 where
  pub reopens : ReopensAll old.core old.taking answer new.core
  pub sound : IsSoundServer old.core × IsSoundServer new.core
  pub opens : ReopensJournal d old answer new
  pub stored : d.is_modelled → OnOk answer (IsStored d new)
  pub safe : d.is_modelled → KeepsChains (d.kept old.device) (d.kept new.device)
  pub calls : OpensInCalls d old.core.id old.device new.device

-- a program at a node, by one who has a desk that was paid so much
pub record DeskWrites (begun : Begun) (paid : ℕ) (tag : Tag) (need : List ℕ) (program : Program) (answer : Result Written WriteFault) (then : ℕ) : Type 0 where
  pub writes : BySome begun (λ old new. Writes old tag need program answer new)
  pub written : IfOk answer (IsWritten begun.server need paid)
  pub pays : Pays paid answer then

-- A node serves who has a desk there: what is reported of it is how much the desk was paid. Each answer is one that something gives which may be
-- behind the lock.
abbrev pub desk_steps : Begun → Steps ℕ
desk_steps begun = record {
  list = λ paid. None;
  reads = λ paid need key answer. InSome begun (λ core. Reads core need key answer);
  writes = λ paid tag need program answer then. DeskWrites begun paid tag need program answer then;
  reopens = λ paid answer then. BySome begun (λ old new. ReopensSome old answer new) × (then ≡ paid);
}

-- how a node takes Writes
abbrev pub node_ways : Begun → Ways (Unit {0})
node_ways begun = record { list = λ node. None; takes = TakesAtNode begun }
