-- What becomes of requests at a server that may have no leave to take Writes, as one that lost some of its own: this project's own.
use Rattle.std.specs.Prelude.{◌≡◌, ◌⊎◌, ℕ, List, Result, Err}
use Rattle.bayou_base.specs.declared.tag.Tag.{Tag}
use Rattle.bayou_lang.specs.declared.program.Program.{Program}
use Rattle.bayou_net.specs.Serving.{Steps}
use Rattle.bayou_server.specs.declared.answer.Reopened.{Reopened}
use Rattle.bayou_server.specs.declared.answer.Written.{Written}
use Rattle.bayou_server.specs.declared.fault.ReopenFault.{ReopenFault}
use Rattle.bayou_server.specs.declared.fault.ReopenFault.TheVariants.{Lost}
use Rattle.bayou_server.specs.declared.fault.WriteFault.{WriteFault}
use Rattle.bayou_server.specs.declared.fault.WriteFault.TheVariants.{Down}

-- A program is answered as ever, or, where there is no leave, as by a server that is down, and changes nothing.
abbrev pub WritesOrNot : {S : Type 0} → (S → Tag → List ℕ → Program → Result Written WriteFault → S → Type 0) → S → Tag → List ℕ → Program → Result Written WriteFault → S → Type 0
WritesOrNot writes old tag need program answer new = writes old tag need program answer new ⊎ ((answer ≡ Err Down) × (new ≡ old))

-- A reopening is done as ever, or refused as at a server whose journal lost a Write, and changes nothing.
abbrev pub ReopensOrNot : {S : Type 0} → (S → Result Reopened ReopenFault → S → Type 0) → S → Result Reopened ReopenFault → S → Type 0
ReopensOrNot reopens old answer new = reopens old answer new ⊎ ((answer ≡ Err Lost) × (new ≡ old))

-- what serves so as long as there is leave; reads go on
abbrev pub halting : {S : Type 0} → Steps S → Steps S
halting steps = record {
  list = steps.list;
  reads = steps.reads;
  writes = WritesOrNot steps.writes;
  reopens = ReopensOrNot steps.reopens;
}
