-- Rows that are put into a store: this project's own.
use Rattle.std.specs.Prelude.{◌≡◌, ◌*◌, ◌+◌, ◌<◌, ◌≤◌, ℕ, List, [], Option, None, Some, Result, Ok, Err, map}
use Rattle.bayou_base.specs.declared.limits.TheConstants.{MAX_OPS}
use Rattle.bayou_base.specs.declared.answer.Accepted.{Accepted}
use Rattle.bayou_base.specs.declared.server.ServerId.{ServerId}
use Rattle.bayou_client.specs.Operating.{Asking, asks_at}
use Rattle.bayou_client.specs.declared.fault.LinkFault.{LinkFault}
use Rattle.bayou_client.specs.declared.fault.LinkFault.TheVariants as links
use Rattle.bayou_connect.specs.Listing.{Row}
use Rattle.bayou_connect.specs.declared.fault.ConnectFault.{ConnectFault}
use Rattle.bayou_connect.specs.declared.fault.ConnectFault.TheVariants.{Memory}
use Rattle.bayou_connect.specs.declared.importing.NotPut.{NotPut}
use Rattle.bayou_connect.specs.declared.importing.NotPut.TheVariants.{Lost, Refused}
use Rattle.bayou_lang.specs.declared.program.Op.{Op}
use Rattle.bayou_lang.specs.declared.program.Op.TheVariants.{Put}
use Rattle.bayou_lang.specs.declared.program.Program.{Program}
use Rattle.bayou_lang.specs.declared.program.Term.TheVariants.{Lit}

abbrev pub put_of : Row → Op
put_of row = Put row.0 (Lit row.1)

-- the program puts these rows, whatever the database has
pub record Puts (rows : List Row) (program : Program) : Type 0 where
  pub check : program.check.items ≡ []
  pub update : program.update.items ≡ map put_of rows
  pub merge : program.merge.items ≡ []

-- so many rows take so many Writes, each with as many of them as it may have
abbrev pub TakesWrites : (rows writes : ℕ) → Type 0
TakesWrites rows writes = (rows ≤ MAX_OPS * writes) × (MAX_OPS * writes < rows + MAX_OPS)

-- the session of this run stands after so many Writes, and may ask none of them again
pub record IsBegunAt (run writes : ℕ) (asker : Asking) : Type 0 where
  pub run_is : asker.session.run ≡ run
  pub behind : asker.session.begun ≡ writes
  pub number : asker.session.id.index ≡ 0
  pub asked : asker.asked ≡ None

-- the session of this run asks the server for the Write after so many, which puts these rows
abbrev pub AsksToPut : (run : ℕ) → ServerId → (rows : List Row) → (writes : ℕ) → Asking → Type 0
AsksToPut run server rows writes asker = (begun : Asking) × (program : Program) × IsBegunAt run writes begun × Puts rows program × (asker ≡ asks_at begun server program)

-- why a Write that got this answer wasn't accepted, if it wasn't
abbrev pub stopped_as : Result Accepted LinkFault → Result (Option NotPut) ConnectFault
stopped_as (Ok accepted) = Ok None
stopped_as (Err links.Lost) = Ok (Some Lost)
stopped_as (Err links.BadFrame) = Ok (Some Lost)
stopped_as (Err (links.Refused refusal)) = Ok (Some (Refused refusal))
stopped_as (Err links.OutOfMemory) = Err Memory
