-- What is made of a server that was started on a copy is an export of the journal.
use Rattle.std.proofs.Common.{◌≡◌, ◌⊎◌, ℕ, List, Result, Ok, Err, IfErr, IfOk, inl}
use Rattle.bayou_device.specs.declared.device.Device.{Ghosts}
use Rattle.bayou_export.specs.Exports.{IsExportOf, rows_with}
use Rattle.bayou_export.specs.declared.journal.Export.{Export}
use Rattle.bayou_export.specs.declared.whose.Whose.{Whose}
use Rattle.bayou_lang.specs.Writes.{count_of}
use Rattle.bayou_log.specs.Replay.{replay}
use Rattle.bayou_renew.specs.Renewing.{IsOnCopy}
use Rattle.bayou_renew.specs.declared.fault.ReadingFault.{ReadingFault}
use Rattle.bayou_renew.specs.declared.fault.ReadingFault.TheVariants.{Memory}
use Rattle.bayou_server.specs.Server.{ServerState}

pub exported : {D : Type 0} (d : Ghosts D) (whose : Whose) (prefix bytes : List ℕ) (server : ServerState D) (result : Result Export ReadingFault)
    → IsOnCopy d whose.id.index whose.count bytes server → IfOk result (λ export. export.server ≡ whose.id) → IfOk result (λ export. export.vector ≡ count_of server.core.held)
    → IfOk result (λ export. export.rows.items ≡ rows_with prefix (replay server.core.held)) → IfOk result (IsExportOf d whose prefix bytes)
exported d whose prefix bytes server (Err fault) copy from vector rows = tt
exported d whose prefix bytes server (Ok export) copy from vector rows = record { server = server; copy = copy; whose_rows = from; vector = vector; rows = rows }

-- where memory alone was wanting
pub memory_alone : (others : ReadingFault → Type 0) (result : Result Export ReadingFault) → IfErr result (λ fault. fault ≡ Memory) → IfErr result (λ fault. (fault ≡ Memory) ⊎ others fault)
memory_alone others (Ok export) only = tt
memory_alone others (Err fault) only = inl only
