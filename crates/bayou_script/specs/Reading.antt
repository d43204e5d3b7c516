-- Texts that are read piece by piece.
use Rattle.std.specs.Prelude.{◌≡◌, ◌+◌, ℕ, List, [], ◌∷◌, ◌++◌, length}
use Rattle.std.specs.List.{onto_first}
use Rattle.bayou_text.specs.Said.{Said}
use Rattle.bayou_script.specs.declared.fault.InputRefusal.{InputRefusal}
use Rattle.bayou_script.specs.declared.audit_draft.AuditDraft.{AuditDraft}
use Rattle.bayou_script.specs.declared.draft.Draft.{Draft}
use Rattle.bayou_script.specs.declared.network_draft.NetworkDraft.{NetworkDraft}
use Rattle.bayou_script.specs.declared.text.TextReader.{TextReader}
use Rattle.bayou_script.specs.AuditFile.{audit_order}
use Rattle.bayou_script.specs.Inner.AuditDraft.{IsAuditDraftOf}
use Rattle.bayou_script.specs.Inner.Draft.{IsDraftOf}
use Rattle.bayou_script.specs.Inner.NetworkDraft.{IsNetworkDraftOf}
use Rattle.bayou_script.specs.Network.{network_order}
use Rattle.bayou_script.specs.Order.{InOrderBy, Order, RefusedBy, lines_of}
use Rattle.bayou_script.specs.Script.{script_order}

-- lines, of which the first is begun by these bytes
abbrev pub begun_by : List ℕ → List (List ℕ) → List (List ℕ)
begun_by [] lines = lines
begun_by (byte ∷ bytes) lines = onto_first byte (begun_by bytes lines)

-- The reader was given these bytes: the lines that have ended are in order, what they say is kept, and the last one has come so
-- far, whatever follows.
pub record HasReadBy {F : Type 0} (order : Order) (keeps : F → List Said → Type 0) (reader : TextReader F) (bytes : List ℕ) : Type 0 where
  pub ended : List (List ℕ)
  pub front : List Said
  pub cut : (more : List ℕ) → lines_of (bytes ++ more) ≡ ended ++ begun_by reader.line.items (lines_of more)
  pub number : reader.number ≡ length ended + 1
  pub in_order : InOrderBy order ended front
  pub kept : keeps reader.front front

abbrev pub HasRead : TextReader Draft → List ℕ → Type 0
HasRead reader bytes = HasReadBy script_order IsDraftOf reader bytes

abbrev pub HasReadNetwork : TextReader NetworkDraft → List ℕ → Type 0
HasReadNetwork reader bytes = HasReadBy network_order IsNetworkDraftOf reader bytes

abbrev pub HasReadAudit : TextReader AuditDraft → List ℕ → Type 0
HasReadAudit reader bytes = HasReadBy audit_order IsAuditDraftOf reader bytes

-- the lines are refused so, whatever follows these bytes
abbrev pub IsRefusedSoFar : Order → List ℕ → InputRefusal → Type 0
IsRefusedSoFar order bytes refusal = (more : List ℕ) → RefusedBy order (lines_of (bytes ++ more)) refusal

abbrev pub RefusedSoFar : List ℕ → InputRefusal → Type 0
RefusedSoFar bytes refusal = IsRefusedSoFar script_order bytes refusal
