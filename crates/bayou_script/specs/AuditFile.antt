-- Audit files: what was served, and what was held, each line in its place.
use Rattle.std.specs.Prelude.{◌≡◌, if◌then◌else◌, ℕ, ◌<◌, ◌==◌, false, ◌&&◌, List, [], ◌∷◌, Option, None, Some, length, map, nat_lt, slice_index_or, unwrap_or}
use Rattle.std.specs.List.{filter_map}
use Rattle.bayou_base.specs.declared.entry.Entry.{Entry}
use Rattle.bayou_base.specs.declared.limits.TheConstants.{MAX_ENTRIES}
use Rattle.bayou_lang.specs.declared.write.Write.{Write}
use Rattle.bayou_text.specs.Said.{Said, servers, entry, held}
use Rattle.bayou_script.specs.declared.audit.AuditFile.{AuditFile}
use Rattle.bayou_script.specs.declared.fault.ScriptFault.{ScriptFault}
use Rattle.bayou_script.specs.Order.{InOrderBy, IsRefusedBy, Order}
use Rattle.bayou_script.specs.Script.{started}

-- what an audit file says: how many servers there are, what became of each operation, and what each server holds
pub record Evidence : Type 0 where
  pub count : ℕ
  pub entries : List Entry
  pub dumps : List (List Write)

-- the entry that a line tells, if it is one
abbrev pub entry_told : Said → Option Entry
entry_told (entry what counts) = Some what
entry_told other = None

-- the Write that this server holds, if a line tells one
abbrev pub write_told : ℕ → Said → Option Write
write_told server (held place write counts) = if place == server then Some write else None
write_told server other = None

-- the entries, in the order of their lines
abbrev pub entries_told : List Said → List Entry
entries_told front = filter_map entry_told front

-- what this server holds, in the order of the lines
abbrev pub dump_told : ℕ → List Said → List Write
dump_told server front = filter_map (write_told server) front

-- Whether a line of an audit file may say this after what was said before: `servers` comes first, and once; an entry is of a
-- server that there is, and one of so many at the most; what is held is held and was accepted by servers that there are; and
-- each vector has a count for each server.
abbrev pub audit_order : Order
audit_order number front (servers count most) = length front == 0
audit_order number front (entry what counts) = nat_lt what.server.index (started front)
    && (unwrap_or counts (started front) == started front && nat_lt (length (entries_told front)) MAX_ENTRIES)
audit_order number front (held place write counts) = nat_lt place (started front)
    && (nat_lt write.wid.origin.index (started front) && counts == started front)
audit_order number front other = false

-- the lines of an audit file are in order, and say this
abbrev pub InAuditOrder : List (List ℕ) → List Said → Type 0
InAuditOrder lines front = InOrderBy audit_order lines front

-- the lines are no audit file: this one is the least with a fault
abbrev pub IsAuditRefused : List (List ℕ) → ℕ → ScriptFault → Type 0
IsAuditRefused lines number fault = IsRefusedBy audit_order lines number fault

-- The lines are an audit file of this evidence. How many Writes a server may hold is said for nothing.
pub record IsAuditFile (lines : List (List ℕ)) (evidence : Evidence) : Type 0 where
  pub most : Option ℕ
  pub others : List Said
  pub in_order : InAuditOrder lines (servers evidence.count most ∷ others)
  pub entries : evidence.entries ≡ entries_told others
  pub one_each : length evidence.dumps ≡ evidence.count
  pub dumps : (server : ℕ) → server < evidence.count → slice_index_or evidence.dumps server [] ≡ dump_told server others

-- the evidence of a file that was read
abbrev pub evidence_of : AuditFile → Evidence
evidence_of file = record { count = file.count; entries = file.entries.items; dumps = map (λ dump. dump.items) file.dumps.items }
