-- The front of an audit file, as it is kept while its lines are checked.
use Rattle.std.specs.Prelude.{◌≡◌, ℕ, ◌<◌, List, [], ◌∷◌, Option, map, slice_index_or}
use Rattle.bayou_text.specs.Said.{Said, servers}
use Rattle.bayou_script.specs.declared.audit_draft.AuditDraft.{AuditDraft}
use Rattle.bayou_script.specs.AuditFile.{dump_told, entries_told}

-- What was said is how many servers there are, and then other lines; it is nothing where there are none.
abbrev pub Counts : ℕ → List Said → Type 0
Counts count [] = count ≡ 0
Counts count (first ∷ others) = (most : Option ℕ) × (0 < count) × (first ≡ servers count most)

-- the draft keeps what was said
pub record IsAuditDraftOf (draft : AuditDraft) (front : List Said) : Type 0 where
  pub counts : Counts draft.count front
  pub entries : draft.entries.items ≡ entries_told front
  pub dumps : (server : ℕ) → server < draft.count → slice_index_or (map (λ dump. dump.items) draft.dumps.items) server [] ≡ dump_told server front
