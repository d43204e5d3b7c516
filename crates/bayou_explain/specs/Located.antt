-- Which lines tell what.
use Rattle.std.specs.Prelude.{◌≡◌, ℕ, Bool, true, false, List, Some, map, slice_get}
use Rattle.std.specs.Borrow.{Bor}
use Rattle.bayou_base.specs.declared.wid.Wid.{Wid}
use Rattle.bayou_text.specs.Said.{Said, audit_said, entry, held}
use Rattle.bayou_text.specs.Table.{Spells}
use Rattle.bayou_explain.specs.declared.line.Located.{Located}

-- the bytes of lines
abbrev pub bytes_of : List (Bor (List ℕ)) → List (List ℕ)
bytes_of lines = map (λ line. line.now) lines

-- the line stands at its place among these, and spells what it is said to tell
abbrev pub StandsIn : List (List ℕ) → Located → Type 0
StandsIn lines line = (slice_get lines line.at ≡ Some line.bytes.now) × Spells line.bytes.now (audit_said line.told)

-- the entry of the operation at this place of the session
abbrev pub IsOperationAt : (session place : ℕ) → Said → Type 0
IsOperationAt session place (entry told counts) = (told.session.index ≡ session) × (told.place ≡ place)
IsOperationAt session place other = ⊥

-- the Write of this name, as this server holds it
abbrev pub IsHeldBy : ℕ → Wid → Said → Type 0
IsHeldBy server wid (held place write counts) = (place ≡ server) × (write.wid ≡ wid)
IsHeldBy server wid other = ⊥

abbrev pub is_entry : Said → Bool
is_entry (entry told counts) = true
is_entry other = false

-- whether the line tells an entry
abbrev pub tells_entry : Located → Bool
tells_entry line = is_entry (audit_said line.told)
