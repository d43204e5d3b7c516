-- The lines of a dump.
use Rattle.std.specs.Prelude.{◌≡◌, ◌==◌, ℕ, Bool, List, Some, false, length, slice_get, take, true}
use Rattle.std.specs.List.{filter}
use Rattle.bayou_text.specs.Said.{Said, audit_said, entry, held}
use Rattle.bayou_explain.specs.declared.explained.ShownLine.{ShownLine}
use Rattle.bayou_explain.specs.declared.line.Located.{Located}
use Rattle.bayou_explain.specs.Explained.{IsOfLine}

abbrev pub is_held_of : ℕ → Said → Bool
is_held_of server (held place write counts) = place == server
is_held_of server other = false

-- whether the line tells a Write that the server holds
abbrev pub tells_held : ℕ → Located → Bool
tells_held server line = is_held_of server (audit_said line.told)

-- it is the line of the Write at this place of the server's dump, from 0 on
abbrev pub IsHeldNumber : List Located → (server place : ℕ) → ShownLine → Type 0
IsHeldNumber lines server place shown = (at : ℕ) × (line : Located) × (slice_get lines at ≡ Some line) × (tells_held server line ≡ true)
    × (length (filter (tells_held server) (take at lines)) ≡ place) × IsOfLine line shown
