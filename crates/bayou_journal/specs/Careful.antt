-- Cuts that are made and cuts that are refused: this project's own.
use Rattle.std.specs.Prelude.{◌≡◌, ◌⊎◌, ℕ, ◌-◌, ◌<◌, List, ◌++◌, codes, decimal, drop, length, Option, None, Some, if◌then◌else◌, nat_le}
use Rattle.bayou_journal.specs.Torn.{IsTear}
use Rattle.bayou_journal.specs.declared.careful.Damage.{Damage}
use Rattle.bayou_journal.specs.declared.careful.DamagedEntry.{DamagedEntry}
use Rattle.bayou_journal.specs.declared.format.TheConstants.{ENTRY_BYTES, HEADER_BYTES}
use Rattle.bayou_journal.specs.declared.torn.Tear.{Tear}
use Rattle.bayou_journal.specs.declared.torn.Tear.TheVariants.{Unfinished, Whole}

-- what is kept of the bytes that a read gave: how many there were, and the last of them
pub record Ended : Type 0 where
  pub size : ℕ
  pub tail : List ℕ

-- as many of the last as an entry has at the most
abbrev pub end_of : List ℕ → Ended
end_of bytes = record { size = length bytes; tail = drop (length bytes - ENTRY_BYTES) bytes }

-- the bytes after the first `len`, where all of them are kept
abbrev pub behind : Ended → ℕ → Option (List ℕ)
behind ended len =
    if nat_le (ended.size - len) (length ended.tail) then Some (drop (length ended.tail - (ended.size - len)) ended.tail) else None

-- Of so many bytes those go that an append may have left which was cut off: of an entry, or of the header.
abbrev pub IsLeft : (size : ℕ) (bytes : List ℕ) → Tear → Type 0
IsLeft size bytes Unfinished = (size < HEADER_BYTES) ⊎ IsTear bytes Unfinished
IsLeft size bytes Whole = IsTear bytes Whole

-- what is reported of a cut after the first `len` bytes
abbrev pub entry_of : Tear → (len count : ℕ) → Option DamagedEntry
entry_of Unfinished len count = None
entry_of Whole len count = Some (record { start = len; bytes = count })

-- a cut to `len` bytes takes what an append may have left that was cut off; where that is a whole entry, it is reported
pub record IsCareful (read : Option Ended) (len : ℕ) (entry : Option DamagedEntry) : Type 0 where
  pub ended : Ended
  pub was_read : read ≡ Some ended
  pub bytes : List ℕ
  pub goes : behind ended len ≡ Some bytes
  pub tear : Tear
  pub torn : IsLeft ended.size bytes tear
  pub tells : entry ≡ entry_of tear len (length bytes)

-- What a cut would take that was refused is no such thing, and is reported; or it isn't known what was read.
abbrev pub IsDamage : (read : Option Ended) (len : ℕ) (damage : Option Damage) → Type 0
IsDamage None len damage = damage ≡ None
IsDamage (Some ended) len damage =
    ((bytes : List ℕ) (tear : Tear) → behind ended len ≡ Some bytes → ¬ IsLeft ended.size bytes tear)
    × (damage ≡ Some (record { whole = len; behind = ended.size - len }))

-- what damage is reported as
abbrev pub damage_text : Damage → List ℕ
damage_text damage =
    codes "it is whole up to byte " ++ (decimal damage.whole ++ (codes ", and the " ++ (decimal damage.behind ++ codes " bytes behind that are damaged; nothing was changed")))

-- and an entry that was cut, though all its bytes were there
abbrev pub entry_text : DamagedEntry → List ℕ
entry_text entry =
    codes "the last entry is damaged: its " ++ (decimal entry.bytes ++ (codes " bytes from byte " ++ (decimal entry.start ++ codes " on were dropped")))
