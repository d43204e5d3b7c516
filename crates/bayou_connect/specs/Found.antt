-- What is found of sessions on a device: this project's own.
use Rattle.std.specs.Prelude.{◌≡◌, ℕ, List, Option, length}
use Rattle.bayou_client.specs.Operating.{Asking}
use Rattle.bayou_journal.specs.Versions.{Body}
use Rattle.bayou_remember.specs.Memory.{MemoryState, Remembers}

-- of each session the last that the entries of a state file keep, in this run where that has nothing to ask again
abbrev pub IsFound : {D : Type 0} → (run : ℕ) → MemoryState D → List (Option Asking) → Type 0
IsFound run memory sessions = (bodies : List Body) × Remembers run bodies sessions × (memory.entries ≡ length bodies)
