-- Why no line more is done, and which file is at fault: this project's own.
use Rattle.std.specs.Prelude.{◌≡◌, ◌⊎◌, Bool, true, false, if◌then◌else◌, List, Option, None, Some, ℕ}
use Rattle.bayou_connect.specs.declared.fault.ConnectFault.{ConnectFault}
use Rattle.bayou_connect.specs.declared.fault.ConnectFault.TheVariants.{Input, LinesNotOpened, Output, Memory, StateNotOpened, NotAState, StateDamaged, State, OtherStore, NotALabel, Views, BookNotOpened, Book}
use Rattle.bayou_connect.specs.declared.lines.InputFault.{InputFault}
use Rattle.bayou_connect.specs.declared.lines.InputFault.TheVariants as lines
use Rattle.bayou_journal.specs.declared.careful.Damage.{Damage}
use Rattle.bayou_journal.specs.declared.fault.OpenFault.TheVariants as opening
use Rattle.bayou_key_file.specs.declared.fault.LabelFault.{LabelFault}
use Rattle.bayou_key_file.specs.declared.fault.LabelFault.TheVariants as labels
use Rattle.bayou_print.specs.declared.fault.RunFault.{RunFault}
use Rattle.bayou_print.specs.declared.fault.RunFault.TheVariants as runs
use Rattle.bayou_remember.specs.declared.memory.KeepFault.{KeepFault}
use Rattle.bayou_remember.specs.declared.memory.KeepFault.TheVariants as keeping
use Rattle.bayou_remember.specs.declared.memory.RememberFault.{RememberFault}
use Rattle.bayou_remember.specs.declared.memory.RememberFault.TheVariants as remembering

-- it is the state file's, or that of the label beside it
abbrev pub is_of_state : ConnectFault → Bool
is_of_state StateNotOpened = true
is_of_state NotAState = true
is_of_state (StateDamaged whole behind) = true
is_of_state State = true
is_of_state (OtherStore name) = true
is_of_state NotALabel = true
is_of_state Views = true
is_of_state _ = false

-- it is the book's
abbrev pub is_of_book : ConnectFault → Bool
is_of_book BookNotOpened = true
is_of_book Book = true
is_of_book _ = false

-- it is that of the file of lines
abbrev pub is_of_lines : ConnectFault → Bool
is_of_lines LinesNotOpened = true
is_of_lines _ = false

-- the name of the file that is at fault, by the names that these have, if one is
abbrev pub file_at_fault : (state book lines : Option (List ℕ)) → ConnectFault → Option (List ℕ)
file_at_fault state book lines fault =
    if is_of_state fault then state
    else if is_of_book fault then book
    else if is_of_lines fault then lines
    else None

-- what is wrong with a label is reported by its own name
abbrev pub labelled_as : LabelFault → ConnectFault
labelled_as (labels.OtherStore name) = OtherStore name
labelled_as labels.NotALabel = NotALabel
labelled_as labels.OutOfMemory = Memory

-- so is why no line came
abbrev pub unread_as : InputFault → ConnectFault
unread_as lines.Input = Input
unread_as lines.OutOfMemory = Memory

-- what wasn't printed is the output's fault, but for memory
abbrev pub unprinted_as : RunFault → ConnectFault
unprinted_as runs.Memory = Memory
unprinted_as runs.Input = Input
unprinted_as _ = Output

-- The fault of an unusable state file says what is wrong with it. Where the device refused a cut, the damage is reported in place of the call that failed.
abbrev pub forgotten_as : RememberFault → Option Damage → ConnectFault
forgotten_as (remembering.Journal opening.Device) (Some damage) = StateDamaged damage.whole damage.behind
forgotten_as (remembering.Journal opening.Device) None = State
forgotten_as (remembering.Journal opening.NotAJournal) damage = NotAState
forgotten_as (remembering.Journal opening.OtherServer) damage = NotAState
forgotten_as (remembering.Journal opening.OutOfMemory) damage = Memory
forgotten_as (remembering.NotKept place) damage = NotAState
forgotten_as remembering.OutOfMemory damage = Memory

-- a session that wasn't kept is a call of the state file that failed, or want of memory
abbrev pub unkept_as : KeepFault → ConnectFault
unkept_as keeping.Device = State
unkept_as keeping.TooLong = State
unkept_as keeping.OutOfMemory = Memory

-- the state file is at fault, or memory
abbrev pub IsStateFault : ConnectFault → Type 0
IsStateFault fault = (is_of_state fault ≡ true) ⊎ (fault ≡ Memory)

-- the book is at fault, or memory
abbrev pub IsBookFault : ConnectFault → Type 0
IsBookFault fault = (is_of_book fault ≡ true) ⊎ (fault ≡ Memory)
