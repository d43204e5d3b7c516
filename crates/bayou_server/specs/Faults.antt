-- What a journal's refusal is called by a server, and what a server's own is to who asked: this project's own.
use Rattle.bayou_base.specs.declared.refusal.Refusal.{Refusal}
use Rattle.bayou_base.specs.declared.refusal.Refusal.TheVariants as refusals
use Rattle.bayou_journal.specs.declared.fault.OpenFault.{OpenFault}
use Rattle.bayou_journal.specs.declared.fault.OpenFault.TheVariants as opening
use Rattle.bayou_server.specs.declared.fault.JournalFault.{JournalFault}
use Rattle.bayou_server.specs.declared.fault.JournalFault.TheVariants.{Device, NotAJournal, OtherServer}
use Rattle.bayou_server.specs.declared.fault.StartFault.{StartFault}
use Rattle.bayou_server.specs.declared.fault.StartFault.TheVariants as start
use Rattle.bayou_server.specs.declared.fault.ReopenFault.{ReopenFault}
use Rattle.bayou_server.specs.declared.fault.ReopenFault.TheVariants as reopen
use Rattle.bayou_server.specs.declared.fault.WriteFault.{WriteFault}
use Rattle.bayou_server.specs.declared.fault.WriteFault.TheVariants as writing

-- the journal's own word for it
abbrev pub open_fault : JournalFault → OpenFault
open_fault Device = opening.Device
open_fault NotAJournal = opening.NotAJournal
open_fault OtherServer = opening.OtherServer

-- what a start is refused for, where the journal's opening was refused for this
abbrev pub start_fault : OpenFault → StartFault
start_fault opening.Device = start.Journal Device
start_fault opening.NotAJournal = start.Journal NotAJournal
start_fault opening.OtherServer = start.Journal OtherServer
start_fault opening.OutOfMemory = start.OutOfMemory

-- and what a reopening is
abbrev pub reopen_fault : OpenFault → ReopenFault
reopen_fault opening.Device = reopen.Journal Device
reopen_fault opening.NotAJournal = reopen.Journal NotAJournal
reopen_fault opening.OtherServer = reopen.Journal OtherServer
reopen_fault opening.OutOfMemory = reopen.OutOfMemory

-- ---- what who asked hears of it

abbrev pub write_refusal : WriteFault → Refusal
write_refusal writing.TagUsed = refusals.TagUsed
write_refusal writing.Down = refusals.Down
write_refusal (writing.Behind vector) = refusals.Behind vector
write_refusal writing.LogFull = refusals.LogFull
write_refusal writing.OutOfMemory = refusals.OutOfMemory
write_refusal writing.Journal = refusals.Journal

-- whatever fault the journal has, it is reported as one
abbrev pub reopen_refusal : ReopenFault → Refusal
reopen_refusal reopen.NotDown = refusals.NotDown
reopen_refusal (reopen.Journal fault) = refusals.Journal
reopen_refusal reopen.Lost = refusals.Lost
reopen_refusal (reopen.BadRecord at) = refusals.BadRecord at
reopen_refusal reopen.OutOfMemory = refusals.OutOfMemory
