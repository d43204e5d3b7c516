-- Why nothing is served, or no more: this project's own.
use Rattle.std.specs.Prelude.{◌≡◌, ◌≢◌, ℕ, Option, None, Some}
use Rattle.bayou_journal.specs.declared.careful.Damage.{Damage}
use Rattle.bayou_serve.specs.declared.fault.ServeFault.{ServeFault}
use Rattle.bayou_serve.specs.declared.fault.ServeFault.TheVariants.{NotOpened, Missing, Present, Device, Damaged, NotAJournal, OtherServer, BadRecord, Gap, LogFull, OwnLost, Lost, MarkFailed, OtherStore, NotALabel, LeftOutFailed, NotRestored, Memory, Port, NoDescriptor, Output}
use Rattle.bayou_serve.specs.declared.fault.Unrestored.TheVariants as why
use Rattle.bayou_serve.specs.declared.plan.Beginning.{Beginning}
use Rattle.bayou_serve.specs.declared.plan.Beginning.TheVariants.{GoOn}
use Rattle.bayou_key_file.specs.declared.fault.LabelFault.{LabelFault}
use Rattle.bayou_key_file.specs.declared.fault.LabelFault.TheVariants as labels
use Rattle.bayou_restore.specs.declared.fault.RestoreFault.{RestoreFault}
use Rattle.bayou_restore.specs.declared.fault.RestoreFault.TheVariants as restores
use Rattle.bayou_server.specs.declared.fault.JournalFault.TheVariants as journals
use Rattle.bayou_server.specs.declared.fault.StartFault.{StartFault}
use Rattle.bayou_server.specs.declared.fault.StartFault.TheVariants as starts
use Rattle.bayou_server.specs.declared.fault.TakeFault.{TakeFault}
use Rattle.bayou_server.specs.declared.fault.TakeFault.TheVariants as takes

-- each but those of memory, of the socket, of descriptors and of the output
abbrev pub IsOfJournal : ServeFault → Type 0
IsOfJournal fault = (fault ≢ Memory) × (fault ≢ Port) × (fault ≢ NoDescriptor) × (fault ≢ Output)

-- A start that was refused is reported by its own name. Where the device refused a cut, the damage is reported in place of the call that failed.
abbrev pub told_as : StartFault → Option Damage → ServeFault
told_as (starts.Journal journals.Device) (Some damage) = Damaged damage
told_as (starts.Journal journals.Device) None = Device
told_as (starts.Journal journals.NotAJournal) damage = NotAJournal
told_as (starts.Journal journals.OtherServer) damage = OtherServer
told_as (starts.BadRecord entry) damage = BadRecord entry
told_as (starts.Gap entry) damage = Gap entry
told_as starts.LogFull damage = LogFull
told_as starts.OutOfMemory damage = Memory

-- a restoring that failed is reported by its own name; a file that isn't empty, though it was cut, is one of which a call failed
abbrev pub unrestored_as : RestoreFault → ServeFault
unrestored_as (restores.Misfit number) = NotRestored (why.Misfit number)
unrestored_as restores.LogFull = NotRestored why.LogFull
unrestored_as restores.Device = NotRestored why.Device
unrestored_as restores.NotEmpty = NotRestored why.Device
unrestored_as restores.OutOfMemory = Memory

-- a Write of this peer that isn't taken is reported by its own name
abbrev pub untaken_as : (peer : ℕ) → TakeFault → ServeFault
untaken_as peer takes.Conflict = NotRestored (why.Conflict peer)
untaken_as peer takes.OwnLost = NotRestored (why.MoreOwn peer)
untaken_as peer takes.Gap = NotRestored (why.Unfit peer)
untaken_as peer takes.BadStamp = NotRestored (why.Unfit peer)
untaken_as peer takes.LogFull = NotRestored why.LogFull
untaken_as peer takes.Down = NotRestored why.Device
untaken_as peer takes.Journal = NotRestored why.Device
untaken_as peer takes.OutOfMemory = Memory

-- what is wrong with a label is reported by its own name
abbrev pub labelled_as : LabelFault → ServeFault
labelled_as (labels.OtherStore name) = OtherStore name
labelled_as labels.NotALabel = NotALabel
labelled_as labels.OutOfMemory = Memory

-- what may end the look for a journal: it is missing only where none is to be made, and in the way only where one is
abbrev pub MayEndLook : Beginning → ServeFault → Type 0
MayEndLook beginning Missing = beginning ≡ GoOn
MayEndLook beginning Present = beginning ≢ GoOn
MayEndLook beginning NotOpened = Unit {0}
MayEndLook beginning _ = ⊥

-- what may end a start: the same, or what the journal or memory is at fault for; no mark, no label and no peer was asked yet, and no socket and no output
-- is there
abbrev pub MayEndStart : Beginning → ServeFault → Type 0
MayEndStart beginning Missing = beginning ≡ GoOn
MayEndStart beginning Present = beginning ≢ GoOn
MayEndStart beginning (OwnLost peer) = ⊥
MayEndStart beginning Lost = ⊥
MayEndStart beginning MarkFailed = ⊥
MayEndStart beginning (OtherStore name) = ⊥
MayEndStart beginning NotALabel = ⊥
MayEndStart beginning LeftOutFailed = ⊥
MayEndStart beginning (NotRestored why) = ⊥
MayEndStart beginning Port = ⊥
MayEndStart beginning NoDescriptor = ⊥
MayEndStart beginning Output = ⊥
MayEndStart beginning _ = Unit {0}

-- What may end a restoring: a journal in the way, or what it wasn't made again for, or memory.
abbrev pub MayEndRestoring : ServeFault → Type 0
MayEndRestoring NotOpened = Unit {0}
MayEndRestoring Present = Unit {0}
MayEndRestoring (NotRestored why) = Unit {0}
MayEndRestoring Memory = Unit {0}
MayEndRestoring _ = ⊥
