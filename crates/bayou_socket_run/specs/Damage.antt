-- What is reported of journals that are damaged, beside the fault of the run: this project's own.
use Rattle.std.specs.Prelude.{◌≡◌, ◌⊎◌, ℕ, zero, suc, ◌<◌, ◌≤◌, Bool, List, ◌++◌, Option, None, Some, codes, decimal, Result, Ok, Err}
use Rattle.bayou_journal.specs.Careful.{damage_text, entry_text}
use Rattle.bayou_journal.specs.declared.careful.Damage.{Damage}
use Rattle.bayou_journal.specs.declared.careful.DamagedEntry.{DamagedEntry}
use Rattle.bayou_print.specs.declared.ended.Ended.{Ended}
use Rattle.bayou_print.specs.declared.fault.RunFault.{RunFault}
use Rattle.bayou_print.specs.declared.fault.RunFault.TheVariants.{Device}
use Rattle.bayou_print.specs.Telling.{IsPut}
use Rattle.bayou_streams.specs.Account.{Account, TakesFront}

-- the name of a server's journal in a folder
abbrev pub journal_name : (folder : List ℕ) (server : ℕ) → List ℕ
journal_name folder server = folder ++ (codes "/server-" ++ (decimal server ++ codes ".journal"))

-- the line that tells the damage of the file of this name
abbrev pub damage_text_of : (name : List ℕ) → Damage → List ℕ
damage_text_of name damage = codes "bayou: " ++ (name ++ (codes ": " ++ (damage_text damage ++ codes "\n")))

-- nothing was reported, or the damage of the file of this name, or a front of that line
abbrev pub MayTell : (name : List ℕ) → Account → Account → Type 0
MayTell name old new = (new ≡ old) ⊎ ((damage : Damage) × TakesFront old new (damage_text_of name damage))

-- a start that was refused on the file of this name: of one that memory was wanting for nothing is reported
abbrev pub RefusesAt : (name : List ℕ) → RunFault → Account → Account → Type 0
RefusesAt name Device old new = MayTell name old new
RefusesAt name other old new = new ≡ old

-- Only where the device of a server was at fault as it was started something may be reported: the damage of that server's journal.
abbrev pub TellsDamage : RunFault → (folder : List ℕ) (servers : ℕ) → Account → Account → Type 0
TellsDamage Device folder servers old new = (new ≡ old) ⊎ ((server : ℕ) × (server < servers) × MayTell (journal_name folder server) old new)
TellsDamage other folder servers old new = new ≡ old

-- the line that tells of the last entry of the file of this name, which was dropped
abbrev pub entry_text_of : (name : List ℕ) → DamagedEntry → List ℕ
entry_text_of name entry = codes "bayou: " ++ (name ++ (codes ": " ++ (entry_text entry ++ codes "\n")))

-- what is reported of the last entry of the file of this name, where it was dropped: all of that line, but for where the output ends
abbrev pub TellsEntry : (name : List ℕ) → Option DamagedEntry → (old new : Account) → (has_failed : Bool) → Type 0
TellsEntry name None old new has_failed = new ≡ old
TellsEntry name (Some entry) old new has_failed = IsPut (entry_text_of name entry) old new has_failed

-- nothing was reported, or that the last entry of the file of this name was dropped, or a front of that line
abbrev pub MayTellEntry : (name : List ℕ) → Account → Account → Type 0
MayTellEntry name old new = (new ≡ old) ⊎ ((entry : DamagedEntry) × TakesFront old new (entry_text_of name entry))

-- the same of the journals of so many servers, from server 0 on
abbrev pub TellsEntries : (folder : List ℕ) (servers : ℕ) → Account → Account → Type 0
TellsEntries folder zero old new = new ≡ old
TellsEntries folder (suc servers) old new = (between : Account) × TellsEntries folder servers old between × MayTellEntry (journal_name folder servers) between new

-- A start that ended so: some servers were started, and then the device of one may have been at fault.
abbrev pub StopsStart : RunFault → (folder : List ℕ) (servers : ℕ) → Account → Account → Type 0
StopsStart fault folder servers old new = (started : ℕ) × (started ≤ servers) × (between : Account) × TellsEntries folder started old between × TellsDamage fault folder servers between new

-- what is reported beside a run that ended so, all of it while its servers are started
abbrev pub TellsStart : Result Ended RunFault → (folder : List ℕ) (servers : ℕ) → Account → Account → Type 0
TellsStart (Ok ended) folder servers old new = TellsEntries folder servers old new
TellsStart (Err fault) folder servers old new = StopsStart fault folder servers old new
