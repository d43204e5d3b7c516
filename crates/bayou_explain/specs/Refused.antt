-- Which condition an entry fails that can't be true.
use Rattle.std.specs.Prelude.{◌≡◌, ◌≢◌, ◌≤◌, ℕ, ⊤, List, Option, None, Some, Contains, MatchOption, length, slice_get, take, true}
use Rattle.std.specs.List.{filter}
use Rattle.bayou_base.specs.declared.asks.Asks.{Asks}
use Rattle.bayou_base.specs.declared.entry.Entry.{Entry}
use Rattle.bayou_base.specs.declared.entry.What.{What}
use Rattle.bayou_base.specs.declared.entry.What.TheVariants as whats
use Rattle.bayou_base.specs.declared.server.ServerId.{ServerId}
use Rattle.bayou_base.specs.declared.stamp.Stamp.{Stamp}
use Rattle.bayou_base.specs.declared.wid.Wid.{Wid}
use Rattle.bayou_judge.specs.Evidence.{TellsOf}
use Rattle.bayou_text.specs.Said.{Said, audit_said, entry, held}
use Rattle.bayou_explain.specs.declared.line.Located.{Located}
use Rattle.bayou_explain.specs.declared.refused.Cause.{Cause}
use Rattle.bayou_explain.specs.declared.refused.Cause.TheVariants as cause
use Rattle.bayou_explain.specs.declared.refused.Forged.{Forged}
use Rattle.bayou_explain.specs.Explained.{IsFound, IsOfLine}
use Rattle.bayou_explain.specs.Located.{IsHeldBy, tells_entry}

-- an entry of the session whose place isn't below this one
abbrev pub IsNotBelow : (session place : ℕ) → Said → Type 0
IsNotBelow session place (entry told counts) = (told.session.index ≡ session) × (place ≤ told.place)
IsNotBelow session place other = ⊥

-- an entry of the session that asks for something else
abbrev pub AsksOther : ℕ → Asks → Said → Type 0
AsksOther session asks (entry told counts) = (told.session.index ≡ session) × (told.asks ≢ asks)
AsksOther session asks other = ⊥

-- an entry that names the Write
abbrev pub NamesWrite : Wid → Said → Type 0
NamesWrite wid (entry told counts) = TellsOf wid told.what
NamesWrite wid other = ⊥

-- the Write of this name, as this server holds it, with another stamp or another past
abbrev pub IsHeldOtherwise : ℕ → Wid → Stamp → List ℕ → Said → Type 0
IsHeldOtherwise server wid stamp deps (held place write counts) =
    (place ≡ server) × (write.wid ≡ wid) × ¬ ((write.stamp ≡ stamp) × (write.deps ≡ deps))
IsHeldOtherwise server wid stamp deps other = ⊥

-- What is wrong with what an entry of this server tells, after these lines: it names a Write of another server; an earlier entry names it too; the
-- server's dump hasn't it, or has it with another stamp or past; or it is a read.
abbrev pub IsCauseOf : (before lines : List Located) → ServerId → What → Cause → Type 0
IsCauseOf before lines server (whats.Write wid stamp deps) cause.Origin = wid.origin.index ≢ server.index
IsCauseOf before lines server (whats.Write wid stamp deps) (cause.Again shown) = IsFound before (NamesWrite wid) (Some shown)
IsCauseOf before lines server (whats.Write wid stamp deps) cause.Lost = IsFound lines (IsHeldBy server.index wid) None
IsCauseOf before lines server (whats.Write wid stamp deps) (cause.Differs shown) = IsFound lines (IsHeldOtherwise server.index wid stamp deps) (Some shown)
IsCauseOf before lines server (whats.Read key vector) cause.Database = ⊤
IsCauseOf before lines server what other = ⊥

-- Which condition the entry fails after these lines: its place isn't above an earlier one of its session, its session asked for something else before,
-- or something is wrong with what it tells.
abbrev pub IsCause : (before lines : List Located) → Entry → Cause → Type 0
IsCause before lines tried (cause.Place shown) = IsFound before (IsNotBelow tried.session.index tried.place) (Some shown)
IsCause before lines tried (cause.Asks shown) = IsFound before (AsksOther tried.session.index tried.asks) (Some shown)
IsCause before lines tried other = IsCauseOf before lines tried.server tried.what other

-- the lines show nothing against what an entry of this server tells, after these; of a read they always show that it isn't so
abbrev pub IsSound : (before lines : List Located) → ServerId → What → Type 0
IsSound before lines server (whats.Write wid stamp deps) = (wid.origin.index ≡ server.index) × IsFound before (NamesWrite wid) None
    × ((line : Located) × Contains lines line × IsHeldBy server.index wid (audit_said line.told)) × IsFound lines (IsHeldOtherwise server.index wid stamp deps) None
IsSound before lines server (whats.Read key vector) = ⊥
IsSound before lines server whats.Refused = ⊤

-- the lines show no condition that the entry fails after these
abbrev pub IsBlameless : (before lines : List Located) → Entry → Type 0
IsBlameless before lines tried = IsFound before (IsNotBelow tried.session.index tried.place) None
    × IsFound before (AsksOther tried.session.index tried.asks) None × IsSound before lines tried.server tried.what

-- the line at this place is the entry of this number
abbrev pub IsEntryNumber : List Located → (number at : ℕ) → Type 0
IsEntryNumber lines number at = (line : Located) × (slice_get lines at ≡ Some line) × (tells_entry line ≡ true)
    × (length (filter tells_entry (take at lines)) ≡ number)

-- the entry of this number, and the condition that it fails first, if the lines show one
abbrev pub IsForged : List Located → ℕ → Forged → Type 0
IsForged lines number forged = (at : ℕ) × (line : Located) × (told : Entry) × (counts : Option ℕ) × (slice_get lines at ≡ Some line)
    × (audit_said line.told ≡ entry told counts) × (length (filter tells_entry (take at lines)) ≡ number) × IsOfLine line forged.entry
    × MatchOption forged.cause (IsBlameless (take at lines) lines told) (IsCause (take at lines) lines told)
