-- What is told of servers that start, and of one that doesn't.
use Rattle.std.proofs.Common.{◌≡◌, ℕ, suc, ◌+◌, ◌<◌, ◌≤◌, Bool, List, [], Option, None, Some, Result, Ok, Err, arith, inl, inr, refl, subst, sym}
use Rattle.std.proofs.lemmas.List.{append-nil}
use Rattle.bayou_journal.specs.declared.careful.DamagedEntry.{DamagedEntry}
use Rattle.bayou_print.specs.declared.fault.RunFault.{RunFault}
use Rattle.bayou_print.specs.declared.fault.RunFault.TheVariants.{Line, Memory, Device, Network, Input, Output}
use Rattle.bayou_print.specs.declared.ended.Ended.{Ended}
use Rattle.bayou_socket_run.specs.Damage.{MayTell, MayTellEntry, RefusesAt, StopsStart, TellsDamage, TellsEntries, TellsEntry, TellsStart, entry_text_of, journal_name}
use Rattle.bayou_streams.specs.Account.{Account}

pub refusal_told : (fault : RunFault) (name folder : List ℕ) (server servers : ℕ) (old new : Account) → server < servers → name ≡ journal_name folder server
    → RefusesAt name fault old new → TellsDamage fault folder servers old new
refusal_told (Line number why) name folder server servers old new among is told = told
refusal_told Memory name folder server servers old new among is told = told
refusal_told Device name folder server servers old new among is told = inr (server, among, subst (λ (l : List ℕ). MayTell l old new) is told)
refusal_told Network name folder server servers old new among is told = told
refusal_told Input name folder server servers old new among is told = told
refusal_told Output name folder server servers old new among is told = told

-- nothing is told of a server that isn't started any more
pub nothing_damaged : (fault : RunFault) (folder : List ℕ) (servers : ℕ) (now : Account) → TellsDamage fault folder servers now now
nothing_damaged (Line number why) folder servers now = refl
nothing_damaged Memory folder servers now = refl
nothing_damaged Device folder servers now = inl refl
nothing_damaged Network folder servers now = refl
nothing_damaged Input folder servers now = refl
nothing_damaged Output folder servers now = refl

-- what was told of a last entry, if one was dropped, is that line, a front of it, or nothing
pub entry_told : (name : List ℕ) (entry : Option DamagedEntry) (old new : Account) (has_failed : Bool) → TellsEntry name entry old new has_failed → MayTellEntry name old new
entry_told name None old new has_failed same = inl same
entry_told name (Some entry) old new has_failed (inl whole) = inr (entry, (entry_text_of name entry, [], sym (append-nil (entry_text_of name entry)), whole))
entry_told name (Some entry) old new has_failed (inr part) = inr (entry, part.0)

-- one more server was started
pub one_more_started : (name folder : List ℕ) (server : ℕ) (old between new : Account) → name ≡ journal_name folder server → TellsEntries folder server old between → MayTellEntry name between new
    → TellsEntries folder (server + 1) old new
one_more_started name folder server old between new is so told =
    let more : suc server ≡ server + 1 = omega arith in
    subst (λ (n : ℕ). TellsEntries folder n old new) more (between, so, subst (λ (l : List ℕ). MayTellEntry l between new) is told)

-- the start stops where so many were started
pub stopped : (fault : RunFault) (folder : List ℕ) (started servers : ℕ) (old between new : Account) → started ≤ servers → TellsEntries folder started old between → TellsDamage fault folder servers between new
    → StopsStart fault folder servers old new
stopped fault folder started servers old between new few so told = (started, few, between, so, told)

-- or once all were
pub stopped_behind_all : (fault : RunFault) (folder : List ℕ) (servers : ℕ) (old new : Account) → TellsEntries folder servers old new → StopsStart fault folder servers old new
stopped_behind_all fault folder servers old new so = (servers, omega arith, new, so, nothing_damaged fault folder servers new)

-- and however the run ended behind that
pub ended_so : (ended : Result Ended RunFault) (folder : List ℕ) (servers : ℕ) (old new : Account) → TellsEntries folder servers old new → TellsStart ended folder servers old new
ended_so (Ok ended) folder servers old new so = so
ended_so (Err fault) folder servers old new so = stopped_behind_all fault folder servers old new so
