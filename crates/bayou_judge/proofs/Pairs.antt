-- Two entries that have a fault are two operations that violate the guarantee, and the other way round.
use Rattle.std.proofs.Common.{◌≡◌, ℕ, true, List, Contains, sym, refl, subst}
use Rattle.bayou_base.specs.declared.entry.Entry.{Entry}
use Rattle.bayou_base.specs.declared.entry.What.{What}
use Rattle.bayou_base.specs.declared.entry.What.TheVariants as whats
use Rattle.bayou_base.specs.declared.wid.Wid.{Wid}
use Rattle.bayou_lang.specs.declared.write.Write.{Write}
use Rattle.bayou_judge.specs.declared.breach.Guarantee.{Guarantee}
use Rattle.bayou_judge.specs.declared.breach.Guarantee.TheVariants as guarantees
use Rattle.bayou_judge.specs.Breaches.{Violates}
use Rattle.bayou_judge.specs.Guarantees.{PrecedesIn}
use Rattle.bayou_judge.specs.History.{dump_of, history_of, IsEntryAt, IsFrontOf, IsReadFrom, IsWriteOf}
use Rattle.bayou_judge.specs.Inner.Needs.{is_first, is_second, Fails, Lacks, Tells}

-- a database that the operation read and that has the Write
abbrev Saw : List Write → What → Write → Type 0
Saw dump what write = (database : List Write) × IsReadFrom dump what database × Contains database write

-- how an earlier operation told of a Write, by the guarantee
abbrev ToldAs : Guarantee → List Write → What → Write → Type 0
ToldAs guarantees.ReadYourWrites = IsWriteOf
ToldAs guarantees.MonotonicReads = Saw
ToldAs guarantees.WritesFollowReads = Saw
ToldAs guarantees.MonotonicWrites = IsWriteOf

told_as : (guarantee : Guarantee) (dump : List Write) (what : What) (write : Write) → is_first guarantee what ≡ true → Tells dump what write → ToldAs guarantee dump what write
told_as guarantees.ReadYourWrites dump (whats.Read key vector) write is told = absurd (cc)
told_as guarantees.ReadYourWrites dump (whats.Write wid stamp deps) write is told = told
told_as guarantees.ReadYourWrites dump whats.Refused write is told = absurd told
told_as guarantees.MonotonicReads dump (whats.Read key vector) write is told = told
told_as guarantees.MonotonicReads dump (whats.Write wid stamp deps) write is told = absurd (cc)
told_as guarantees.MonotonicReads dump whats.Refused write is told = absurd told
told_as guarantees.WritesFollowReads dump (whats.Read key vector) write is told = told
told_as guarantees.WritesFollowReads dump (whats.Write wid stamp deps) write is told = absurd (cc)
told_as guarantees.WritesFollowReads dump whats.Refused write is told = absurd told
told_as guarantees.MonotonicWrites dump (whats.Read key vector) write is told = absurd (cc)
told_as guarantees.MonotonicWrites dump (whats.Write wid stamp deps) write is told = told
told_as guarantees.MonotonicWrites dump whats.Refused write is told = absurd told

from_told : (guarantee : Guarantee) (dump : List Write) (what : What) (write : Write) → ToldAs guarantee dump what write → (is_first guarantee what ≡ true) × Tells dump what write
from_told guarantees.ReadYourWrites dump (whats.Read key vector) write told = absurd told
from_told guarantees.ReadYourWrites dump (whats.Write wid stamp deps) write told = (refl, told)
from_told guarantees.ReadYourWrites dump whats.Refused write told = absurd told
from_told guarantees.MonotonicReads dump (whats.Read key vector) write told = (refl, told)
from_told guarantees.MonotonicReads dump (whats.Write wid stamp deps) write told = absurd told.1
from_told guarantees.MonotonicReads dump whats.Refused write told = absurd told.1
from_told guarantees.WritesFollowReads dump (whats.Read key vector) write told = (refl, told)
from_told guarantees.WritesFollowReads dump (whats.Write wid stamp deps) write told = absurd told.1
from_told guarantees.WritesFollowReads dump whats.Refused write told = absurd told.1
from_told guarantees.MonotonicWrites dump (whats.Read key vector) write told = absurd told
from_told guarantees.MonotonicWrites dump (whats.Write wid stamp deps) write told = (refl, told)
from_told guarantees.MonotonicWrites dump whats.Refused write told = absurd told

-- the read lacks the Write
abbrev Missed : List (List Write) → ℕ → What → ℕ → Write → Type 0
Missed dumps home what server write = (home ≡ server) × ((database : List Write) × IsReadFrom (dump_of dumps server) what database × ¬ Contains database write)

-- the Write that it follows fails to precede it
abbrev Late : List (List Write) → ℕ → What → ℕ → Write → Type 0
Late dumps home what server write = (later : Write) × IsWriteOf (dump_of dumps home) what later × ((database : List Write) × IsFrontOf (dump_of dumps server) database × ¬ PrecedesIn database write later)

-- how a later operation lacks a Write, by the guarantee
abbrev LacksAs : Guarantee → List (List Write) → ℕ → What → ℕ → Write → Type 0
LacksAs guarantees.ReadYourWrites = Missed
LacksAs guarantees.MonotonicReads = Missed
LacksAs guarantees.WritesFollowReads = Late
LacksAs guarantees.MonotonicWrites = Late

lacks_as : (guarantee : Guarantee) (dumps : List (List Write)) (home : ℕ) (what : What) (server : ℕ) (write : Write) → is_second guarantee what ≡ true → Lacks dumps home what server write → LacksAs guarantee dumps home what server write
lacks_as guarantees.ReadYourWrites dumps home (whats.Read key vector) server write is lacks = lacks
lacks_as guarantees.ReadYourWrites dumps home (whats.Write wid stamp deps) server write is lacks = absurd (cc)
lacks_as guarantees.ReadYourWrites dumps home whats.Refused server write is lacks = absurd lacks
lacks_as guarantees.MonotonicReads dumps home (whats.Read key vector) server write is lacks = lacks
lacks_as guarantees.MonotonicReads dumps home (whats.Write wid stamp deps) server write is lacks = absurd (cc)
lacks_as guarantees.MonotonicReads dumps home whats.Refused server write is lacks = absurd lacks
lacks_as guarantees.WritesFollowReads dumps home (whats.Read key vector) server write is lacks = absurd (cc)
lacks_as guarantees.WritesFollowReads dumps home (whats.Write wid stamp deps) server write is lacks = lacks
lacks_as guarantees.WritesFollowReads dumps home whats.Refused server write is lacks = absurd lacks
lacks_as guarantees.MonotonicWrites dumps home (whats.Read key vector) server write is lacks = absurd (cc)
lacks_as guarantees.MonotonicWrites dumps home (whats.Write wid stamp deps) server write is lacks = lacks
lacks_as guarantees.MonotonicWrites dumps home whats.Refused server write is lacks = absurd lacks

from_lacks : (guarantee : Guarantee) (dumps : List (List Write)) (home : ℕ) (what : What) (server : ℕ) (write : Write) → LacksAs guarantee dumps home what server write → (is_second guarantee what ≡ true) × Lacks dumps home what server write
from_lacks guarantees.ReadYourWrites dumps home (whats.Read key vector) server write lacks = (refl, lacks)
from_lacks guarantees.ReadYourWrites dumps home (whats.Write wid stamp deps) server write lacks = absurd lacks.1.1
from_lacks guarantees.ReadYourWrites dumps home whats.Refused server write lacks = absurd lacks.1.1
from_lacks guarantees.MonotonicReads dumps home (whats.Read key vector) server write lacks = (refl, lacks)
from_lacks guarantees.MonotonicReads dumps home (whats.Write wid stamp deps) server write lacks = absurd lacks.1.1
from_lacks guarantees.MonotonicReads dumps home whats.Refused server write lacks = absurd lacks.1.1
from_lacks guarantees.WritesFollowReads dumps home (whats.Read key vector) server write lacks = absurd lacks.1
from_lacks guarantees.WritesFollowReads dumps home (whats.Write wid stamp deps) server write lacks = (refl, lacks)
from_lacks guarantees.WritesFollowReads dumps home whats.Refused server write lacks = absurd lacks.1
from_lacks guarantees.MonotonicWrites dumps home (whats.Read key vector) server write lacks = absurd lacks.1
from_lacks guarantees.MonotonicWrites dumps home (whats.Write wid stamp deps) server write lacks = (refl, lacks)
from_lacks guarantees.MonotonicWrites dumps home whats.Refused server write lacks = absurd lacks.1

-- two entries of the session at these places, of which the guarantee speaks, have the fault
pub record HaveFault (entries : List Entry) (dumps : List (List Write)) (guarantee : Guarantee) (session first second server : ℕ) (wid : Wid) : Type 0 where
  pub one : Entry
  pub other : Entry
  pub one_at : IsEntryAt entries session first one
  pub other_at : IsEntryAt entries session second other
  pub one_is : is_first guarantee one.what ≡ true
  pub other_is : is_second guarantee other.what ≡ true
  pub fails : Fails dumps one other server wid

-- from how they do
have_fault : (entries : List Entry) (dumps : List (List Write)) (guarantee : Guarantee) (session first second server : ℕ) (one other : Entry) (write : Write) (wid : Wid)
    → IsEntryAt entries session first one → IsEntryAt entries session second other → write.wid ≡ wid → ToldAs guarantee (dump_of dumps one.server.index) one.what write
    → LacksAs guarantee dumps other.server.index other.what server write → HaveFault entries dumps guarantee session first second server wid
have_fault entries dumps guarantee session first second server one other write wid one_at other_at named told lacks =
    let by_first = from_told guarantee (dump_of dumps one.server.index) one.what write told in
    let by_second = from_lacks guarantee dumps other.server.index other.what server write lacks in
    record { one = one; other = other; one_at = one_at; other_at = other_at; one_is = by_first.0; other_is = by_second.0; fails = (write, by_first.1, named, by_second.1) }

read_at_home : (dumps : List (List Write)) (home server : ℕ) (what : What) (database : List Write) → home ≡ server → IsReadFrom (dump_of dumps server) what database → IsReadFrom (dump_of dumps home) what database
read_at_home dumps home server what database same from = subst (λ s. IsReadFrom (dump_of dumps s) what database) (sym same) from

pub fault_of_violation : (entries : List Entry) (dumps : List (List Write)) (guarantee : Guarantee) (session first second server : ℕ) (wid : Wid)
    → Violates (history_of entries dumps) guarantee session first second server wid → HaveFault entries dumps guarantee session first second server wid
fault_of_violation entries dumps guarantees.ReadYourWrites session first second server wid (write, database, wrote, read, named, lacks) =
    have_fault entries dumps guarantees.ReadYourWrites session first second server wrote.0 read.0 write wid wrote.1 read.1 named wrote.2 (read.2, (database, read.3, lacks))
fault_of_violation entries dumps guarantees.MonotonicReads session first second server wid (other, earlier, later, write, saw, read, has, named, lacks) =
    have_fault entries dumps guarantees.MonotonicReads session first second server saw.0 read.0 write wid saw.1 read.1 named
    (earlier, read_at_home dumps saw.0.server.index other saw.0.what earlier saw.2 saw.3, has) (read.2, (later, read.3, lacks))
fault_of_violation entries dumps guarantees.WritesFollowReads session first second server wid (other, database, write, earlier, saw, wrote, has, named, fails) =
    have_fault entries dumps guarantees.WritesFollowReads session first second server saw.0 wrote.0 earlier wid saw.1 wrote.1 named
    (database, read_at_home dumps saw.0.server.index other saw.0.what database saw.2 saw.3, has) (write, wrote.2, fails)
fault_of_violation entries dumps guarantees.MonotonicWrites session first second server wid (earlier, later, one, other, named, fails) =
    have_fault entries dumps guarantees.MonotonicWrites session first second server one.0 other.0 earlier wid one.1 other.1 named one.2 (later, other.2, fails)

pub violation_of_fault : (entries : List Entry) (dumps : List (List Write)) (guarantee : Guarantee) (session first second server : ℕ) (wid : Wid)
    → HaveFault entries dumps guarantee session first second server wid → Violates (history_of entries dumps) guarantee session first second server wid
violation_of_fault entries dumps guarantees.ReadYourWrites session first second server wid both =
    let told = told_as guarantees.ReadYourWrites (dump_of dumps both.one.server.index) both.one.what both.fails.0 both.one_is both.fails.1 in
    let lacks = lacks_as guarantees.ReadYourWrites dumps both.other.server.index both.other.what server both.fails.0 both.other_is both.fails.3 in
    (both.fails.0, lacks.1.0, (both.one, both.one_at, told), (both.other, both.other_at, lacks.0, lacks.1.1), both.fails.2, lacks.1.2)
violation_of_fault entries dumps guarantees.MonotonicReads session first second server wid both =
    let told = told_as guarantees.MonotonicReads (dump_of dumps both.one.server.index) both.one.what both.fails.0 both.one_is both.fails.1 in
    let lacks = lacks_as guarantees.MonotonicReads dumps both.other.server.index both.other.what server both.fails.0 both.other_is both.fails.3 in
    (both.one.server.index, told.0, lacks.1.0, both.fails.0, (both.one, both.one_at, refl, told.1), (both.other, both.other_at, lacks.0, lacks.1.1), told.2, both.fails.2, lacks.1.2)
violation_of_fault entries dumps guarantees.WritesFollowReads session first second server wid both =
    let told = told_as guarantees.WritesFollowReads (dump_of dumps both.one.server.index) both.one.what both.fails.0 both.one_is both.fails.1 in
    let lacks = lacks_as guarantees.WritesFollowReads dumps both.other.server.index both.other.what server both.fails.0 both.other_is both.fails.3 in
    (both.one.server.index, told.0, lacks.0, both.fails.0, (both.one, both.one_at, refl, told.1), (both.other, both.other_at, lacks.1), told.2, both.fails.2, lacks.2)
violation_of_fault entries dumps guarantees.MonotonicWrites session first second server wid both =
    let told = told_as guarantees.MonotonicWrites (dump_of dumps both.one.server.index) both.one.what both.fails.0 both.one_is both.fails.1 in
    let lacks = lacks_as guarantees.MonotonicWrites dumps both.other.server.index both.other.what server both.fails.0 both.other_is both.fails.3 in
    (both.fails.0, lacks.0, (both.one, both.one_at, told), (both.other, both.other_at, lacks.1), both.fails.2, lacks.2)
