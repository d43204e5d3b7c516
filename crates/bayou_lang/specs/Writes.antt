-- Lists and sets of Writes.
use Rattle.std.specs.Prelude.{◌≡◌, ◌≢◌, ◌↔◌, ℕ, ◌+◌, ◌<◌, ◌≤◌, List, [], ◌∷◌, ◌++◌, All, AllPairs, Any, Contains, filter, max, nat_le, replicate, slice_index, slice_set, nat_lt, if◌then◌else◌}
use Rattle.bayou_base.specs.declared.limits.TheConstants.{SERVERS}
use Rattle.bayou_base.specs.declared.stamp.Stamp.{Stamp}
use Rattle.bayou_base.specs.declared.wid.Wid.{Wid}
use Rattle.bayou_base.specs.Order.{is_before}
use Rattle.bayou_base.specs.Vector.{Dominates, raised}
use Rattle.bayou_lang.specs.declared.program.Program.{Program}
use Rattle.bayou_lang.specs.declared.write.Write.{Write}

-- the Write put before the first of the list that comes after it in stamp order
abbrev pub place_by_stamp : Write → List Write → List Write
place_by_stamp write [] = write ∷ []
place_by_stamp write (next ∷ writes) =
    if is_before write.stamp next.stamp then write ∷ next ∷ writes else next ∷ place_by_stamp write writes

-- the Writes in stamp order (WriteOrder, Terry et al. 1994)
abbrev pub in_stamp_order : List Write → List Write
in_stamp_order [] = []
in_stamp_order (write ∷ writes) = place_by_stamp write (in_stamp_order writes)

-- those of the Writes that come before the stamp
abbrev pub earlier_than : Stamp → List Write → List Write
earlier_than stamp writes = filter (λ write. is_before write.stamp stamp) writes

-- no two of the Writes have one stamp
abbrev pub HaveDistinctStamps : List Write → Type 0
HaveDistinctStamps writes = AllPairs (λ a b. a.stamp ≢ b.stamp) writes

-- no two of the Writes have one name
abbrev pub HaveDistinctWids : List Write → Type 0
HaveDistinctWids writes = AllPairs (λ a b. a.wid ≢ b.wid) writes

-- the lists have the same Writes, in whatever order
abbrev pub HaveSameWrites : List Write → List Write → Type 0
HaveSameWrites xs ys = (write : Write) → Contains xs write ↔ Contains ys write

-- the counts with one more Write of its origin
abbrev pub counted : List ℕ → Wid → List ℕ
counted counts wid = slice_set counts wid.origin.index (slice_index counts wid.origin.index + 1)

-- for each server the number of the Writes that it accepted (version vectors, Terry et al. 1994)
abbrev pub count_of : List Write → List ℕ
count_of [] = replicate SERVERS 0
count_of (write ∷ writes) = counted (count_of writes) write.wid

-- Of each server the seqs are exactly those from 1 to its count: none is beyond, and none is missing (the prefix
-- property, Petersen et al. 1997).
pub record IsPrefixClosed (writes : List Write) : Type 0 where
  pub none_beyond : All (λ write. write.wid.seq ≤ slice_index (count_of writes) write.wid.origin.index) writes
  pub none_missing : (server seq : ℕ) → 0 < seq → seq ≤ slice_index (count_of writes) server
      → Any (λ write. (write.wid.origin.index ≡ server) × (write.wid.seq ≡ seq)) writes

-- the greatest clock among the Writes, 0 where there is none; the clock is this project's own
abbrev pub greatest_clock : List Write → ℕ
greatest_clock [] = 0
greatest_clock (write ∷ writes) = max write.stamp.clock (greatest_clock writes)

-- those of the Writes that the counts cover
abbrev pub covered_by : List ℕ → List Write → List Write
covered_by counts writes = filter (λ write. nat_le write.wid.seq (slice_index counts write.wid.origin.index)) writes

-- those of the Writes that the counts don't cover
abbrev pub missed_by : List ℕ → List Write → List Write
missed_by counts writes = filter (λ write. nat_lt (slice_index counts write.wid.origin.index) write.wid.seq) writes

-- what a server with these counts lacks of the Writes, in stamp order (anti-entropy, Petersen et al. 1997)
abbrev pub lacking_of : List ℕ → List Write → List Write
lacking_of counts writes = missed_by counts (in_stamp_order writes)

-- the counts, raised to each of the Writes
abbrev pub raised_by : List ℕ → List Write → List ℕ
raised_by counts [] = counts
raised_by counts (write ∷ writes) = raised_by (raised counts write.wid) writes

-- No Write is missing before it (the prefix property, Petersen et al. 1997): its origin is one of so many servers, it is the
-- next of that server's Writes, and all that its server held is held.
pub record HasNoGap (count : ℕ) (held : List Write) (write : Write) : Type 0 where
  pub origin : write.wid.origin.index < count
  pub next : write.wid.seq ≡ slice_index (count_of held) write.wid.origin.index + 1
  pub deps : Dominates (count_of held) write.deps

-- Its server held all of its own Writes before it, and its clock is one more than the greatest that its server held.
pub record IsWellStamped (held : List Write) (write : Write) : Type 0 where
  pub own : slice_index write.deps write.wid.origin.index + 1 ≡ write.wid.seq
  pub clock : write.stamp.clock ≡ greatest_clock (covered_by write.deps held) + 1

-- the Write may follow those that are held
abbrev pub Fits : ℕ → List Write → Write → Type 0
Fits count held write = HasNoGap count held write × IsWellStamped held write

-- Each Write of the list fits those before it.
abbrev pub AreFitting : ℕ → List Write → Type 0
AreFitting count writes = (before : List Write) (write : Write) (after : List Write) → writes ≡ before ++ write ∷ after → Fits count before write

-- What a server may hold, in order of receipt: each Write fits those before it, and a Write of the server itself says that
-- all of those were held.
pub record IsSound (server count : ℕ) (writes : List Write) : Type 0 where
  pub fitting : AreFitting count writes
  pub own : (before : List Write) (write : Write) (after : List Write) → writes ≡ before ++ write ∷ after
      → write.wid.origin.index ≡ server → write.deps ≡ count_of before

-- The Write that a server that holds these Writes makes of the program (Terry et al. 1995): it is the next of the
-- server's own, later than every Write held, and it says what was held.
pub record IsNextWrite (held : List Write) (server : ℕ) (asked : Program) (write : Write) : Type 0 where
  pub origin : write.wid.origin.index ≡ server
  pub seq : write.wid.seq ≡ slice_index (count_of held) server + 1
  pub clock : write.stamp.clock ≡ greatest_clock held + 1
  pub deps : write.deps ≡ count_of held
  pub program : write.program ≡ asked
