-- Which of the gathered Writes are taken before an own one, in which order.
use Rattle.std.specs.Prelude.{◌≡◌, ℕ, ◌+◌, ◌<◌, ◌≤◌, false, List, [], ◌∷◌, Option, Some, None, All, Contains, slice_index, if◌then◌else◌}
use Rattle.bayou_base.specs.declared.limits.TheConstants.{SERVERS}
use Rattle.bayou_base.specs.Order.{is_before}
use Rattle.bayou_base.specs.Vector.{raised}
use Rattle.bayou_lang.specs.declared.write.Write.{Write}

-- of two Writes the one that comes first, where there are both
abbrev pub earlier_of : Option Write → Option Write → Option Write
earlier_of None other = other
earlier_of (Some first) None = Some first
earlier_of (Some first) (Some second) = if is_before second.stamp first.stamp then Some second else Some first

-- the first counts cover the Write, and the second don't yet
abbrev pub IsDue : (counts told : List ℕ) → Write → Type 0
IsDue counts told write =
    (slice_index told write.wid.origin.index < write.wid.seq) × (write.wid.seq ≤ slice_index counts write.wid.origin.index)

-- The Write is one of the list, and due: the next of its server's. Of those of the first so many servers that are due none comes before it.
pub record IsFirstDue (servers : ℕ) (counts told : List ℕ) (writes : List Write) (write : Write) : Type 0 where
  pub among : Contains writes write
  pub next : write.wid.seq ≡ slice_index told write.wid.origin.index + 1
  pub counted : write.wid.seq ≤ slice_index counts write.wid.origin.index
  pub first : All (λ other. other.wid.origin.index < servers → IsDue counts told other → is_before other.stamp write.stamp ≡ false) writes

-- the first that is due, if one is
abbrev pub IsDueFirst : (servers : ℕ) → (counts told : List ℕ) → List Write → Option Write → Type 0
IsDueFirst servers counts told writes (Some write) = IsFirstDue servers counts told writes write
IsDueFirst servers counts told writes None = All (λ other. other.wid.origin.index < servers → ¬ IsDue counts told other) writes

-- from one vector to the other these were due, one after another, and each the first
abbrev pub AreDue : (counts : List ℕ) → (writes : List Write) → (told : List ℕ) → (due : List Write) → (behind : List ℕ) → Type 0
AreDue counts writes told [] behind = behind ≡ told
AreDue counts writes told (write ∷ due) behind = IsFirstDue SERVERS counts told writes write × AreDue counts writes (raised told write.wid) due behind

-- these are due one after another, and then none is
abbrev pub AreAllDue : (counts : List ℕ) → (writes : List Write) → (told : List ℕ) → (due : List Write) → Type 0
AreAllDue counts writes told due = (behind : List ℕ) × AreDue counts writes told due behind × IsDueFirst SERVERS counts behind writes None
