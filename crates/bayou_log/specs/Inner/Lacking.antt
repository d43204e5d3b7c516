-- Which Write a server lacks first.
use Rattle.std.specs.Prelude.{◌≡◌, ℕ, ◌+◌, ◌<◌, ◌≤◌, false, List, Option, Some, None, All, Contains, slice_index, if◌then◌else◌}
use Rattle.bayou_base.specs.Order.{is_before}
use Rattle.bayou_lang.specs.declared.write.Write.{Write}

-- of two Writes the one that comes first, where there are both
abbrev pub earlier_of : Option Write → Option Write → Option Write
earlier_of None other = other
earlier_of (Some first) None = Some first
earlier_of (Some first) (Some second) = if is_before second.stamp first.stamp then Some second else Some first

-- The Write is held, and the next of its server's that the counts don't cover; of those of the first so many servers that they
-- don't cover none comes before it in stamp order.
pub record IsFirst (servers : ℕ) (counts : List ℕ) (writes : List Write) (write : Write) : Type 0 where
  pub held : Contains writes write
  pub next : write.wid.seq ≡ slice_index counts write.wid.origin.index + 1
  pub first : All (λ other. other.wid.origin.index < servers → slice_index counts other.wid.origin.index < other.wid.seq → is_before other.stamp write.stamp ≡ false) writes

-- the first in stamp order of the Writes of so many servers that the counts don't cover, if there is one
abbrev pub IsFirstMissed : ℕ → List ℕ → List Write → Option Write → Type 0
IsFirstMissed servers counts writes (Some write) = IsFirst servers counts writes write
IsFirstMissed servers counts writes None = All (λ other. other.wid.origin.index < servers → other.wid.seq ≤ slice_index counts other.wid.origin.index) writes
