-- A journal as its callers see it: this project's own.
use Rattle.std.specs.Prelude.{ℕ, List, Bool}

-- the device; whose journal it is; the digest that the next entry stands after; and whether a device call failed since it
-- was opened last
pub record JournalState (D : Type 0) : Type 0 where
  pub device : D
  pub server : ℕ
  pub last : List ℕ
  pub is_down : Bool

-- the journal, over another device
abbrev pub with_device : {D : Type 0} → JournalState D → D → JournalState D
with_device journal device = record journal { device = device }
