-- Parts of the four ledgers of a book.
use Rattle.std.specs.Prelude.{ℕ, ◌+◌, ◌<◌, ◌^◌, List, get_or}
use Rattle.bayou_audit.specs.declared.totals.Totals.{Totals}
use Rattle.bayou_audit.specs.Totals.{Shared, totals_of}

-- how many of each ledger, and what is counted on them
pub record PartsOf : Type 0 where
  pub parts : ℕ
  pub totals : Totals

abbrev pub parts_of : (parts slips reads writes refusals : ℕ) → PartsOf
parts_of parts slips reads writes refusals = record { parts = parts; totals = totals_of slips reads writes refusals }

-- one entry more can be counted
pub record HasRoom (totals : Totals) : Type 0 where
  pub reads : totals.reads + 1 < 2 ^ 64
  pub writes : totals.writes + 1 < 2 ^ 64
  pub refusals : totals.refusals + 1 < 2 ^ 64

-- a slip of the share at this place is out
abbrev pub IsOutAt : List Shared → ℕ → Type 0
IsOutAt shares at = (none : Shared) → 0 < (get_or shares at none).totals.slips
