-- New ledgers for a book.
use Rattle.std.specs.Prelude.{◌≡◌, ℕ}
use Rattle.std.specs.declared.sync.ledger.Blank.{Blank}
use Rattle.bayou_audit.specs.declared.ledgers.Blanks.{Blanks}

-- a ledger as it is told from others: its name, and the number of its parts
pub record Named : Type 0 where
  pub name : ℕ
  pub parts : ℕ

abbrev pub named : (name parts : ℕ) → Named
named name parts = record { name = name; parts = parts }

-- the blank is of this ledger, which has so many parts
abbrev pub IsBlankOf : Blank → Named → ℕ → Type 0
IsBlankOf blank ledger parts = (blank.name ≡ ledger.name) × (blank.parts ≡ ledger.parts) × (blank.parts ≡ parts)

-- the four are of these ledgers, each of which has so many parts
abbrev pub AreBlanksOf : Blanks → (slips reads writes refusals : Named) → ℕ → Type 0
AreBlanksOf blanks slips reads writes refusals parts =
    IsBlankOf blanks.slips slips parts × IsBlankOf blanks.reads reads parts × IsBlankOf blanks.writes writes parts × IsBlankOf blanks.refusals refusals parts
