-- What a book and its shares come to in the end.
use Rattle.std.specs.Prelude.{◌≡◌, ℕ, ◌<◌, ◌≤◌, List, length}
use Rattle.bayou_audit.specs.declared.book_settled.SettleFault.{SettleFault}
use Rattle.bayou_audit.specs.declared.book_settled.SettleFault.TheVariants.{ShareMissing, SlipOut}
use Rattle.bayou_audit.specs.declared.book_settled.BookSettled.{BookSettled}
use Rattle.bayou_audit.specs.Totals.{Booked, Shared, is_read, is_refusal, is_write, number_of, sums_of}

-- All shares were given back and no slip is out: the totals are the sums of the shares, and the entries are the book's.
pub record IsSettled (book : Booked) (shares : List Shared) (settled : BookSettled) : Type 0 where
  pub all : length shares ≡ book.shares
  pub none_out : book.totals.slips ≡ 0
  pub totals : settled.totals ≡ book.totals
  pub sums : settled.totals ≡ sums_of shares
  pub entries : settled.entries.items ≡ book.entries

-- why a book isn't settled: a share is missing, or else a slip is out
abbrev pub IsUnsettled : Booked → List Shared → SettleFault → Type 0
IsUnsettled book shares ShareMissing = length shares < book.shares
IsUnsettled book shares SlipOut = (book.shares ≤ length shares) × (0 < book.totals.slips) × (0 < (sums_of shares).slips)

-- The same of a book whose lock hides what it held: so many shares were made of it.
pub record IsLockedSettled (made : ℕ) (shares : List Shared) (settled : BookSettled) : Type 0 where
  pub all : length shares ≡ made
  pub none_out : settled.totals.slips ≡ 0
  pub sums : settled.totals ≡ sums_of shares
  pub reads : settled.totals.reads ≡ number_of is_read settled.entries.items
  pub writes : settled.totals.writes ≡ number_of is_write settled.entries.items
  pub refusals : settled.totals.refusals ≡ number_of is_refusal settled.entries.items

-- which of the two it was: where no share is missing, a slip is out, which a share counts
abbrev pub IsLockedUnsettled : ℕ → List Shared → SettleFault → Type 0
IsLockedUnsettled made shares ShareMissing = length shares < made
IsLockedUnsettled made shares SlipOut = (made ≤ length shares) × (0 < (sums_of shares).slips)
