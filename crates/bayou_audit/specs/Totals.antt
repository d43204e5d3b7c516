-- A book of what was served, with its totals: this project's own.
use Rattle.std.specs.Prelude.{◌≡◌, ℕ, ◌+◌, ◌-◌, ◌≤◌, Bool, true, false, Some, List, [], ◌∷◌, ◌++◌, length, filter}
use Rattle.std.specs.List.{slice_get}
use Rattle.bayou_base.specs.declared.entry.Entry.{Entry}
use Rattle.bayou_base.specs.declared.entry.What.{What}
use Rattle.bayou_base.specs.declared.entry.What.TheVariants as whats
use Rattle.bayou_base.specs.declared.session.SessionId.{SessionId}
use Rattle.bayou_audit.specs.declared.totals.Totals.{Totals}

-- A book: how many shares were made of it, how many entries it may have, what was filed, in that order, and its totals.
pub record Booked : Type 0 where
  pub shares : ℕ
  pub capacity : ℕ
  pub entries : List Entry
  pub totals : Totals

-- a session's share in the totals
pub record Shared : Type 0 where
  pub session : SessionId
  pub totals : Totals

abbrev pub totals_of : (slips reads writes refusals : ℕ) → Totals
totals_of slips reads writes refusals = record { slips = slips; reads = reads; writes = writes; refusals = refusals }

abbrev pub no_totals : Totals
no_totals = record { slips = 0; reads = 0; writes = 0; refusals = 0 }

-- one slip more is out
abbrev pub with_slip : Totals → Totals
with_slip totals = record totals { slips = totals.slips + 1 }

-- one slip less is out
abbrev pub without_slip : Totals → Totals
without_slip totals = record totals { slips = totals.slips - 1 }

-- one entry more of this kind
abbrev pub counted : What → Totals → Totals
counted (whats.Read key vector) totals = record totals { reads = totals.reads + 1 }
counted (whats.Write wid stamp deps) totals = record totals { writes = totals.writes + 1 }
counted whats.Refused totals = record totals { refusals = totals.refusals + 1 }

-- what the entry tells of is a read, a Write, or a refusal
abbrev pub is_read : What → Bool
is_read (whats.Read key vector) = true
is_read (whats.Write wid stamp deps) = false
is_read whats.Refused = false

abbrev pub is_write : What → Bool
is_write (whats.Read key vector) = false
is_write (whats.Write wid stamp deps) = true
is_write whats.Refused = false

abbrev pub is_refusal : What → Bool
is_refusal (whats.Read key vector) = false
is_refusal (whats.Write wid stamp deps) = false
is_refusal whats.Refused = true

-- how many of the entries are of the kind
abbrev pub number_of : (What → Bool) → List Entry → ℕ
number_of is_kind entries = length (filter (λ entry. is_kind entry.what) entries)

-- The totals are exact: those of reads, Writes and refusals are the numbers of such entries, and each slip that is out has
-- room that no entry has.
pub record IsExact (book : Booked) : Type 0 where
  pub reads : book.totals.reads ≡ number_of is_read book.entries
  pub writes : book.totals.writes ≡ number_of is_write book.entries
  pub refusals : book.totals.refusals ≡ number_of is_refusal book.entries
  pub room : length book.entries + book.totals.slips ≤ book.capacity

-- the two, added
abbrev pub added : Totals → Totals → Totals
added a b = record { slips = a.slips + b.slips; reads = a.reads + b.reads; writes = a.writes + b.writes; refusals = a.refusals + b.refusals }

-- the sums over the shares
abbrev pub sums_of : List Shared → Totals
sums_of [] = no_totals
sums_of (share ∷ shares) = added share.totals (sums_of shares)

-- a slip was handed out to the session, and nothing else was done
abbrev pub with_claim : Booked → Booked
with_claim book = record book { totals = with_slip book.totals }

abbrev pub with_slip_out : Shared → Shared
with_slip_out share = record share { totals = with_slip share.totals }

-- A slip was spent on just this entry, which stands at the end.
abbrev pub with_entry : Booked → Entry → Booked
with_entry book entry = record book { entries = book.entries ++ entry ∷ []; totals = counted entry.what (without_slip book.totals) }

abbrev pub with_filed : Shared → Entry → Shared
with_filed share entry = record share { totals = counted entry.what (without_slip share.totals) }

-- a slip was spent on nothing
abbrev pub with_void : Booked → Booked
with_void book = record book { totals = without_slip book.totals }

abbrev pub with_slip_spent : Shared → Shared
with_slip_spent share = record share { totals = without_slip share.totals }

-- a book as it was made
abbrev pub new_book : (shares capacity : ℕ) → Booked
new_book shares capacity = record { shares = shares; capacity = capacity; entries = []; totals = no_totals }

-- one share for each of the first so many sessions, in their order, and nothing counted yet
pub record AreNewShares (number : ℕ) (shares : List Shared) : Type 0 where
  pub one_each : length shares ≡ number
  pub in_order : (at : ℕ) (share : Shared) → slice_get shares at ≡ Some share → (share.session.index ≡ at) × (share.totals ≡ no_totals)
