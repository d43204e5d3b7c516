-- the four ledgers of the book
use Rattle.bayou_live_cases.proofs.audit_books.one_want_of_memory_costs_no_entry.Given as goal

abbrev pub ghosts-keeps_all-S-Ledger : goal.ghosts-keeps_all-S-Ledger
ghosts-keeps_all-S-Ledger g a = record { name = a.blanks.slips.name; parts = a.blanks.slips.parts }

abbrev pub ghosts-keeps_all-T-Ledger : goal.ghosts-keeps_all-T-Ledger
ghosts-keeps_all-T-Ledger g a = record { name = a.blanks.reads.name; parts = a.blanks.reads.parts }

abbrev pub ghosts-keeps_all-U-Ledger : goal.ghosts-keeps_all-U-Ledger
ghosts-keeps_all-U-Ledger g a = record { name = a.blanks.writes.name; parts = a.blanks.writes.parts }

abbrev pub ghosts-keeps_all-V-Ledger : goal.ghosts-keeps_all-V-Ledger
ghosts-keeps_all-V-Ledger g a = record { name = a.blanks.refusals.name; parts = a.blanks.refusals.parts }
