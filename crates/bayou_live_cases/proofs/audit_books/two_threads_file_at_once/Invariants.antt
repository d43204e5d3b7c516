-- the four ledgers of the book
use Rattle.bayou_live_cases.proofs.audit_books.two_threads_file_at_once.Given as goal

abbrev pub ghosts-file_at_once-S-Ledger : goal.ghosts-file_at_once-S-Ledger
ghosts-file_at_once-S-Ledger g a = record { name = a.blanks.slips.name; parts = a.blanks.slips.parts }

abbrev pub ghosts-file_at_once-T-Ledger : goal.ghosts-file_at_once-T-Ledger
ghosts-file_at_once-T-Ledger g a = record { name = a.blanks.reads.name; parts = a.blanks.reads.parts }

abbrev pub ghosts-file_at_once-U-Ledger : goal.ghosts-file_at_once-U-Ledger
ghosts-file_at_once-U-Ledger g a = record { name = a.blanks.writes.name; parts = a.blanks.writes.parts }

abbrev pub ghosts-file_at_once-V-Ledger : goal.ghosts-file_at_once-V-Ledger
ghosts-file_at_once-V-Ledger g a = record { name = a.blanks.refusals.name; parts = a.blanks.refusals.parts }
