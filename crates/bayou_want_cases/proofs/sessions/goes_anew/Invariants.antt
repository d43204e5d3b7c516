-- the four ledgers of the book
use Rattle.bayou_want_cases.proofs.sessions.goes_anew.Given as goal

abbrev pub ghosts-goes_of-S-Ledger : goal.ghosts-goes_of-S-Ledger
ghosts-goes_of-S-Ledger g a = record { name = a.blanks.slips.name; parts = a.blanks.slips.parts }

abbrev pub ghosts-goes_of-T-Ledger : goal.ghosts-goes_of-T-Ledger
ghosts-goes_of-T-Ledger g a = record { name = a.blanks.reads.name; parts = a.blanks.reads.parts }

abbrev pub ghosts-goes_of-U-Ledger : goal.ghosts-goes_of-U-Ledger
ghosts-goes_of-U-Ledger g a = record { name = a.blanks.writes.name; parts = a.blanks.writes.parts }

abbrev pub ghosts-goes_of-V-Ledger : goal.ghosts-goes_of-V-Ledger
ghosts-goes_of-V-Ledger g a = record { name = a.blanks.refusals.name; parts = a.blanks.refusals.parts }
