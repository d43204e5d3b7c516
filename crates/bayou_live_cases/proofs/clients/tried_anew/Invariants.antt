-- the four ledgers of the book
use Rattle.bayou_live_cases.proofs.clients.tried_anew.Given as goal

abbrev pub ghosts-tries-S-Ledger : goal.ghosts-tries-S-Ledger
ghosts-tries-S-Ledger g a = record { name = a.blanks.slips.name; parts = a.blanks.slips.parts }

abbrev pub ghosts-tries-T-Ledger : goal.ghosts-tries-T-Ledger
ghosts-tries-T-Ledger g a = record { name = a.blanks.reads.name; parts = a.blanks.reads.parts }

abbrev pub ghosts-tries-U-Ledger : goal.ghosts-tries-U-Ledger
ghosts-tries-U-Ledger g a = record { name = a.blanks.writes.name; parts = a.blanks.writes.parts }

abbrev pub ghosts-tries-V-Ledger : goal.ghosts-tries-V-Ledger
ghosts-tries-V-Ledger g a = record { name = a.blanks.refusals.name; parts = a.blanks.refusals.parts }
