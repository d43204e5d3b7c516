-- the four ledgers of the book
use Rattle.bayou_live_cases.proofs.agains.what_may_be_asked_again_is_forgotten.Given as goal

abbrev pub ghosts-goes-S-Ledger : goal.ghosts-goes-S-Ledger
ghosts-goes-S-Ledger g a = record { name = a.blanks.slips.name; parts = a.blanks.slips.parts }

abbrev pub ghosts-goes-T-Ledger : goal.ghosts-goes-T-Ledger
ghosts-goes-T-Ledger g a = record { name = a.blanks.reads.name; parts = a.blanks.reads.parts }

abbrev pub ghosts-goes-U-Ledger : goal.ghosts-goes-U-Ledger
ghosts-goes-U-Ledger g a = record { name = a.blanks.writes.name; parts = a.blanks.writes.parts }

abbrev pub ghosts-goes-V-Ledger : goal.ghosts-goes-V-Ledger
ghosts-goes-V-Ledger g a = record { name = a.blanks.refusals.name; parts = a.blanks.refusals.parts }
