-- the four ledgers of the book
use Rattle.bayou_live_cases.proofs.audit_books.a_share_or_a_slip_is_missed.Given as goal

abbrev pub ghosts-settle_without-S-Ledger : goal.ghosts-settle_without-S-Ledger
ghosts-settle_without-S-Ledger g a = record { name = a.blanks.slips.name; parts = a.blanks.slips.parts }

abbrev pub ghosts-settle_without-T-Ledger : goal.ghosts-settle_without-T-Ledger
ghosts-settle_without-T-Ledger g a = record { name = a.blanks.reads.name; parts = a.blanks.reads.parts }

abbrev pub ghosts-settle_without-U-Ledger : goal.ghosts-settle_without-U-Ledger
ghosts-settle_without-U-Ledger g a = record { name = a.blanks.writes.name; parts = a.blanks.writes.parts }

abbrev pub ghosts-settle_without-V-Ledger : goal.ghosts-settle_without-V-Ledger
ghosts-settle_without-V-Ledger g a = record { name = a.blanks.refusals.name; parts = a.blanks.refusals.parts }

abbrev pub ghosts-settle_with_slip-S-Ledger : goal.ghosts-settle_with_slip-S-Ledger
ghosts-settle_with_slip-S-Ledger g a = record { name = a.blanks.slips.name; parts = a.blanks.slips.parts }

abbrev pub ghosts-settle_with_slip-T-Ledger : goal.ghosts-settle_with_slip-T-Ledger
ghosts-settle_with_slip-T-Ledger g a = record { name = a.blanks.reads.name; parts = a.blanks.reads.parts }

abbrev pub ghosts-settle_with_slip-U-Ledger : goal.ghosts-settle_with_slip-U-Ledger
ghosts-settle_with_slip-U-Ledger g a = record { name = a.blanks.writes.name; parts = a.blanks.writes.parts }

abbrev pub ghosts-settle_with_slip-V-Ledger : goal.ghosts-settle_with_slip-V-Ledger
ghosts-settle_with_slip-V-Ledger g a = record { name = a.blanks.refusals.name; parts = a.blanks.refusals.parts }
