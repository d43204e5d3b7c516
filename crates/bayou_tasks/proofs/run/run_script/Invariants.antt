-- the four ledgers of the book
use Rattle.bayou_tasks.proofs.run.run_script.Given as goal

abbrev pub ghosts-run_over-S-Ledger : goal.ghosts-run_over-S-Ledger
ghosts-run_over-S-Ledger g a = record { name = a.blanks.slips.name; parts = a.blanks.slips.parts }

abbrev pub ghosts-run_over-T-Ledger : goal.ghosts-run_over-T-Ledger
ghosts-run_over-T-Ledger g a = record { name = a.blanks.reads.name; parts = a.blanks.reads.parts }

abbrev pub ghosts-run_over-U-Ledger : goal.ghosts-run_over-U-Ledger
ghosts-run_over-U-Ledger g a = record { name = a.blanks.writes.name; parts = a.blanks.writes.parts }

abbrev pub ghosts-run_over-V-Ledger : goal.ghosts-run_over-V-Ledger
ghosts-run_over-V-Ledger g a = record { name = a.blanks.refusals.name; parts = a.blanks.refusals.parts }
