-- the four ledgers of the book
use Rattle.bayou_socket_run.proofs.sockets.run_commands.Given as goal

abbrev pub ghosts-run_booked-S-Ledger : goal.ghosts-run_booked-S-Ledger
ghosts-run_booked-S-Ledger g a = record { name = a.blanks.slips.name; parts = a.blanks.slips.parts }

abbrev pub ghosts-run_booked-R-Ledger : goal.ghosts-run_booked-R-Ledger
ghosts-run_booked-R-Ledger g a = record { name = a.blanks.reads.name; parts = a.blanks.reads.parts }

abbrev pub ghosts-run_booked-U-Ledger : goal.ghosts-run_booked-U-Ledger
ghosts-run_booked-U-Ledger g a = record { name = a.blanks.writes.name; parts = a.blanks.writes.parts }

abbrev pub ghosts-run_booked-V-Ledger : goal.ghosts-run_booked-V-Ledger
ghosts-run_booked-V-Ledger g a = record { name = a.blanks.refusals.name; parts = a.blanks.refusals.parts }
