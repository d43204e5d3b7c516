-- the four ledgers of the book, the ledger of the desks, and what the node is of
use Rattle.bayou_live_cases.proofs.listeners.are_served.Given as goal
use Rattle.bayou_node.specs.Books.{begun_of}

abbrev pub ghosts-serves_sessions-S-Ledger : goal.ghosts-serves_sessions-S-Ledger
ghosts-serves_sessions-S-Ledger g a = record { name = a.blanks.slips.name; parts = a.blanks.slips.parts }

abbrev pub ghosts-serves_sessions-T-Ledger : goal.ghosts-serves_sessions-T-Ledger
ghosts-serves_sessions-T-Ledger g a = record { name = a.blanks.reads.name; parts = a.blanks.reads.parts }

abbrev pub ghosts-serves_sessions-U-Ledger : goal.ghosts-serves_sessions-U-Ledger
ghosts-serves_sessions-U-Ledger g a = record { name = a.blanks.writes.name; parts = a.blanks.writes.parts }

abbrev pub ghosts-serves_sessions-V-Ledger : goal.ghosts-serves_sessions-V-Ledger
ghosts-serves_sessions-V-Ledger g a = record { name = a.blanks.refusals.name; parts = a.blanks.refusals.parts }

abbrev pub ghosts-serves_sessions-L-Ledger : goal.ghosts-serves_sessions-L-Ledger
ghosts-serves_sessions-L-Ledger g a = record { name = a.blank.name; parts = a.blank.parts }

abbrev pub ghosts-serves_sessions-L-Desks : goal.ghosts-serves_sessions-L-Desks
ghosts-serves_sessions-L-Desks g a = record { begun = begun_of a.server.value.core }
