-- the ledgers of the desks, and what the nodes are of
use Rattle.bayou_live_cases.proofs.threads.eight_threads_at_three_nodes_keep_exact_books.Given as goal
use Rattle.bayou_node.specs.Books.{begun_of}

abbrev pub ghosts-work_together-L-Ledger : goal.ghosts-work_together-L-Ledger
ghosts-work_together-L-Ledger g a = record { name = a.blanks.0.name; parts = a.blanks.0.parts }

abbrev pub ghosts-work_together-L-Desks : goal.ghosts-work_together-L-Desks
ghosts-work_together-L-Desks g a = record { begun = begun_of a.servers.0.value.core }

abbrev pub ghosts-work_together-M-Ledger : goal.ghosts-work_together-M-Ledger
ghosts-work_together-M-Ledger g a = record { name = a.blanks.1.name; parts = a.blanks.1.parts }

abbrev pub ghosts-work_together-M-Desks : goal.ghosts-work_together-M-Desks
ghosts-work_together-M-Desks g a = record { begun = begun_of a.servers.1.value.core }

abbrev pub ghosts-work_together-N-Ledger : goal.ghosts-work_together-N-Ledger
ghosts-work_together-N-Ledger g a = record { name = a.blanks.2.name; parts = a.blanks.2.parts }

abbrev pub ghosts-work_together-N-Desks : goal.ghosts-work_together-N-Desks
ghosts-work_together-N-Desks g a = record { begun = begun_of a.servers.2.value.core }
