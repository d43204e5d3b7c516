-- the ledgers of the desks, and what the two nodes are of
use Rattle.bayou_live_cases.proofs.two_nodes.a_write_that_waits_at_one_node_holds_up_no_read_at_another.Given as goal
use Rattle.bayou_node.specs.Books.{begun_of}

abbrev pub ghosts-serves_both-L-Ledger : goal.ghosts-serves_both-L-Ledger
ghosts-serves_both-L-Ledger g a = record { name = a.first.name; parts = a.first.parts }

abbrev pub ghosts-serves_both-L-Desks : goal.ghosts-serves_both-L-Desks
ghosts-serves_both-L-Desks g a = record { begun = begun_of a.slow.value.core }

abbrev pub ghosts-serves_both-M-Ledger : goal.ghosts-serves_both-M-Ledger
ghosts-serves_both-M-Ledger g a = record { name = a.second.name; parts = a.second.parts }

abbrev pub ghosts-serves_both-M-Desks : goal.ghosts-serves_both-M-Desks
ghosts-serves_both-M-Desks g a = record { begun = begun_of a.quick.value.core }
