-- the ledger of the desk, and what the node is of
use Rattle.bayou_live_cases.proofs.pull_breaks.ran_at_new_node.Given as goal
use Rattle.bayou_node.specs.Books.{begun_of}

abbrev pub ghosts-ran_at_node-L-Ledger : goal.ghosts-ran_at_node-L-Ledger
ghosts-ran_at_node-L-Ledger g a = record { name = a.blank.name; parts = a.blank.parts }

abbrev pub ghosts-ran_at_node-L-Desks : goal.ghosts-ran_at_node-L-Desks
ghosts-ran_at_node-L-Desks g a = record { begun = begun_of a.server.value.core }
