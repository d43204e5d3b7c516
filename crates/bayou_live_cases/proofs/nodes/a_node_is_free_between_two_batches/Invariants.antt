-- the ledger of the desk, and what the node is of
use Rattle.bayou_live_cases.proofs.nodes.a_node_is_free_between_two_batches.Given as goal
use Rattle.bayou_node.specs.Books.{begun_of}

abbrev pub ghosts-batches-L-Ledger : goal.ghosts-batches-L-Ledger
ghosts-batches-L-Ledger g a = record { name = a.blank.name; parts = a.blank.parts }

abbrev pub ghosts-batches-L-Desks : goal.ghosts-batches-L-Desks
ghosts-batches-L-Desks g a = record { begun = begun_of a.server.value.core }
