-- the ledger of the desk, and what the node is of
use Rattle.bayou_live_cases.proofs.nodes.a_node_sends_and_takes.Given as goal
use Rattle.bayou_node.specs.Books.{begun_of}

abbrev pub ghosts-goes-L-Ledger : goal.ghosts-goes-L-Ledger
ghosts-goes-L-Ledger g a = record { name = a.blank.name; parts = a.blank.parts }

abbrev pub ghosts-goes-L-Desks : goal.ghosts-goes-L-Desks
ghosts-goes-L-Desks g a = record { begun = begun_of a.server.value.core }
