-- the ledger of the desk, and what the node is of
use Rattle.bayou_live_cases.proofs.nodes.a_node_is_free_between_two_items_that_come.Given as goal
use Rattle.bayou_node.specs.Books.{begun_of}

abbrev pub ghosts-is_free_between_items-L-Ledger : goal.ghosts-is_free_between_items-L-Ledger
ghosts-is_free_between_items-L-Ledger g a = record { name = a.blank.name; parts = a.blank.parts }

abbrev pub ghosts-is_free_between_items-L-Desks : goal.ghosts-is_free_between_items-L-Desks
ghosts-is_free_between_items-L-Desks g a = record { begun = begun_of a.server.value.core }
