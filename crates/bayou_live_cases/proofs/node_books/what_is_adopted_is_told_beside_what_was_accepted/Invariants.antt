-- the ledger of the desks, and what the node is of
use Rattle.bayou_live_cases.proofs.node_books.what_is_adopted_is_told_beside_what_was_accepted.Given as goal
use Rattle.bayou_node.specs.Books.{begun_of}

abbrev pub ghosts-one_of_each-L-Ledger : goal.ghosts-one_of_each-L-Ledger
ghosts-one_of_each-L-Ledger g a = record { name = a.blank.name; parts = a.blank.parts }

abbrev pub ghosts-one_of_each-L-Desks : goal.ghosts-one_of_each-L-Desks
ghosts-one_of_each-L-Desks g a = record { begun = begun_of a.server.value.core }
