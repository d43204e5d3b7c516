-- the ledger of the desks, and what the node is of
use Rattle.bayou_live_cases.proofs.node_books.a_node_is_settled_once_all_desks_are_back.Given as goal
use Rattle.bayou_node.specs.Books.{begun_of}

abbrev pub ghosts-two_programs-L-Ledger : goal.ghosts-two_programs-L-Ledger
ghosts-two_programs-L-Ledger g a = record { name = a.blank.name; parts = a.blank.parts }

abbrev pub ghosts-two_programs-L-Desks : goal.ghosts-two_programs-L-Desks
ghosts-two_programs-L-Desks g a = record { begun = begun_of a.server.value.core }
