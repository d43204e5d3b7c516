-- the ledger of the desk, and what the node is of
use Rattle.bayou_want_cases.proofs.nodes.goes_again.Given as goal
use Rattle.bayou_node.specs.Books.{begun_of}

abbrev pub ghosts-goes_of-L-Ledger : goal.ghosts-goes_of-L-Ledger
ghosts-goes_of-L-Ledger g a = record { name = a.blank.name; parts = a.blank.parts }

abbrev pub ghosts-goes_of-L-Desks : goal.ghosts-goes_of-L-Desks
ghosts-goes_of-L-Desks g a = record { begun = begun_of a.server.value.core }
