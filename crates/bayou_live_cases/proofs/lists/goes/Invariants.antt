-- the ledger of the desk, and what the node is of
use Rattle.bayou_live_cases.proofs.lists.goes.Given as goal
use Rattle.bayou_node.specs.Books.{begun_of}

abbrev pub ghosts-go_alike-L-Ledger : goal.ghosts-go_alike-L-Ledger
ghosts-go_alike-L-Ledger g a = record { name = a.blank.name; parts = a.blank.parts }

abbrev pub ghosts-go_alike-L-Desks : goal.ghosts-go_alike-L-Desks
ghosts-go_alike-L-Desks g a = record { begun = begun_of a.server.value.core }
