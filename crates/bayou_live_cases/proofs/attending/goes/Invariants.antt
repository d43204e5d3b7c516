-- the ledger of the desks, and what the node is of
use Rattle.bayou_live_cases.proofs.attending.goes.Given as goal
use Rattle.bayou_node.specs.Books.{begun_of}

abbrev pub ghosts-serves-L-Ledger : goal.ghosts-serves-L-Ledger
ghosts-serves-L-Ledger g a = record { name = a.blank.name; parts = a.blank.parts }

abbrev pub ghosts-serves-L-Desks : goal.ghosts-serves-L-Desks
ghosts-serves-L-Desks g a = record { begun = begun_of a.server.value.core }
