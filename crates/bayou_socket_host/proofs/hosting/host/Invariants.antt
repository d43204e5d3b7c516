-- the ledger of the desks, and what the node is of
use Rattle.bayou_socket_host.proofs.hosting.host.Given as goal
use Rattle.bayou_node.specs.Books.{begun_of}

abbrev pub ghosts-serve_all-L-Ledger : goal.ghosts-serve_all-L-Ledger
ghosts-serve_all-L-Ledger g a = record { name = a.blank.name; parts = a.blank.parts }

abbrev pub ghosts-serve_all-L-Desks : goal.ghosts-serve_all-L-Desks
ghosts-serve_all-L-Desks g a = record { begun = begun_of a.server.core }
