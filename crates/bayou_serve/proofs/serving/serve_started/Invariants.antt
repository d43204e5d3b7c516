-- the ledger of the desks, and what the node is of
use Rattle.bayou_node.specs.Books.{begun_of}
use Rattle.bayou_serve.proofs.serving.serve_started.Given as goal

abbrev pub ghosts-serve_node-L-Ledger : goal.ghosts-serve_node-L-Ledger
ghosts-serve_node-L-Ledger g a = record { name = a.blank.name; parts = a.blank.parts }

abbrev pub ghosts-serve_node-L-Desks : goal.ghosts-serve_node-L-Desks
ghosts-serve_node-L-Desks g a = record { begun = begun_of a.server.core }
