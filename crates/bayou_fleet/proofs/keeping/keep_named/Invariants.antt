-- the ledger of the server's desks, and what its node is of
use Rattle.bayou_node.specs.Books.{begun_of}
use Rattle.bayou_fleet.proofs.keeping.keep_named.Given as goal

abbrev pub ghosts-keep-L-Ledger : goal.ghosts-keep-L-Ledger
ghosts-keep-L-Ledger g a = record { name = a.blank.name; parts = a.blank.parts }

abbrev pub ghosts-keep-L-Desks : goal.ghosts-keep-L-Desks
ghosts-keep-L-Desks g a = record { begun = begun_of a.server.core }
