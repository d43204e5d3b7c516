-- the ledger of the desks, and what the node is of
use Rattle.bayou_live_cases.proofs.desks.a_request_that_waits_holds_up_no_other_connection.Given as goal
use Rattle.bayou_node.specs.Books.{begun_of}

abbrev pub ghosts-serves_both-L-Ledger : goal.ghosts-serves_both-L-Ledger
ghosts-serves_both-L-Ledger g a = record { name = a.blank.name; parts = a.blank.parts }

abbrev pub ghosts-serves_both-L-Desks : goal.ghosts-serves_both-L-Desks
ghosts-serves_both-L-Desks g a = record { begun = begun_of a.server.value.core }
