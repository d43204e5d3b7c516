-- Writes and their outcomes, one beside the other.
use Rattle.std.specs.Prelude.{List, [], ◌∷◌}
use Rattle.bayou_lang.specs.declared.eval.Outcome.{Outcome}
use Rattle.bayou_lang.specs.declared.write.Write.{Write}
use Rattle.bayou_log.specs.declared.listing.Listed.{Listed}

-- each of the Writes as it is listed with the outcome at its place
abbrev pub listed_with : List Write → List Outcome → List Listed
listed_with [] outcomes = []
listed_with (write ∷ writes) [] = []
listed_with (write ∷ writes) (outcome ∷ outcomes) = record { wid = write.wid; stamp = write.stamp; outcome = outcome } ∷ listed_with writes outcomes
