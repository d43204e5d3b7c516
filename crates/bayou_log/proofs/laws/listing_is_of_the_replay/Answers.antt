use Rattle.bayou_log.proofs.ListingLaws.{length-listing_of, listing_of-at}
use Rattle.bayou_log.proofs.laws.listing_is_of_the_replay.Goals as goal

pub returns-clause-as_many : goal.returns-clause-as_many
returns-clause-as_many c = length-listing_of

pub returns-clause-outcomes : goal.returns-clause-outcomes
returns-clause-outcomes c = listing_of-at
