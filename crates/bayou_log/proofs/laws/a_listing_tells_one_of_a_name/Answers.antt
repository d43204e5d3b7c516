use Rattle.bayou_log.proofs.Named.{one_told}
use Rattle.bayou_log.proofs.laws.a_listing_tells_one_of_a_name.Goals as goal

pub returns : goal.returns
returns c count writes name a b fitting first second = one_told count writes name a b fitting first second
