use Rattle.bayou_frames.proofs.OneOffer.{cut_not_bad, offer_not_bad, offer_not_cut, one_offer}
use Rattle.bayou_frames.proofs.laws.the_input_decides_the_offer.Goals as goal

pub returns-clause-one : goal.returns-clause-one
returns-clause-one c = one_offer

pub returns-clause-not_cut : goal.returns-clause-not_cut
returns-clause-not_cut c = offer_not_cut

pub returns-clause-not_bad : goal.returns-clause-not_bad
returns-clause-not_bad c = offer_not_bad

pub returns-clause-cut_not_bad : goal.returns-clause-cut_not_bad
returns-clause-cut_not_bad c = cut_not_bad
