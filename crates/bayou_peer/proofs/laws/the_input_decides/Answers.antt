use Rattle.bayou_peer.proofs.OneEnd.{cut_not_bad, end_not_bad, end_not_cut, one_end}
use Rattle.bayou_peer.proofs.laws.the_input_decides.Goals as goal

pub returns-clause-as_many : goal.returns-clause-as_many
returns-clause-as_many g c start now other after input first second a b = one_end _ _ start now other after input first second a b

pub returns-clause-not_cut : goal.returns-clause-not_cut
returns-clause-not_cut g c start now other after input pulled stopped cut a b = end_not_cut _ _ start now other after input pulled stopped cut a b

pub returns-clause-not_bad : goal.returns-clause-not_bad
returns-clause-not_bad g c start now other after input pulled stopped bad few a b = end_not_bad _ _ start now other after input pulled stopped bad few a b

pub returns-clause-cut_not_bad : goal.returns-clause-cut_not_bad
returns-clause-cut_not_bad g c start now other after input cut stopped is_cut is_bad a b = cut_not_bad _ _ start now other after input cut stopped is_cut is_bad a b
