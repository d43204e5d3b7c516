use Rattle.std.proofs.Common.{lit<, rules, tests}
use Rattle.std.proofs.lemmas.Iterator.Search.{all_from_yields_List}
use Rattle.std.proofs.lemmas.Iterator.Splits.{YieldsList-from_str_split}
use Rattle.bayou_connect.specs.Plans.{is_guarantee}
use Rattle.bayou_connect.proofs.plan.are_guarantees.Goals as goal

pub returns : goal.returns
returns c =
    all_from_yields_List is_guarantee _ _ c.all.result c.all.ensures.ran
    (YieldsList-from_str_split 44 c.args.text.now (lit< tt) (cc) (cc) (cc)) (λ x b q k. search (rules, tests))
