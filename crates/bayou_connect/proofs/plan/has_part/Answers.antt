use Rattle.std.proofs.Common.{lit<, rules, tests}
use Rattle.std.specs.Str.{bytes_eq}
use Rattle.std.proofs.lemmas.Iterator.Search.{any_from_yields_List}
use Rattle.std.proofs.lemmas.Iterator.Splits.{YieldsList-from_str_split}
use Rattle.bayou_connect.proofs.plan.has_part.Goals as goal

pub returns : goal.returns
returns c =
    any_from_yields_List (λ part. bytes_eq part c.args.word.now) _ _ c.any.result c.any.ensures.ran
    (YieldsList-from_str_split 44 c.args.text.now (lit< tt) (cc) (cc) (cc)) (λ x b q k. search (rules, tests))
