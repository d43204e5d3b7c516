use Rattle.std.proofs.Common.{lit<, length, nat_lt, rules, tests}
use Rattle.std.proofs.lemmas.Iterator.Consumers.{YieldsList-from_filter, map_from_collect}
use Rattle.std.proofs.lemmas.Iterator.Splits.{YieldsList-from_str_split}
use Rattle.bayou_person.proofs.words.spaced_words.Goals as goal

pub returns : goal.returns
returns c =
    map_from_collect _ c.collect.ensures.ran
    (YieldsList-from_filter {s = c.filter.result} _ (λ part. nat_lt 0 (length part)) (YieldsList-from_str_split 32 c.args.text.now (lit< tt) (cc) (cc) (cc))
    c.filter.ensures.closure (λ x b q k. search (rules, tests)))
