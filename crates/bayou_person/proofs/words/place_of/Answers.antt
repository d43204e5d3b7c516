use Rattle.std.proofs.Common.{◌==◌, ℕ, rules, tests}
use Rattle.std.proofs.lemmas.Iterator.{YieldsList-from_slice}
use Rattle.std.proofs.lemmas.Iterator.Search.{position_from_yields_List}
use Rattle.bayou_person.proofs.words.place_of.Goals as goal

pub returns : goal.returns
returns c =
    position_from_yields_List (λ (one : ℕ). one == c.args.byte) _ _ c.position.result c.position.ensures.ran (YieldsList-from_slice c.args.bytes.now cc) (λ x b q k. search (rules, tests))
