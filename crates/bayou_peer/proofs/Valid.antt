-- Writes that have a spelling.
use Rattle.std.proofs.Common.{List, [], ◌∷◌, All}
use Rattle.std.proofs.lemmas.List.Elements.{All-head, All-tail}
use Rattle.std.specs.List.{AllByRecursion}
use Rattle.bayou_lang.specs.declared.write.Write.{Write}
use Rattle.bayou_lang.specs.Ranges.{IsWrite}

pub one_by_one : (writes : List Write) → All IsWrite writes → AllByRecursion IsWrite writes
one_by_one [] each = tt
one_by_one (write ∷ writes) each = (All-head IsWrite write writes each, one_by_one writes (All-tail IsWrite write writes each))
