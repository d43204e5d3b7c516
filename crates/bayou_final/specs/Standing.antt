-- The words for how something stands: this project's own, but for `tentative` (Terry et al. 1995).
use Rattle.std.specs.Prelude.{ℕ, List, codes}
use Rattle.bayou_final.specs.declared.standing.Standing.{Standing}
use Rattle.bayou_final.specs.declared.standing.Standing.TheVariants.{Tentative, Final, Changed}

abbrev pub standing_word : Standing → List ℕ
standing_word Tentative = codes "tentative"
standing_word Final = codes "final"
standing_word Changed = codes "changed"
