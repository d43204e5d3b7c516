-- What is spelled has no float.
use Rattle.std.proofs.Common.{◌≡◌, ℕ, pos, negsuc, Bool, false, ◌||◌, List, [], ◌∷◌, map, take, refl, ap}
use Rattle.serde_json.specs.Written.{has_float, items_have_float}
use Rattle.serde_json.specs.View.{items_of}
use Rattle.bayou_base.specs.declared.value.Value.TheVariants.{Num, Text}
use Rattle.bayou_export.specs.Exports.{exported_json, put_json}
use Rattle.bayou_export.specs.declared.journal.Export.{Export}
use Rattle.bayou_log.specs.Rows.{Row}
use Rattle.bayou_text.specs.Spelling.{count_json}

pub put_plain : (row : Row) → has_float (put_json row) ≡ false
put_plain (key, Num (pos n)) = refl
put_plain (key, Num (negsuc n)) = refl
put_plain (key, Text text) = refl

counts_plain : (counts : List ℕ) → items_have_float (items_of (map count_json counts)) ≡ false
counts_plain [] = refl
counts_plain (count ∷ counts) = counts_plain counts

pub exported_plain : (told : ℕ) (export : Export) → has_float (exported_json told export) ≡ false
exported_plain told export = ap (λ (b : Bool). b || false) (counts_plain (take told export.vector))
