-- Each line of an export ends with a line feed.
use Rattle.std.proofs.Common.{ℕ, List, [], ◌∷◌, ◌++◌, arith}
use Rattle.std.proofs.lemmas.List.{length_push, get_or_push}
use Rattle.std.specs.Io.{IsEmptyOrEndsWith}

pub line_ends : (text : List ℕ) → IsEmptyOrEndsWith (text ++ 10 ∷ []) 10
line_ends text = λ some. get_or_push text 10 0 _ (omega (arith, length_push text 10))
