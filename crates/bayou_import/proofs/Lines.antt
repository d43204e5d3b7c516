-- One line more of a text says a row.
use Rattle.std.proofs.Common.{◌≡◌, ◌<◌, ◌==◌, ℕ, Bool, true, List, [], ◌∷◌, ◌++◌, inl, inr, length, ap, sym, subst, arith, append_assoc, length-append, ◌∙◌}
use Rattle.std.proofs.lemmas.List.{nil_from_length}
use Rattle.bayou_log.specs.Rows.{Row}
use Rattle.bayou_import.specs.Rows.{SaysRow, SaysRows, SplitsLine}

-- what more rows the rest says, the text says behind these
abbrev pub SaysBehind : (text rest : List ℕ) → (rows : List Row) → Type 0
SaysBehind text rest rows = (more : List Row) → SaysRows rest more → SaysRows text (rows ++ more)

pub none_yet : (text : List ℕ) (rows : List Row) → rows ≡ [] → SaysBehind text text rows
none_yet text rows none more says = subst (λ (all : List Row). SaysRows text (all ++ more)) (sym none) says

pub one_more : (text rest line behind : List ℕ) (rows now : List Row) (row : Row) → SaysBehind text rest rows → SplitsLine rest line behind → SaysRow line row → now ≡ rows ++ row ∷ []
    → SaysBehind text behind now
one_more text rest line behind rows now row so_far split is all more says =
    subst (λ (list : List Row). SaysRows text list) (sym (ap (λ (list : List Row). list ++ more) all ∙ append_assoc rows (row ∷ []) more))
    (so_far (row ∷ more) (line, behind, split, is, says))

-- the rest is shorter behind a line
pub shorter : (rest line behind : List ℕ) → SplitsLine rest line behind → 0 < length rest → length behind < length rest
shorter rest line behind (inl split) some = omega (arith, ap length split, length-append line (10 ∷ behind))
shorter rest line behind (inr (whole, none)) some = omega (arith, some, ap length none)

pub none_left : (text : List ℕ) (none : Bool) → none ≡ (length text == 0) → none ≡ true → text ≡ []
none_left text none is so = nil_from_length text (grind (arith))
