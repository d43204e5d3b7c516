-- What is whole of the file of a book: this project's own.
use Rattle.std.specs.Prelude.{◌≡◌, ◌≢◌, ◌-◌, ◌<◌, ◌≤◌, ◌==◌, ℕ, Bool, true, false, if◌then◌else◌, List, MatchOption, Option, length, nat_eq, slice_index}
use Rattle.std.specs.List.{starts_with}

-- so many bytes at the front are whole lines, and no line feed stands after them
pub record AreWholeLines (text : List ℕ) (count : ℕ) : Type 0 where
  pub within : count ≤ length text
  pub ended : 0 < count → slice_index text (count - 1) ≡ 10
  pub rest : (at : ℕ) → count ≤ at → at < length text → slice_index text at ≢ 10

-- with so many bytes of whole lines the text begins with this line; with none it is a beginning of it, which was torn
abbrev pub is_book : (text first : List ℕ) → (whole : ℕ) → Bool
is_book text first whole = if whole == 0 then starts_with nat_eq first text else starts_with nat_eq text first

-- of a book with this first line the whole lines stay, and of another text nothing does
abbrev pub StaysOf : (text first : List ℕ) → Option ℕ → Type 0
StaysOf text first stays = MatchOption stays
    ((whole : ℕ) × AreWholeLines text whole × (is_book text first whole ≡ false))
    (λ whole. AreWholeLines text whole × (is_book text first whole ≡ true))
