-- The mark of a server that lost Writes of its own: this project's own.
use Rattle.std.specs.Prelude.{ℕ, ◌<◌, List, codes, length}

-- what is written as a mark
abbrev pub mark_text : List ℕ
mark_text = codes "lost\n"

-- any bytes are a mark, also a front of what was to be written
abbrev pub IsMark : List ℕ → Type 0
IsMark bytes = 0 < length bytes
