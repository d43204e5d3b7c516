-- The JSON of what became of a line (RFC 8259): this project's own form.
use Rattle.std.specs.Prelude.{◌≡◌, ℕ, List, [], ◌∷◌, ◌++◌, codes, decimal, if◌then◌else◌, map}
use Rattle.std.specs.Str.{is_utf8}
use Rattle.std.specs.Str.Lines.{lines}
use Rattle.json.specs.Lex.{tokens}
use Rattle.json.specs.Token.{Token, begin_array, begin_object, end_array, end_object, key, number, string}

-- bytes as the text that they are, if they are one
abbrev pub text_of : List ℕ → List ℕ
text_of bytes = if is_utf8 bytes then bytes else []

-- the lines of a text, as an array
unfoldable pub lines_tokens : List ℕ → List Token
lines_tokens bytes = begin_array ∷ (map string (lines (text_of bytes)) ++ end_array ∷ [])

-- what is printed, and what is reported beside that
abbrev pub said_tokens : (printed told : List ℕ) → List Token
said_tokens printed told = key (codes "lines") ∷ (lines_tokens printed ++ key (codes "told") ∷ lines_tokens told)

-- {"lines": what is printed, "told": what is reported beside that, "status": number}
abbrev pub done_tokens : (printed told : List ℕ) → (status : ℕ) → List Token
done_tokens printed told status =
    begin_object ∷ (said_tokens printed told ++ key (codes "status") ∷ number (decimal status) ∷ end_object ∷ [])

-- the text is that JSON
abbrev pub IsDone : (printed told : List ℕ) → (status : ℕ) → (text : List ℕ) → Type 0
IsDone printed told status text = tokens text ≡ done_tokens printed told status
