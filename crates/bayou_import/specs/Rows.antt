-- What the lines of an export say: this project's own.
use Rattle.std.specs.Prelude.{◌≡◌, ◌⊎◌, ℕ, List, [], ◌∷◌, ◌++◌, Option, None, Some, codes, length, nat_le, option_and_then, if◌then◌else◌}
use Rattle.std.specs.Option.{option_map, option_map_or}
use Rattle.std.specs.Str.{bytes_eq}
use Rattle.serde_json.specs.Data.{Data}
use Rattle.serde_json.specs.Find.{as_i64, as_number, as_str, as_u64}
use Rattle.serde_json.specs.Read.{read}
use Rattle.bayou_base.specs.Key.{key_fault}
use Rattle.bayou_base.specs.declared.limits.TheConstants.{MAX_TEXT_BYTES}
use Rattle.bayou_base.specs.declared.value.Value.{Value}
use Rattle.bayou_base.specs.declared.value.Value.TheVariants.{Num, Text}
use Rattle.bayou_log.specs.Rows.{Row}
use Rattle.bayou_text.specs.Reading.{worded}

-- a key is a text that may be one
abbrev pub key_named : List ℕ → Option (List ℕ)
key_named name = option_map_or (λ why. None) (key_fault name) (Some name)

abbrev pub key_said : Data → Option (List ℕ)
key_said d = option_and_then key_named (as_str d)

-- a value is an integer of 64 bits, or a text that isn't too long
abbrev pub text_said : List ℕ → Option Value
text_said text = if nat_le (length text) MAX_TEXT_BYTES then Some (Text text) else None

abbrev pub value_said : Data → Option Value
value_said d = option_map_or (λ n. Some (Num n)) (option_and_then as_i64 (as_number d)) (option_and_then text_said (as_str d))

-- ["put", key, value], after its word
abbrev pub row_of_parts : List ℕ → List Data → Option Row
row_of_parts word (key ∷ value ∷ []) =
    if bytes_eq word (codes "put") then option_and_then (λ name. option_map (λ what. (name, what)) (value_said value)) (key_said key) else None
row_of_parts word [] = None
row_of_parts word (one ∷ []) = None
row_of_parts word (one ∷ two ∷ three ∷ more) = None

abbrev pub row_said : Data → Option Row
row_said d = option_and_then (λ (parts : List ℕ × List Data). row_of_parts parts.0 parts.1) (worded d)

-- ["exported", name, counts, keys], after its word: how many keys follow
abbrev pub keys_of_parts : List ℕ → List Data → Option ℕ
keys_of_parts word (name ∷ counts ∷ keys ∷ []) = if bytes_eq word (codes "exported") then option_and_then as_u64 (as_number keys) else None
keys_of_parts word [] = None
keys_of_parts word (one ∷ []) = None
keys_of_parts word (one ∷ two ∷ []) = None
keys_of_parts word (one ∷ two ∷ three ∷ four ∷ more) = None

abbrev pub keys_said : Data → Option ℕ
keys_said d = option_and_then (λ (parts : List ℕ × List Data). keys_of_parts parts.0 parts.1) (worded d)

-- the line says the row
abbrev pub SaysRow : (line : List ℕ) → Row → Type 0
SaysRow line row = option_and_then row_said (read line) ≡ Some row

-- A line of the text is this, and that stands after its line feed; the last may lack it.
abbrev pub SplitsLine : (text line behind : List ℕ) → Type 0
SplitsLine text line behind = (text ≡ line ++ 10 ∷ behind) ⊎ ((text ≡ line) × (behind ≡ []))

-- the text is a line for each row, which says it
abbrev pub SaysRows : (text : List ℕ) → List Row → Type 0
SaysRows text [] = text ≡ []
SaysRows text (row ∷ rows) = (line behind : List ℕ) × SplitsLine text line behind × SaysRow line row × SaysRows behind rows

-- the text is a line that says how many keys follow, and then so many rows
pub record IsExport (text : List ℕ) (rows : List Row) : Type 0 where
  pub first : List ℕ
  pub behind : List ℕ
  pub split : SplitsLine text first behind
  pub number : option_and_then keys_said (read first) ≡ Some (length rows)
  pub each : SaysRows behind rows
