-- Keys, prefixes and values.
use Rattle.std.specs.Prelude.{ℕ, List, Ok, Err, length, nat_le, option_and_then, if◌then◌else◌}
use Rattle.std.specs.Option.{option_map_or, ok_or}
use Rattle.serde_json.specs.Data.{Data}
use Rattle.serde_json.specs.Find.{as_number, as_i64, as_str}
use Rattle.bayou_base.specs.Key.{key_fault, prefix_fault}
use Rattle.bayou_base.specs.declared.limits.TheConstants.{MAX_TEXT_BYTES}
use Rattle.bayou_base.specs.declared.value.Value.{Value}
use Rattle.bayou_base.specs.declared.value.Value.TheVariants.{Num, Text}
use Rattle.bayou_text.specs.declared.line.LineFault.TheVariants as fault
use Rattle.bayou_text.specs.declared.line.Shape.TheVariants.{Name, Worth}
use Rattle.bayou_text.specs.Reading.{Parsed, ◌>>=◌}

-- the key of this name
abbrev pub key_of : List ℕ → Parsed (List ℕ)
key_of name = option_map_or (λ why. Err (fault.Key why)) (key_fault name) (Ok name)

-- a key is a text
abbrev pub key_in : Data → Parsed (List ℕ)
key_in d = ok_or (as_str d) (fault.BadShape Name) >>= key_of

-- the prefix of these bytes
abbrev pub prefix_of : List ℕ → Parsed (List ℕ)
prefix_of text = option_map_or (λ why. Err (fault.Key why)) (prefix_fault text) (Ok text)

-- a prefix is a text
abbrev pub prefix_in : Data → Parsed (List ℕ)
prefix_in d = ok_or (as_str d) (fault.BadShape Name) >>= prefix_of

-- a text value isn't longer than it may be
abbrev pub text_of : List ℕ → Parsed Value
text_of text = if nat_le (length text) MAX_TEXT_BYTES then Ok (Text text) else Err (fault.BadShape Worth)

-- a value is an integer of i64, or a text
abbrev pub value_in : Data → Parsed Value
value_in d =
    option_map_or (λ n. Ok (Num n)) (option_and_then as_i64 (as_number d))
    (ok_or (as_str d) (fault.BadShape Worth) >>= text_of)
