-- The JSON of rows (RFC 8259): this project's own form.
use Rattle.std.specs.Prelude.{ℕ, Bool, List, [], ◌∷◌, ◌++◌, Option, Some, None, codes, flat_map, if◌then◌else◌, nat_eq}
use Rattle.std.specs.Fmt.{signed_decimal}
use Rattle.std.specs.List.{starts_with}
use Rattle.bayou_base.specs.declared.value.Value.{Value}
use Rattle.bayou_base.specs.declared.value.Value.TheVariants.{Num, Text}
use Rattle.bayou_final.specs.Standing.{standing_word}
use Rattle.bayou_final.specs.declared.standing.Standing.{Standing}
use Rattle.bayou_web_state.specs.declared.row.Row.{Row}
use Rattle.json.specs.Token.{Token, begin_object, end_object, key, string, null}

abbrev pub begins_with : (prefix name : List ℕ) → Bool
begins_with prefix name = starts_with nat_eq name prefix

-- its kind, and the value as a text: readers of JSON may hold a number as a double
abbrev pub value_tokens : Value → List Token
value_tokens (Num number) = key (codes "type") ∷ string (codes "num") ∷ key (codes "value") ∷ string (signed_decimal number) ∷ []
value_tokens (Text text) = key (codes "type") ∷ string (codes "text") ∷ key (codes "value") ∷ string text ∷ []

abbrev pub standing_token : Option Standing → Token
standing_token None = null
standing_token (Some standing) = string (standing_word standing)

-- {"key": key, "type": kind, "value": value, "standing": word}
abbrev pub row_tokens : Row → List Token
row_tokens row = begin_object ∷ key (codes "key") ∷ string row.key ∷ (value_tokens row.value ++ key (codes "standing") ∷ standing_token row.standing ∷ end_object ∷ [])

-- the row, if its key begins so
abbrev pub asked_tokens : (prefix : List ℕ) → Row → List Token
asked_tokens prefix row = if begins_with prefix row.key then row_tokens row else []

-- each row whose key begins so, in order
abbrev pub rows_tokens : (prefix : List ℕ) → List Row → List Token
rows_tokens prefix rows = flat_map (asked_tokens prefix) rows
