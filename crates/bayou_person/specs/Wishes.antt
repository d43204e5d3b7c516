-- What a person asks for in a line: its words, and what they say. The forms are this project's own; texts in double quotes are those of RFC 8259.
use Rattle.std.specs.Prelude.{◌≡◌, ◌⊎◌, ◌≤◌, ◌+◌, ◌==◌, ◌&&◌, if◌then◌else◌, ℕ, ℤ, Bool, true, false, List, [], ◌∷◌, ◌++◌, All, FitsSigned, IsSomeAnd, Option, None, Some, codes, decimal, drop, filter, length, nat_le, nat_lt, option_and_then, slice_index}
use Rattle.std.specs.Char.{is_ascii_digit}
use Rattle.std.specs.Fmt.{signed_decimal}
use Rattle.std.specs.Int.{w64}
use Rattle.std.specs.List.{after_first, before_first, list_all, list_any, position_or_len, slice_split}
use Rattle.std.specs.Str.{bytes_eq}
use Rattle.std.specs.Str.Parse.{IsNumeral, digits_value, without_leading_plus, without_leading_sign}
use Rattle.serde_json.specs.Find.{as_str}
use Rattle.serde_json.specs.Read.{read}
use Rattle.bayou_base.specs.Key.{key_fault}
use Rattle.bayou_base.specs.Text.{IsShort}
use Rattle.bayou_base.specs.declared.limits.TheConstants.{MAX_ALTERNATIVES}
use Rattle.bayou_base.specs.declared.server.ServerId.{ServerId}
use Rattle.bayou_base.specs.declared.value.Value.{Value}
use Rattle.bayou_base.specs.declared.value.Value.TheVariants.{Num, Text}
use Rattle.bayou_base.specs.declared.wid.Wid.{Wid}
use Rattle.bayou_lang.specs.Ranges.{IsKey}
use Rattle.bayou_person.specs.declared.wish.Wish.{Wish}
use Rattle.bayou_person.specs.declared.wish.Wish.TheVariants.{Put, Add, Del, Claim, Get, At, List as Whole, Rows, Became, Servers, Session, Dump}
use Rattle.bayou_person.specs.declared.wish.ValueFault.{ValueFault}
use Rattle.bayou_person.specs.declared.wish.ValueFault.TheVariants as values
use Rattle.bayou_person.specs.declared.wish.WishFault.{WishFault}
use Rattle.bayou_person.specs.declared.wish.WishFault.TheVariants as fault

-- a word, as its bytes
abbrev pub Word : Type 0
Word = List ℕ

-- the parts of a text between spaces that have a byte
abbrev pub spaced : List ℕ → List Word
spaced text = filter (λ part. nat_lt 0 (length part)) (slice_split (λ byte. byte == 32) text)

-- a double quote
abbrev pub is_quote : ℕ → Bool
is_quote byte = byte == 34

-- the words of a line: those between its spaces, and from its first double quote on one word
abbrev pub words_of : List ℕ → List Word
words_of text =
    if nat_lt (position_or_len is_quote text) (length text) then spaced (before_first is_quote text) ++ drop (position_or_len is_quote text) text ∷ []
    else spaced text

-- the word reads as this number, an i64: it is its decimal digits, after a minus where it is below 0
pub record Reads (word : Word) (number : ℤ) : Type 0 where
  pub fits : FitsSigned w64 number
  pub is : word ≡ signed_decimal number

-- a point
abbrev pub is_point : ℕ → Bool
is_point byte = byte == 46

-- the word looks like a number: digits, with a point among them or none, after a sign or none
abbrev pub looks_like_number : Word → Bool
looks_like_number word =
    let digits = without_leading_sign word in
    list_any is_ascii_digit digits && list_all is_ascii_digit (before_first is_point digits) && list_all is_ascii_digit (after_first is_point digits)

-- the word begins with a double quote
abbrev pub begins_quoted : Word → Bool
begins_quoted word = is_quote (slice_index word 0)

-- the text that a word stands for, if it is one: what JSON reads there where it begins with a double quote; else itself, unless it looks like a number
abbrev pub text_of : Word → Option (List ℕ)
text_of word = if begins_quoted word then option_and_then as_str (read word) else if looks_like_number word then None else Some word

-- the word reads as the number of this server
pub record ReadsServer (word : Word) (server : ServerId) : Type 0 where
  pub digits : IsNumeral 10 (without_leading_plus word)
  pub is : server.index ≡ digits_value 10 (without_leading_plus word)

-- the word is the name of this Write: the number of its server, a colon, and its own number
abbrev pub ReadsName : Word → Wid → Type 0
ReadsName word wid = word ≡ decimal wid.origin.index ++ (codes ":" ++ decimal wid.seq)

-- a value is a number where the word reads as one, and else the text that the word stands for, where that is short enough
abbrev pub IsValueOf : Word → Value → Type 0
IsValueOf word (Num number) = Reads word number
IsValueOf word (Text text) = (text_of word ≡ Some text) × IsShort text × ((number : ℤ) → ¬ (Reads word number))

-- why it is no value
abbrev pub IsNoValue : Word → ValueFault → Type 0
IsNoValue word values.Number = (begins_quoted word ≡ false) × (looks_like_number word ≡ true) × ((number : ℤ) → ¬ (Reads word number))
IsNoValue word values.Quoted = (begins_quoted word ≡ true) × (text_of word ≡ None)
IsNoValue word values.TooLong = IsSomeAnd (text_of word) (λ text. ¬ (IsShort text))

-- the words say this
abbrev pub Says : List Word → Wish → Type 0
Says words (Put key value) = (word : Word) × (words ≡ codes "put" ∷ key ∷ word ∷ []) × IsKey key × IsValueOf word value
Says words (Add key number) = (word : Word) × (words ≡ codes "add" ∷ key ∷ word ∷ []) × IsKey key × Reads word number
Says words (Del key) = (words ≡ codes "del" ∷ key ∷ []) × IsKey key
Says words (Claim key others value) =
    (word : Word) × (words ≡ codes "claim" ∷ key ∷ others.items ++ word ∷ []) × (length others.items ≤ MAX_ALTERNATIVES) × IsKey key × All IsKey others.items × IsValueOf word value
Says words (Get key others) =
    (words ≡ codes "get" ∷ key ∷ others.items) × (length others.items ≤ MAX_ALTERNATIVES) × IsKey key × All IsKey others.items
Says words (At server) = (word : Word) × (words ≡ codes "at" ∷ word ∷ []) × ReadsServer word server
Says words Whole = words ≡ codes "list" ∷ []
Says words (Rows prefix) = (words ≡ codes "list" ∷ prefix ∷ []) × IsKey prefix
Says words (Became wid) = (word : Word) × (words ≡ codes "became" ∷ word ∷ []) × ReadsName word wid
Says words Servers = words ≡ codes "servers" ∷ []
Says words Session = words ≡ codes "session" ∷ []
Says words Dump = words ≡ codes "dump" ∷ []

-- the line says this
abbrev pub Wishes : List ℕ → Wish → Type 0
Wishes text wish = Says (words_of text) wish

-- whether the word is one of these
abbrev pub is_one_of : List Word → Word → Bool
is_one_of words word = list_any (bytes_eq word) words

-- whether a line begins so
abbrev pub is_first : Word → Bool
is_first word =
    is_one_of (codes "put" ∷ codes "add" ∷ codes "del" ∷ codes "claim" ∷ codes "get" ∷ codes "at" ∷ codes "list" ∷ codes "became"
    ∷ codes "servers" ∷ codes "session" ∷ codes "dump" ∷ []) word

-- whether so many words may stand after the first
abbrev pub takes : Word → ℕ → Bool
takes first count =
    if is_one_of (codes "put" ∷ codes "add" ∷ []) first then count == 2
    else if is_one_of (codes "del" ∷ codes "at" ∷ codes "became" ∷ []) first then count == 1
    else if bytes_eq first (codes "claim") then nat_le 2 count && nat_le count (MAX_ALTERNATIVES + 2)
    else if bytes_eq first (codes "get") then nat_le 1 count && nat_le count (MAX_ALTERNATIVES + 1)
    else if bytes_eq first (codes "list") then nat_le count 1
    else count == 0

-- whether a word with so many before it, the first aside, and so many after it is to be a key
abbrev pub is_key_place : Word → ℕ → ℕ → Bool
is_key_place first before after =
    if bytes_eq first (codes "claim") then nat_lt 0 after
    else if bytes_eq first (codes "get") then true
    else is_one_of (codes "put" ∷ codes "add" ∷ codes "del" ∷ codes "list" ∷ []) first && (before == 0)

-- a line begins so, and has so many words
pub record IsFormed (words : List Word) (first : Word) (behind : List Word) : Type 0 where
  pub is : words ≡ first ∷ behind
  pub known : is_first first ≡ true
  pub fits : takes first (length behind) ≡ true

-- the first fault that the words have: that of the first word, then that of their number, then those of the words from the left
abbrev pub Faults : List Word → WishFault → Type 0
Faults words fault.Word = (words ≡ []) ⊎ ((first : Word) × (behind : List Word) × (words ≡ first ∷ behind) × (is_first first ≡ false))
Faults words fault.Count = (first : Word) × (behind : List Word) × (words ≡ first ∷ behind) × (is_first first ≡ true) × (takes first (length behind) ≡ false)
Faults words (fault.Key why) = (first : Word) × (good : List Word) × (key : Word) × (after : List Word) × IsFormed words first (good ++ key ∷ after)
    × (is_key_place first (length good) (length after) ≡ true) × All IsKey good × (key_fault key ≡ Some why)
Faults words (fault.Value why) = (first : Word) × (keys : List Word) × (word : Word) × IsFormed words first (keys ++ word ∷ [])
    × (is_one_of (codes "put" ∷ codes "claim" ∷ []) first ≡ true) × All IsKey keys × IsNoValue word why × ((value : Value) → ¬ (IsValueOf word value))
Faults words fault.Number = (key : Word) × (word : Word) × (words ≡ codes "add" ∷ key ∷ word ∷ []) × IsKey key × ((number : ℤ) → ¬ (Reads word number))
Faults words fault.Server = (word : Word) × (words ≡ codes "at" ∷ word ∷ []) × ((server : ServerId) → ¬ (ReadsServer word server))
Faults words fault.Name = (word : Word) × (words ≡ codes "became" ∷ word ∷ []) × ((wid : Wid) → ¬ (ReadsName word wid))
Faults words fault.OutOfMemory = Unit {0}

-- the line says nothing, for this fault; memory may run out
abbrev pub IsFaultOf : List ℕ → WishFault → Type 0
IsFaultOf text why = Faults (words_of text) why
