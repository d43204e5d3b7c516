-- The options of a command and the file that it names: what they take, and what they give.
use Rattle.std.specs.Prelude.{◌&&◌, ◌^◌, if◌then◌else◌, ℕ, Bool, true, false, List, [], Option, None, Some, codes, fold, nat_le, nat_lt, option_and_then, pos, unwrap_or}
use Rattle.std.specs.Str.{bytes_eq}
use Rattle.std.specs.Str.Parse.{digits_value, without_leading_plus}
use Rattle.clap.specs.ValueTests.{is_numeral}
use Rattle.clap.specs.Words.{App, Row, Rule, Text, all_of, first_of, new_rule, one_of, with_rule}
use Rattle.clap.specs.declared.builder.action.ArgAction.TheVariants.{SetTrue}
use Rattle.clap.specs.declared.builder.value_parser.ValueParser.TheVariants.{NonEmptyString, Signed}
use Rattle.bayou_command.specs.declared.Source.{Source}
use Rattle.bayou_command.specs.declared.Source.TheVariants.{Standard, File}

-- the option that names a folder: it must be there, and its name has a byte
abbrev pub folder_name : Text
folder_name = codes "DIR"

abbrev pub folder_rule : Rule
folder_rule = record (new_rule folder_name) { long = Some (codes "dir"); parser = Some NonEmptyString; required = true }

-- the word after a command that names a file
abbrev pub file_name : Text
file_name = codes "FILE"

abbrev pub file_rule : Rule
file_rule = new_rule file_name

-- an option with a value, which the usage names
abbrev pub option_rule : Text → Rule
option_rule name = record (new_rule name) { long = Some name; value_names = 1 }

-- an option that names a file; its name has a byte
abbrev pub file_option_rule : Text → Rule
file_option_rule name = record (option_rule name) { parser = Some NonEmptyString }

-- its value is a number from least to most
abbrev pub number_rule : Text → ℕ → ℕ → Rule
number_rule name least most = record (option_rule name) { parser = Some (Signed (pos least) (pos most)) }

-- a flag is there or not
abbrev pub flag_rule : Text → Rule
flag_rule name = record (new_rule name) { long = Some name; action = Some SetTrue }

abbrev pub needed : Rule → Rule
needed rule = record rule { required = true }

abbrev pub with_rules : App → List Rule → App
with_rules app rules = fold with_rule app rules

-- the text that an option gives, if it is there
abbrev pub given_of : Text → List Row → Option Text
given_of name rows = first_of name rows

-- the text that an option gives, as it is wherever the option must be there
abbrev pub text_of : Text → List Row → Text
text_of name rows = unwrap_or (first_of name rows) []

-- the number of 32 bits that a text is in decimal digits
abbrev pub number_read : Text → Option ℕ
number_read text =
    let digits = without_leading_plus text in
    if is_numeral digits && nat_lt (digits_value 10 digits) (2 ^ 32) then Some (digits_value 10 digits) else None

-- a number in its range; there is none in place of any other
abbrev pub number_within : ℕ → ℕ → Option ℕ → Option ℕ
number_within least most None = None
number_within least most (Some number) = if nat_le least number && nat_le number most then Some number else None

-- the number that an option gives, if it is there
abbrev pub number_given : Text → ℕ → ℕ → List Row → Option ℕ
number_given name least most rows = number_within least most (option_and_then number_read (one_of name rows))

-- the number that an option gives, and `other` where it isn't there
abbrev pub number_of : Text → ℕ → ℕ → ℕ → List Row → ℕ
number_of name least most other rows = unwrap_or (number_given name least most rows) other

abbrev pub is_true : Option Text → Bool
is_true None = false
is_true (Some text) = bytes_eq text (codes "true")

abbrev pub flag_of : Text → List Row → Bool
flag_of name rows = is_true (first_of name rows)

-- the texts that an option gives, in the order of the words
abbrev pub texts_of : Text → List Row → List Text
texts_of name rows = unwrap_or (all_of name rows) []

-- where an input comes from: the standard input, or the file of this name
pub data Input : Type 0 where
  standard : Input
  file : Text → Input

-- no name, and the name `-`, is the standard input
abbrev pub input_named : Option Text → Input
input_named None = standard
input_named (Some name) = if bytes_eq name (codes "-") then standard else file name

abbrev pub input_of : List Row → Input
input_of rows = input_named (first_of file_name rows)

-- what is seen of an input
abbrev pub input_seen : Source → Input
input_seen Standard = standard
input_seen (File name) = file name.now
