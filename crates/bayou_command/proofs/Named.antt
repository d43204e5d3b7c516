-- What `clap` says of words that the program's command takes or refuses.
use Rattle.std.proofs.Common.{◌≡◌, ◌∙◌, if◌then◌else◌, Bool, Bor, List, [], Option, None, Some, Err, inl, inr, true, false, ap, codes, option_map, refl, sym, unwrap_or}
use Rattle.std.specs.Str.{bytes_eq}
use Rattle.clap.proofs.WalkLemmas.{first_value-rows}
use Rattle.clap.proofs.OnLiterals.{clap_on_literals}
use Rattle.clap.specs.Kinds.{HasKind}
use Rattle.clap.specs.Values.{kind_of}
use Rattle.clap.specs.Words.{Text, first_value, is_simple, is_simple_and_free, rows_of}
use Rattle.clap.specs.declared.parser.matches.Found.{Found}
use Rattle.clap.specs.declared.error.Error.{Error}
use Rattle.clap.specs.declared.error.kind.ErrorKind.TheVariants.{OutOfMemory}
use Rattle.bayou_command.specs.declared.Stop.{Stop}
use Rattle.bayou_command.specs.declared.Stop.TheVariants.{Asked, Refused, Memory}
use Rattle.bayou_command.specs.Words.{Input, Names, bayou_app, faults_of, file, file_name, input_named, input_of, standard}
use Rattle.bayou_command.specs.Options.{text_of}
use Rattle.bayou_command.specs.Inner.Stops.{StopsAt}

pub simple : is_simple_and_free bayou_app ≡ true
unfolding clap_on_literals
simple = refl

pub plain : is_simple bayou_app ≡ true
unfolding clap_on_literals
plain = refl

-- an error that the words may meet is told as what it is
pub stopped : (words : List Text) (error : Error) (stop : Stop) → HasKind (faults_of words) error → (kind_of error ≡ OutOfMemory → stop ≡ Memory)
    → StopsAt (kind_of error) stop → Names words (Err stop)
stopped words error (Asked text) (inl lacked) memory at = let bad = memory lacked in absurd (cc)
stopped words error (Asked text) (inr among) memory at = record { kind = kind_of error; among = among; request = at }
stopped words error (Refused text) (inl lacked) memory at = let bad = memory lacked in absurd (cc)
stopped words error (Refused text) (inr among) memory at = record { kind = kind_of error; among = among; mistake = at }
stopped words error Memory has memory at = tt

-- the input is the one that the word names
pub named_by : (found : Found) (word : Option Text) (input : Input) → word ≡ first_value found file_name → input ≡ input_named word → input ≡ input_of (rows_of found)
named_by found word input is named = named ∙ ap input_named (is ∙ first_value-rows found file_name)

pub dash : (name : Text) → bytes_eq name (codes "-") ≡ true → standard ≡ input_named (Some name)
dash name is = ap (λ (b : Bool). if b then standard else file name) (sym is)

pub no_dash : (name : Text) → bytes_eq name (codes "-") ≡ false → file name ≡ input_named (Some name)
no_dash name is = ap (λ (b : Bool). if b then standard else file name) (sym is)

unwrap_or_now : (word : Option (Bor Text)) (other : Bor Text) → other.now ≡ [] → (unwrap_or word other).now ≡ unwrap_or (option_map (λ s. s.now) word) []
unwrap_or_now None other empty = empty
unwrap_or_now (Some name) other empty = refl

-- the text is the one that the word names
pub text_named : (found : Found) (name : Text) (word : Option (Bor Text)) (text other : Bor Text) → option_map (λ s. s.now) word ≡ first_value found name
    → text ≡ unwrap_or word other → other.now ≡ [] → text.now ≡ text_of name (rows_of found)
text_named found name word text other is named empty =
    ap (λ s. s.now) named ∙ unwrap_or_now word other empty ∙ ap (λ o. unwrap_or o []) (is ∙ first_value-rows found name)
