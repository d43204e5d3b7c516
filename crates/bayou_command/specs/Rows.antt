-- Words of `serve`, of `connect`, of `renew`, of `export`, of `import` and of `web`, and what they ask for.
use Rattle.std.specs.Prelude.{◌≡◌, ℕ, false, true, List, [], ◌∷◌, None, codes, pos}
use Rattle.std.specs.Str.Parse.{digits_value, without_leading_plus}
use Rattle.clap.specs.ValueTests.{is_signed_in}
use Rattle.clap.specs.Words.{Text, without_minus}
use Rattle.clap.specs.declared.error.kind.ErrorKind.TheVariants.{ValueValidation}
use Rattle.bayou_command.specs.Audit.{Audit}
use Rattle.bayou_command.specs.Check.{Check}
use Rattle.bayou_command.specs.Serve.{Service}
use Rattle.bayou_command.specs.Connect.{Connection}
use Rattle.bayou_command.specs.Export.{Export}
use Rattle.bayou_command.specs.Import.{Import}
use Rattle.bayou_command.specs.Web.{Web}
use Rattle.bayou_command.specs.declared.web.TheConstants.{LISTEN}
use Rattle.bayou_command.specs.Renew.{Renewal}
use Rattle.bayou_command.specs.Words.{AskFor, Asked, faults_of, file, standard}

-- the program and its command, before these words
abbrev pub serve_words : List Text → List Text
serve_words words = codes "bayou" ∷ codes "serve" ∷ words

-- with the options that must be there, and these words
abbrev pub serve_with : List Text → List Text
serve_with words = serve_words (codes "--id" ∷ codes "1" ∷ codes "--servers" ∷ codes "3" ∷ codes "--dir" ∷ codes "d" ∷ codes "--listen" ∷ codes "h:1" ∷ words)

-- what the options that must be there ask for
abbrev pub plain_service : Service
plain_service = record {
  id = 1;
  servers = 3;
  folder = codes "d";
  listen = codes "h:1";
  peers = [];
  left_out = [];
  key = None;
  every_seconds = 1;
  limit = 65536;
  connections = 64;
  idle_seconds = 60;
  until_input_ends = false;
  is_new = false;
  is_restored = false;
  serves_anyone = false;
}

-- the program and its other command, before these words
abbrev pub connect_words : List Text → List Text
connect_words words = codes "bayou" ∷ codes "connect" ∷ words

-- with the one option that must be there, and these words
abbrev pub connect_with : List Text → List Text
connect_with words = connect_words (codes "--server" ∷ codes "0=h:1" ∷ words)

-- what that option asks for
abbrev pub plain_connection : Connection
plain_connection = record {
  servers = codes "0=h:1" ∷ [];
  count = None;
  asks = None;
  key = None;
  state = None;
  book = None;
  log = None;
  wait_seconds = 0;
  timeout_seconds = 3;
  is_json = false;
  input = standard;
}

-- the program and its last command but one, before these words
abbrev pub key_words : List Text → List Text
key_words words = codes "bayou" ∷ codes "key" ∷ words

-- the program and how a store goes on as a new one, before these words
abbrev pub renew_words : List Text → List Text
renew_words words = codes "bayou" ∷ codes "renew" ∷ words

-- with the options that must be there, and these words
abbrev pub renew_with : List Text → List Text
renew_with words = renew_words (codes "--id" ∷ codes "1" ∷ codes "--servers" ∷ codes "3" ∷ codes "--dir" ∷ codes "d" ∷ codes "--to" ∷ codes "n" ∷ codes "--at" ∷ codes "1,2,3" ∷ words)

-- what those options ask for
abbrev pub plain_renewal : Renewal
plain_renewal = record {
  id = 1;
  servers = 3;
  servers_then = 3;
  folder = codes "d";
  to = codes "n";
  at = codes "1,2,3";
  without = [];
  is_full = false;
}

-- the program and how rows are printed, before these words
abbrev pub export_words : List Text → List Text
export_words words = codes "bayou" ∷ codes "export" ∷ words

-- what is asked for where the words say nothing
abbrev pub bare_export : Export
bare_export = record {
  servers = [];
  count = None;
  key = None;
  timeout_seconds = 3;
  folder = None;
  id = None;
  prefix = None;
}

-- the program and how lines are put into a store, before these words
abbrev pub import_words : List Text → List Text
import_words words = codes "bayou" ∷ codes "import" ∷ words

-- with the words that must be there, and these
abbrev pub import_with : List Text → List Text
import_with words = import_words (codes "f" ∷ codes "--server" ∷ codes "s" ∷ words)

-- what those words ask for
abbrev pub plain_import : Import
plain_import = record {
  servers = codes "s" ∷ [];
  count = None;
  key = None;
  state = None;
  wait_seconds = 0;
  timeout_seconds = 3;
  file = codes "f";
}

-- the program and a page, before these words
abbrev pub web_words : List Text → List Text
web_words words = codes "bayou" ∷ codes "web" ∷ words

-- with the words that must be there, and these
abbrev pub web_with : List Text → List Text
web_with words = web_words (codes "--state" ∷ codes "t" ∷ codes "--server" ∷ codes "s" ∷ words)

-- what those words ask for
abbrev pub plain_web : Web
plain_web = record {
  servers = codes "s" ∷ [];
  count = None;
  asks = None;
  key = None;
  state = codes "t";
  name = None;
  listen = LISTEN.now;
  timeout_seconds = 3;
}

-- the program and how a text is checked, before these words
abbrev pub check_words : List Text → List Text
check_words words = codes "bayou" ∷ codes "check" ∷ words

-- what a file alone asks for
abbrev pub plain_check : Check
plain_check = record { file = file (codes "f"); is_json = false }

-- the program and an audit, before these words
abbrev pub audit_words : List Text → List Text
audit_words words = codes "bayou" ∷ codes "audit" ∷ words

-- what a file and `--explain` ask for
abbrev pub explained_audit : Audit
explained_audit = record { file = file (codes "f"); is_explained = true; is_all = false; is_json = false; picture = None }

-- the number that a text is in decimal digits, after a sign or none
abbrev pub number_written : Text → ℕ
number_written text = digits_value 10 (without_leading_plus (without_minus text))

-- any text after an option: a number from least to most is asked for as it is written, and any other text is refused
pub record TakesNumbers (least most : ℕ) (words : Text → List Text) (asked : ℕ → Asked) : Type 0 where
  pub taken : (text : Text) → is_signed_in (pos least) (pos most) text ≡ true → AskFor (words text) (asked (number_written text))
  pub refused : (text : Text) → is_signed_in (pos least) (pos most) text ≡ false → faults_of (words text) ≡ ValueValidation ∷ []
