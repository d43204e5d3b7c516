-- The words after `import`: what its options take, and what they ask for.
use Rattle.std.specs.Prelude.{ℕ, List, [], ◌∷◌, Option, Some, codes, map, option_map}
use Rattle.clap.specs.Words.{App, Row, Rule, Text, new_app}
use Rattle.clap.specs.declared.builder.action.ArgAction.TheVariants.{Append}
use Rattle.bayou_base.specs.declared.limits.TheConstants.{DEFAULT_TIMEOUT_SECONDS, MAX_SECONDS, SERVERS}
use Rattle.bayou_command.specs.Options.{file_name, file_option_rule, file_rule, given_of, needed, number_given, number_of, number_rule, option_rule, text_of, texts_of, with_rules}
use Rattle.bayou_command.specs.declared.importing.Importing.{Importing}

-- which servers there are, of which one must be named, and the key of the store
abbrev pub met_rules : List Rule
met_rules = record (needed (option_rule (codes "server"))) { action = Some Append } ∷ number_rule (codes "servers") 1 SERVERS ∷ file_option_rule (codes "key") ∷ []

-- what is kept, for how long it waits, and the file of the lines, which must be named
abbrev pub put_rules : List Rule
put_rules = file_option_rule (codes "state") ∷ number_rule (codes "wait") 0 MAX_SECONDS ∷ number_rule (codes "timeout") 1 MAX_SECONDS ∷ needed file_rule ∷ []

abbrev pub import_app : App
import_app = with_rules (with_rules (new_app (codes "import")) met_rules) put_rules

-- what is asked of lines that are put into a store
pub record Import : Type 0 where
  pub servers : List Text
  pub count : Option ℕ
  pub key : Option Text
  pub state : Option Text
  pub wait_seconds : ℕ
  pub timeout_seconds : ℕ
  pub file : Text

-- what the options ask for
abbrev pub import_of : List Row → Import
import_of rows = record {
  servers = texts_of (codes "server") rows;
  count = number_given (codes "servers") 1 SERVERS rows;
  key = given_of (codes "key") rows;
  state = given_of (codes "state") rows;
  wait_seconds = number_of (codes "wait") 0 MAX_SECONDS 0 rows;
  timeout_seconds = number_of (codes "timeout") 1 MAX_SECONDS DEFAULT_TIMEOUT_SECONDS rows;
  file = text_of file_name rows;
}

-- what is seen of it
abbrev pub import_seen : Importing → Import
import_seen importing = record {
  servers = map (λ server. server.now) importing.servers.items;
  count = importing.count;
  key = option_map (λ name. name.now) importing.key;
  state = option_map (λ name. name.now) importing.state;
  wait_seconds = importing.wait_seconds;
  timeout_seconds = importing.timeout_seconds;
  file = importing.file.now;
}
