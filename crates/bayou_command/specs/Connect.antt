-- The words after `connect`: what its options take, and what they ask for.
use Rattle.std.specs.Prelude.{ℕ, Bool, List, [], ◌∷◌, Option, Some, codes, map, option_map}
use Rattle.clap.specs.Words.{App, Row, Rule, Text, new_app}
use Rattle.clap.specs.declared.builder.action.ArgAction.TheVariants.{Append}
use Rattle.bayou_base.specs.declared.limits.TheConstants.{DEFAULT_TIMEOUT_SECONDS, MAX_SECONDS, SERVERS}
use Rattle.bayou_command.specs.Options.{Input, file_option_rule, file_rule, flag_of, flag_rule, given_of, input_of, input_seen, needed, number_given, number_of, number_rule, option_rule, texts_of, with_rules}
use Rattle.bayou_command.specs.declared.connecting.Connecting.{Connecting}

-- which servers there are, of which one must be named, what the session asks for, and the key of the store
abbrev pub store_rules : List Rule
store_rules = record (needed (option_rule (codes "server"))) { action = Some Append } ∷ number_rule (codes "servers") 1 SERVERS ∷ option_rule (codes "session") ∷ file_option_rule (codes "key") ∷ []

-- what is kept, for how long it waits, whether rows are printed as JSON, and a file of lines or none
abbrev pub kept_rules : List Rule
kept_rules = file_option_rule (codes "state") ∷ file_option_rule (codes "book") ∷ file_option_rule (codes "log") ∷ number_rule (codes "wait") 0 MAX_SECONDS ∷ number_rule (codes "timeout") 1 MAX_SECONDS ∷ flag_rule (codes "json") ∷ file_rule ∷ []

abbrev pub connect_app : App
connect_app = with_rules (with_rules (new_app (codes "connect")) store_rules) kept_rules

-- what is asked of a person's session
pub record Connection : Type 0 where
  pub servers : List Text
  pub count : Option ℕ
  pub asks : Option Text
  pub key : Option Text
  pub state : Option Text
  pub book : Option Text
  pub log : Option Text
  pub wait_seconds : ℕ
  pub timeout_seconds : ℕ
  pub is_json : Bool
  pub input : Input

-- what the options ask for
abbrev pub connection_of : List Row → Connection
connection_of rows = record {
  servers = texts_of (codes "server") rows;
  count = number_given (codes "servers") 1 SERVERS rows;
  asks = given_of (codes "session") rows;
  key = given_of (codes "key") rows;
  state = given_of (codes "state") rows;
  book = given_of (codes "book") rows;
  log = given_of (codes "log") rows;
  wait_seconds = number_of (codes "wait") 0 MAX_SECONDS 0 rows;
  timeout_seconds = number_of (codes "timeout") 1 MAX_SECONDS DEFAULT_TIMEOUT_SECONDS rows;
  is_json = flag_of (codes "json") rows;
  input = input_of rows;
}

-- what is seen of it
abbrev pub connection_seen : Connecting → Connection
connection_seen connecting = record {
  servers = map (λ server. server.now) connecting.servers.items;
  count = connecting.count;
  asks = option_map (λ asks. asks.now) connecting.asks;
  key = option_map (λ name. name.now) connecting.key;
  state = option_map (λ name. name.now) connecting.state;
  book = option_map (λ name. name.now) connecting.book;
  log = option_map (λ name. name.now) connecting.log;
  wait_seconds = connecting.wait_seconds;
  timeout_seconds = connecting.timeout_seconds;
  is_json = connecting.is_json;
  input = input_seen connecting.input;
}
