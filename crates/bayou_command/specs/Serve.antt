-- The words after `serve`: what its options take, and what they ask for.
use Rattle.std.specs.Prelude.{◌-◌, ℕ, Bool, List, [], ◌∷◌, Option, Some, codes, map, option_map}
use Rattle.clap.specs.Words.{App, Row, Rule, Text, new_app}
use Rattle.clap.specs.declared.builder.action.ArgAction.TheVariants.{Append}
use Rattle.bayou_base.specs.declared.limits.TheConstants.{DEFAULT_CONNECTIONS, DEFAULT_EVERY_SECONDS, DEFAULT_IDLE_SECONDS, MAX_CONNECTIONS, MAX_SECONDS, MAX_WRITES, SERVERS}
use Rattle.bayou_command.specs.Options.{file_option_rule, flag_of, flag_rule, folder_name, folder_rule, given_of, needed, number_of, number_rule, option_rule, text_of, texts_of, with_rules}
use Rattle.bayou_command.specs.declared.serving.Serving.{Serving}

-- what must be there
abbrev pub needed_rules : List Rule
needed_rules = needed (number_rule (codes "id") 0 (SERVERS - 1)) ∷ needed (number_rule (codes "servers") 1 SERVERS) ∷ folder_rule ∷ needed (option_rule (codes "listen")) ∷ []

-- what may be there; `peer` and `without` as often as one likes
abbrev pub choice_rules : List Rule
choice_rules = record (option_rule (codes "peer")) { action = Some Append } ∷ number_rule (codes "every") 1 MAX_SECONDS ∷ number_rule (codes "limit") 1 MAX_WRITES
    ∷ number_rule (codes "connections") 1 MAX_CONNECTIONS ∷ number_rule (codes "idle") 1 MAX_SECONDS ∷ file_option_rule (codes "key")
    ∷ record (option_rule (codes "without")) { action = Some Append } ∷ []

abbrev pub flag_rules : List Rule
flag_rules = flag_rule (codes "until-input-ends") ∷ flag_rule (codes "new") ∷ flag_rule (codes "restore") ∷ flag_rule (codes "anyone") ∷ []

-- `serve` takes options alone
abbrev pub serve_app : App
serve_app = with_rules (with_rules (with_rules (new_app (codes "serve")) needed_rules) choice_rules) flag_rules

-- what is asked of a server that is to live
pub record Service : Type 0 where
  pub id : ℕ
  pub servers : ℕ
  pub folder : Text
  pub listen : Text
  pub peers : List Text
  pub left_out : List Text
  pub key : Option Text
  pub every_seconds : ℕ
  pub limit : ℕ
  pub connections : ℕ
  pub idle_seconds : ℕ
  pub until_input_ends : Bool
  pub is_new : Bool
  pub is_restored : Bool
  pub serves_anyone : Bool

-- what the options ask for
abbrev pub service_of : List Row → Service
service_of rows = record {
  id = number_of (codes "id") 0 (SERVERS - 1) 0 rows;
  servers = number_of (codes "servers") 1 SERVERS 1 rows;
  folder = text_of folder_name rows;
  listen = text_of (codes "listen") rows;
  peers = texts_of (codes "peer") rows;
  left_out = texts_of (codes "without") rows;
  key = given_of (codes "key") rows;
  every_seconds = number_of (codes "every") 1 MAX_SECONDS DEFAULT_EVERY_SECONDS rows;
  limit = number_of (codes "limit") 1 MAX_WRITES MAX_WRITES rows;
  connections = number_of (codes "connections") 1 MAX_CONNECTIONS DEFAULT_CONNECTIONS rows;
  idle_seconds = number_of (codes "idle") 1 MAX_SECONDS DEFAULT_IDLE_SECONDS rows;
  until_input_ends = flag_of (codes "until-input-ends") rows;
  is_new = flag_of (codes "new") rows;
  is_restored = flag_of (codes "restore") rows;
  serves_anyone = flag_of (codes "anyone") rows;
}

-- what is seen of it
abbrev pub service_seen : Serving → Service
service_seen serving = record {
  id = serving.id;
  servers = serving.servers;
  folder = serving.folder.now;
  listen = serving.listen.now;
  peers = map (λ peer. peer.now) serving.peers.items;
  left_out = map (λ server. server.now) serving.left_out.items;
  key = option_map (λ name. name.now) serving.key;
  every_seconds = serving.every_seconds;
  limit = serving.limit;
  connections = serving.connections;
  idle_seconds = serving.idle_seconds;
  until_input_ends = serving.until_input_ends;
  is_new = serving.is_new;
  is_restored = serving.is_restored;
  serves_anyone = serving.serves_anyone;
}
