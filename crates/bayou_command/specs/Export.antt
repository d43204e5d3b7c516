-- The words after `export`: what its options take, and what they ask for.
use Rattle.std.specs.Prelude.{◌-◌, ℕ, List, [], ◌∷◌, Option, Some, codes, map, option_map}
use Rattle.clap.specs.Words.{App, Row, Rule, Text, new_app, new_rule}
use Rattle.clap.specs.declared.builder.action.ArgAction.TheVariants.{Append}
use Rattle.bayou_base.specs.declared.limits.TheConstants.{DEFAULT_TIMEOUT_SECONDS, MAX_SECONDS, SERVERS}
use Rattle.bayou_command.specs.Options.{file_option_rule, given_of, number_given, number_of, number_rule, option_rule, texts_of, with_rules}
use Rattle.bayou_command.specs.declared.exporting.Exporting.{Exporting}

-- which servers are asked, if that is how rows are found, of how many
abbrev pub asked_rules : List Rule
asked_rules = record (option_rule (codes "server")) { action = Some Append } ∷ number_rule (codes "servers") 1 SERVERS ∷ file_option_rule (codes "key") ∷ number_rule (codes "timeout") 1 MAX_SECONDS ∷ []

-- whose journal is read, if that is how, and what keys begin with
abbrev pub read_rules : List Rule
read_rules = file_option_rule (codes "dir") ∷ number_rule (codes "id") 0 (SERVERS - 1) ∷ new_rule (codes "PREFIX") ∷ []

abbrev pub export_app : App
export_app = with_rules (with_rules (new_app (codes "export")) asked_rules) read_rules

-- what is asked of the rows of a server
pub record Export : Type 0 where
  pub servers : List Text
  pub count : Option ℕ
  pub key : Option Text
  pub timeout_seconds : ℕ
  pub folder : Option Text
  pub id : Option ℕ
  pub prefix : Option Text

-- what the options ask for
abbrev pub export_of : List Row → Export
export_of rows = record {
  servers = texts_of (codes "server") rows;
  count = number_given (codes "servers") 1 SERVERS rows;
  key = given_of (codes "key") rows;
  timeout_seconds = number_of (codes "timeout") 1 MAX_SECONDS DEFAULT_TIMEOUT_SECONDS rows;
  folder = given_of (codes "dir") rows;
  id = number_given (codes "id") 0 (SERVERS - 1) rows;
  prefix = given_of (codes "PREFIX") rows;
}

-- what is seen of it
abbrev pub export_seen : Exporting → Export
export_seen exporting = record {
  servers = map (λ server. server.now) exporting.servers.items;
  count = exporting.count;
  key = option_map (λ name. name.now) exporting.key;
  timeout_seconds = exporting.timeout_seconds;
  folder = option_map (λ name. name.now) exporting.folder;
  id = exporting.id;
  prefix = option_map (λ prefix. prefix.now) exporting.prefix;
}
