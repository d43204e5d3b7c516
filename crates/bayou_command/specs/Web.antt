-- The words after `web`: what its options take, and what they ask for.
use Rattle.std.specs.Prelude.{ℕ, List, [], ◌∷◌, Option, Some, None, codes, map, option_map}
use Rattle.clap.specs.Words.{App, Row, Rule, Text, new_app}
use Rattle.bayou_base.specs.declared.limits.TheConstants.{DEFAULT_TIMEOUT_SECONDS, MAX_SECONDS, SERVERS}
use Rattle.bayou_command.specs.Connect.{store_rules}
use Rattle.bayou_command.specs.Options.{file_option_rule, given_of, needed, number_given, number_of, number_rule, option_rule, text_of, texts_of, with_rules}
use Rattle.bayou_command.specs.declared.showing.Showing.{Showing}
use Rattle.bayou_command.specs.declared.web.TheConstants.{LISTEN}

-- what is kept, which must be named, as whom the person claims, where the page is, and how long a server has
abbrev pub shown_rules : List Rule
shown_rules = needed (file_option_rule (codes "state")) ∷ option_rule (codes "name") ∷ option_rule (codes "listen") ∷ number_rule (codes "timeout") 1 MAX_SECONDS ∷ []

abbrev pub web_app : App
web_app = with_rules (with_rules (new_app (codes "web")) store_rules) shown_rules

-- what is asked of a person's page
pub record Web : Type 0 where
  pub servers : List Text
  pub count : Option ℕ
  pub asks : Option Text
  pub key : Option Text
  pub state : Text
  pub name : Option Text
  pub listen : Text
  pub timeout_seconds : ℕ

-- the address that is given, or else the one that is meant
abbrev pub given_or_usual : Option Text → Text
given_or_usual None = LISTEN.now
given_or_usual (Some address) = address

abbrev pub listen_of : List Row → Text
listen_of rows = given_or_usual (given_of (codes "listen") rows)

-- what the options ask for
abbrev pub web_of : List Row → Web
web_of rows = record {
  servers = texts_of (codes "server") rows;
  count = number_given (codes "servers") 1 SERVERS rows;
  asks = given_of (codes "session") rows;
  key = given_of (codes "key") rows;
  state = text_of (codes "state") rows;
  name = given_of (codes "name") rows;
  listen = listen_of rows;
  timeout_seconds = number_of (codes "timeout") 1 MAX_SECONDS DEFAULT_TIMEOUT_SECONDS rows;
}

-- what is seen of it
abbrev pub web_seen : Showing → Web
web_seen showing = record {
  servers = map (λ server. server.now) showing.servers.items;
  count = showing.count;
  asks = option_map (λ asks. asks.now) showing.asks;
  key = option_map (λ name. name.now) showing.key;
  state = showing.state.now;
  name = option_map (λ name. name.now) showing.name;
  listen = showing.listen.now;
  timeout_seconds = showing.timeout_seconds;
}
