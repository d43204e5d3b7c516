-- The words after `renew`: what its options take, and what they ask for.
use Rattle.std.specs.Prelude.{◌-◌, ℕ, Bool, List, [], ◌∷◌, Some, codes, map}
use Rattle.clap.specs.Words.{App, Row, Rule, Text, new_app}
use Rattle.clap.specs.declared.builder.action.ArgAction.TheVariants.{Append}
use Rattle.bayou_base.specs.declared.limits.TheConstants.{SERVERS}
use Rattle.bayou_command.specs.Options.{file_option_rule, flag_of, flag_rule, folder_name, folder_rule, needed, number_of, number_rule, option_rule, text_of, texts_of, with_rules}
use Rattle.bayou_command.specs.declared.renewing.Renewing.{Renewing}

-- whose journal is renewed, and where it goes
abbrev pub whose_rules : List Rule
whose_rules = needed (number_rule (codes "id") 0 (SERVERS - 1)) ∷ needed (number_rule (codes "servers") 1 SERVERS) ∷ folder_rule ∷ needed (file_option_rule (codes "to")) ∷ []

-- what is taken along; `without` as often as one likes
abbrev pub wanted_rules : List Rule
wanted_rules = needed (option_rule (codes "at")) ∷ number_rule (codes "servers-then") 1 SERVERS ∷ record (option_rule (codes "without")) { action = Some Append } ∷ flag_rule (codes "full") ∷ []

-- `renew` takes options alone
abbrev pub renew_app : App
renew_app = with_rules (with_rules (new_app (codes "renew")) whose_rules) wanted_rules

-- what is asked of a server whose store goes on as a new one
pub record Renewal : Type 0 where
  pub id : ℕ
  pub servers : ℕ
  pub servers_then : ℕ
  pub folder : Text
  pub to : Text
  pub at : Text
  pub without : List Text
  pub is_full : Bool

-- what the options ask for; the new store has as many servers as the old one, where nothing else is said
abbrev pub renewal_of : List Row → Renewal
renewal_of rows = record {
  id = number_of (codes "id") 0 (SERVERS - 1) 0 rows;
  servers = number_of (codes "servers") 1 SERVERS 1 rows;
  servers_then = number_of (codes "servers-then") 1 SERVERS (number_of (codes "servers") 1 SERVERS 1 rows) rows;
  folder = text_of folder_name rows;
  to = text_of (codes "to") rows;
  at = text_of (codes "at") rows;
  without = texts_of (codes "without") rows;
  is_full = flag_of (codes "full") rows;
}

-- what is seen of it
abbrev pub renewal_seen : Renewing → Renewal
renewal_seen renewing = record {
  id = renewing.id;
  servers = renewing.servers;
  servers_then = renewing.servers_then;
  folder = renewing.folder.now;
  to = renewing.to.now;
  at = renewing.at.now;
  without = map (λ prefix. prefix.now) renewing.without.items;
  is_full = renewing.is_full;
}
