-- The words after `audit`: what they take, and what they ask for.
use Rattle.std.specs.Prelude.{Bool, ◌&&◌, ◌||◌, List, [], ◌∷◌, Option, codes, is_some, not, option_map, true}
use Rattle.clap.specs.Words.{App, Row, Rule, Text, new_app}
use Rattle.bayou_command.specs.Options.{Input, file_option_rule, file_rule, flag_of, flag_rule, given_of, input_of, input_seen, with_rules}
use Rattle.bayou_command.specs.declared.auditing.Auditing.{Auditing}

-- a file, whether it is explained, by every breach, whether that is printed as JSON, and the file of a picture
abbrev pub audit_rules : List Rule
audit_rules = flag_rule (codes "explain") ∷ flag_rule (codes "all") ∷ flag_rule (codes "json") ∷ file_option_rule (codes "picture") ∷ (record file_rule { required = true }) ∷ []

-- `audit` takes them
abbrev pub audit_app : App
audit_app = with_rules (new_app (codes "audit")) audit_rules

-- what is asked of an audit
pub record Audit : Type 0 where
  pub file : Input
  pub is_explained : Bool
  pub is_all : Bool
  pub is_json : Bool
  pub picture : Option Text

-- what the options ask for; whoever asks for every breach asks for an explanation
abbrev pub auditing_of : List Row → Audit
auditing_of rows = record {
  file = input_of rows;
  is_explained = flag_of (codes "explain") rows || flag_of (codes "all") rows;
  is_all = flag_of (codes "all") rows;
  is_json = flag_of (codes "json") rows;
  picture = given_of (codes "picture") rows;
}

-- nothing is asked for but the audit
abbrev pub is_plain : Audit → Bool
is_plain audit = not audit.is_explained && (not audit.is_json && not (is_some audit.picture))

-- what is seen of it
abbrev pub auditing_seen : Auditing → Audit
auditing_seen auditing = record {
  file = input_seen auditing.file;
  is_explained = auditing.is_explained;
  is_all = auditing.is_all;
  is_json = auditing.is_json;
  picture = option_map (λ name. name.now) auditing.picture;
}
