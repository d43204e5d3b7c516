-- The rows that words ask for, and what is printed of them: this project's own.
use Rattle.std.specs.Prelude.{◌≡◌, ℕ, List, [], MatchResult, None, length, option_map, string_bytes, unwrap_or, false}
use Rattle.bayou_command.specs.Connect.{Connection}
use Rattle.bayou_command.specs.Export.{Export as Asking}
use Rattle.bayou_command.specs.Options.{standard}
use Rattle.bayou_export.specs.Exports.{export_text}
use Rattle.bayou_export.specs.Words.{IsPlanOf, Refuses}
use Rattle.bayou_export.specs.declared.journal.Export.{Export}
use Rattle.bayou_export.specs.declared.plan.ExportPlan.{ExportPlan}
use Rattle.bayou_export.specs.declared.plan.ExportPlanFault.{ExportPlanFault}
use Rattle.bayou_errands.specs.Plans.{IsPlanOfPlaces, RefusesConnection}
use Rattle.bayou_errands.specs.declared.exported.Extract.{Extract}
use Rattle.bayou_socket_run.specs.Damage.{journal_name}
use Rattle.bayou_streams.specs.Account.{Account, TakesBytes}

-- the plan is what the words ask for, or why they ask for none
abbrev pub IsWanted : Asking → ExportPlan → Type 0
IsWanted asked plan = IsPlanOf (length asked.servers) asked.count asked.key asked.folder asked.id asked.prefix plan

abbrev pub RefusesExport : Asking → ExportPlanFault → Type 0
RefusesExport asked fault = Refuses (length asked.servers) asked.count asked.key asked.folder asked.id asked.prefix fault

-- the folder and the number that the words say, where they do
abbrev pub folder_named : Asking → List ℕ
folder_named asked = unwrap_or asked.folder []

abbrev pub number_named : Asking → ℕ
number_named asked = unwrap_or asked.id 0

-- who is asked: as a person would who keeps nothing, and asks for nothing and no longer than once
abbrev pub places_asked : Asking → Connection
places_asked asked = record {
  servers = asked.servers;
  count = asked.count;
  asks = None;
  key = asked.key;
  state = None;
  book = None;
  log = None;
  wait_seconds = 0;
  timeout_seconds = asked.timeout_seconds;
  is_json = false;
  input = standard;
}

-- The rows are those that are asked for: the plan is made of the words, or refused for one of them; the journal is that of its server's number in its
-- folder; and who is asked is as the words say, or what of them can't be asked.
pub record IsExtractOf (asked : Asking) (extract : Extract) : Type 0 where
  pub plan : MatchResult extract.plan (IsWanted asked) (RefusesExport asked)
  pub path : string_bytes extract.path ≡ journal_name (folder_named asked) (number_named asked)
  pub places : MatchResult extract.places (IsPlanOfPlaces (places_asked asked)) (RefusesConnection (places_asked asked))
  pub key : option_map (λ name. string_bytes name) extract.key ≡ asked.key
  pub count : extract.count ≡ asked.count

-- the lines of these rows are printed, and of what they are, with some of the counts
abbrev pub PrintsExport : Export → (old new : Account) → Type 0
PrintsExport export old new = (told : ℕ) × TakesBytes old new (export_text told export)
