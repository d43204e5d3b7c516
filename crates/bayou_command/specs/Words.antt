-- The command line, as `clap` sees it: a program that asks for one of its subcommands.
use Rattle.std.specs.Prelude.{◌≡◌, ◌⊎◌, if◌then◌else◌, List, [], Option, None, Some, Result, Ok, Err, true, codes}
use Rattle.std.specs.Str.{bytes_eq}
use Rattle.clap.specs.Kinds.{IsAmong, Kinds}
use Rattle.clap.specs.Words.{App, Row, Text, fault_of, new_app, subcommand_of, with_rule, with_subcommand}
use Rattle.clap.specs.declared.error.kind.ErrorKind.{ErrorKind}
use Rattle.clap.specs.declared.error.kind.ErrorKind.TheVariants.{DisplayHelp, DisplayVersion}
pub use Rattle.bayou_command.specs.Options.{Input, file, file_name, file_rule, flag_of, flag_rule, folder_name, folder_rule, input_named, input_of, input_seen, standard}
use Rattle.bayou_command.specs.Audit.{Audit, audit_app, auditing_of, auditing_seen, is_plain}
use Rattle.bayou_command.specs.Check.{Check, check_app, check_of, check_seen}
use Rattle.bayou_command.specs.Connect.{Connection, connect_app, connection_of, connection_seen}
use Rattle.bayou_command.specs.Export.{Export, export_app, export_of, export_seen}
use Rattle.bayou_command.specs.Import.{Import, import_app, import_of, import_seen}
use Rattle.bayou_command.specs.Key.{key_app}
use Rattle.bayou_command.specs.Options.{text_of}
use Rattle.bayou_command.specs.Renew.{Renewal, renew_app, renewal_of, renewal_seen}
use Rattle.bayou_command.specs.Web.{Web, web_app, web_of, web_seen}
use Rattle.bayou_command.specs.Serve.{Service, serve_app, service_of, service_seen}
use Rattle.bayou_command.specs.declared.Stop.{Stop}
use Rattle.bayou_command.specs.declared.Stop.TheVariants as stops
use Rattle.bayou_command.specs.declared.Task.{Task}
use Rattle.bayou_command.specs.declared.Task.TheVariants.{Run, RunAsJson, Audit as Audits, Explain, Net, Serve, Connect, Key, Renew, Export as Exports, Import as Imports, Check as Checks, Web as Pages}

-- `run` takes a file or none, and whether answers are printed as JSON
abbrev pub run_app : App
run_app = with_rule (with_rule (new_app (codes "run")) (flag_rule (codes "json"))) file_rule

-- `net` takes a folder, and a file or none
abbrev pub net_app : App
net_app = with_rule (with_rule (new_app (codes "net")) folder_rule) file_rule

abbrev pub bare_app : App
bare_app = new_app (codes "bayou")

-- it tells its version, and asks for a command
abbrev pub main_app : App
main_app = record bare_app { top = record bare_app.top { has_version = true; subcommand_required = true } }

abbrev pub bayou_app : App
bayou_app =
    with_subcommand (with_subcommand (with_subcommand (with_subcommand (with_subcommand (with_subcommand (with_subcommand (with_subcommand (with_subcommand (with_subcommand (with_subcommand main_app run_app.top) net_app.top) serve_app.top) connect_app.top) key_app.top) renew_app.top)
    export_app.top) import_app.top) web_app.top) audit_app.top) check_app.top

-- why the words, the program's own name before them, may name no task; there is nothing of that kind where they name one
abbrev pub faults_of : List Text → Kinds
faults_of words = fault_of bayou_app words

-- what is asked for
pub data Asked : Type 0 where
  a_run : Input → Asked
  a_json_run : Input → Asked
  an_audit : Input → Asked
  an_explanation : Audit → Asked
  a_net : Text → Input → Asked
  a_serve : Service → Asked
  a_connect : Connection → Asked
  a_key : (name file : Text) → Asked
  a_renewal : Renewal → Asked
  an_export : Export → Asked
  an_import : Import → Asked
  a_web : Web → Asked
  a_check : Check → Asked

-- the folder that is named, as it is wherever a command that asks for one was entered
abbrev pub folder_of : List Row → Text
folder_of rows = text_of folder_name rows

-- an audit of the file, or one that prints more
abbrev pub audit_of : List Row → Asked
audit_of rows = let audit = auditing_of rows in if is_plain audit then an_audit audit.file else an_explanation audit

-- a run of the script, or one whose answers are JSON objects
abbrev pub run_of : List Row → Asked
run_of rows = if flag_of (codes "json") rows then a_json_run (input_of rows) else a_run (input_of rows)

-- of the commands that take a store as a whole, and `check`, the one that was entered, or else a run
abbrev pub asked_beside : Text → List Row → Asked
asked_beside name rows =
    if bytes_eq name (codes "renew") then a_renewal (renewal_of rows)
    else if bytes_eq name (codes "export") then an_export (export_of rows)
    else if bytes_eq name (codes "import") then an_import (import_of rows)
    else if bytes_eq name (codes "check") then a_check (check_of rows)
    else run_of rows

-- of a person's commands, or of those, the one that was entered
abbrev pub asked_of_person : Text → List Row → Asked
asked_of_person name rows =
    if bytes_eq name (codes "connect") then a_connect (connection_of rows)
    else if bytes_eq name (codes "key") then a_key (text_of (codes "name") rows) (text_of file_name rows)
    else if bytes_eq name (codes "web") then a_web (web_of rows)
    else asked_beside name rows

-- and of all commands
abbrev pub asked_named : Text → List Row → Asked
asked_named name rows =
    if bytes_eq name (codes "audit") then audit_of rows
    else if bytes_eq name (codes "net") then a_net (folder_of rows) (input_of rows)
    else if bytes_eq name (codes "serve") then a_serve (service_of rows)
    else asked_of_person name rows

-- of the program's commands, the one that was entered
abbrev pub asked_by : Option (Text × List Row) → Asked
asked_by None = a_run standard
asked_by (Some (name, rows)) = asked_named name rows

-- the words are no mistake, and ask for this
pub record AskFor (words : List Text) (asked : Asked) : Type 0 where
  pub good : faults_of words ≡ []
  pub entered : asked_by (subcommand_of bayou_app words) ≡ asked

-- what is seen of a task
abbrev pub task_seen : Task → Asked
task_seen (Run source) = a_run (input_seen source)
task_seen (RunAsJson source) = a_json_run (input_seen source)
task_seen (Audits source) = an_audit (input_seen source)
task_seen (Explain auditing) = an_explanation (auditing_seen auditing)
task_seen (Net folder script) = a_net folder.now (input_seen script)
task_seen (Serve serving) = a_serve (service_seen serving)
task_seen (Connect connecting) = a_connect (connection_seen connecting)
task_seen (Key name made) = a_key name.now made.now
task_seen (Renew renewing) = a_renewal (renewal_seen renewing)
task_seen (Exports exporting) = an_export (export_seen exporting)
task_seen (Imports importing) = an_import (import_seen importing)
task_seen (Pages showing) = a_web (web_seen showing)
task_seen (Checks checking) = a_check (check_seen checking)

-- it is no mistake, but asks for a text: a help, or the version
abbrev pub IsRequest : ErrorKind → Type 0
IsRequest kind = (kind ≡ DisplayHelp) ⊎ (kind ≡ DisplayVersion)

-- the words ask for a text
pub record AskForText (words : List Text) : Type 0 where
  pub kind : ErrorKind
  pub among : IsAmong kind (faults_of words)
  pub request : IsRequest kind

-- the words are a mistake
pub record AreMistaken (words : List Text) : Type 0 where
  pub kind : ErrorKind
  pub among : IsAmong kind (faults_of words)
  pub mistake : ¬ (IsRequest kind)

-- what the words name, or why they name nothing, where memory didn't run out
abbrev pub Names : List Text → Result Task Stop → Type 0
Names words (Ok task) = AskFor words (task_seen task)
Names words (Err (stops.Asked text)) = AskForText words
Names words (Err (stops.Refused text)) = AreMistaken words
Names words (Err stops.Memory) = Unit {0}
