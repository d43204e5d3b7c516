-- What the program does with the words that it is called with.
use Rattle.std.specs.Prelude.{◌≡◌, ◌<◌, ℕ, Bool, List, Option, IfErr, IfSome, Result, Ok, Err}
use Rattle.std.specs.Io.KnownBytes.{Appends, Keeps}
use Rattle.bayou_command.specs.Audit.{Audit as Auditing}
use Rattle.bayou_command.specs.Check.{Check as Checking}
use Rattle.bayou_command.specs.Connect.{Connection}
use Rattle.bayou_command.specs.Export.{Export as Rows}
use Rattle.bayou_command.specs.Import.{Import as Lines}
use Rattle.bayou_command.specs.Web.{Web as Shown}
use Rattle.bayou_command.specs.Renew.{Renewal as Asking}
use Rattle.bayou_command.specs.Serve.{Service}
use Rattle.bayou_command.specs.Words.{AreMistaken, AskForText, Asked, Input, a_check, a_connect, a_json_run, a_key, a_net, a_renewal, a_run, a_serve, a_web, an_audit, an_explanation, an_export, an_import, standard}
use Rattle.bayou_print.specs.declared.ended.Ended.{Ended}
use Rattle.bayou_print.specs.declared.fault.RunFault.{RunFault}
use Rattle.bayou_print.specs.declared.fault.RunFault.TheVariants.{Line, Memory, Device, Network, Output}
use Rattle.bayou_print.specs.declared.fault.RunFault.TheVariants.{Input as InputFault}
use Rattle.bayou_print.specs.Fault.{ended_status, status_of}
use Rattle.bayou_print.specs.Telling.{IsPut, TellsEnd, TellsFault}
use Rattle.bayou_print.specs.Turns.{EndsReading}
use Rattle.bayou_tasks.specs.Audit.{AuditsAs}
use Rattle.bayou_tasks.specs.Checks.{IsCheckupOf}
use Rattle.bayou_tasks.specs.Explanations.{IsExplainingOf}
use Rattle.bayou_errands.specs.Exports.{IsExtractOf}
use Rattle.bayou_errands.specs.Imports.{IsIntakeOf}
use Rattle.bayou_errands.specs.Pages.{IsWindowOf}
use Rattle.bayou_shell.specs.Net.{NetsAs}
use Rattle.bayou_errands.specs.Plans.{IsCallOf, IsKeyOf, IsServiceOf}
use Rattle.bayou_errands.specs.Renewals.{IsRenewalOf}
use Rattle.bayou_tasks.specs.Run.{RunsAs}
use Rattle.bayou_tasks.specs.declared.form.AnswerForm.TheVariants as form
use Rattle.bayou_shell.specs.declared.errand.Errand.{Errand}
use Rattle.bayou_shell.specs.declared.errand.Errand.TheVariants.{Check, Connect, Done, Explain, Export, Import, Key, Net, Renew, Serve, Web}
use Rattle.bayou_streams.specs.Account.{Account}
use Rattle.bayou_streams.specs.Written.{AppendsFront}

-- the exit status of a command line that is refused
abbrev pub refused_status : ℕ
refused_status = 2

-- the text was written whole, or the output was at fault and has a front of it
abbrev pub WritesText : List ℕ → Result (Unit {0}) RunFault → Option (List ℕ) → Option (List ℕ) → Type 0
WritesText text (Ok done) old new = Appends old new text
WritesText text (Err Output) old new = AppendsFront old new text
WritesText text (Err Memory) old new = ⊥
WritesText text (Err Device) old new = ⊥
WritesText text (Err Network) old new = ⊥
WritesText text (Err InputFault) old new = ⊥
WritesText text (Err (Line number fault)) old new = ⊥

-- the exit status of a text that was asked for
abbrev pub text_status : Result (Unit {0}) RunFault → ℕ
text_status (Ok done) = 0
text_status (Err fault) = status_of fault

-- Words that ask for a text get it on the output, and the status tells whether it was written; of words that are a mistake, and where
-- memory runs out, nothing goes there. What is at fault is reported beside it.
pub data TellsOf (words : List (List ℕ)) (status : ℕ) (old new : Option (List ℕ)) (told telling : Account) (has_failed : Bool) : Type 0 where
  asked : AskForText words → (text : List ℕ) (ended : Result (Unit {0}) RunFault) → WritesText text ended old new → status ≡ text_status ended
      → TellsEnd ended told telling has_failed → TellsOf words status old new told telling has_failed
  mistaken : AreMistaken words → status ≡ refused_status → Keeps old new → (text : List ℕ) → IsPut text told telling has_failed → TellsOf words status old new told telling has_failed
  no_memory : status ≡ status_of Memory → Keeps old new → TellsFault told telling has_failed → TellsOf words status old new told telling has_failed

-- what a run, or an audit, that ended so leaves: it is done, and the status is that of its end; or its fault is reported
abbrev pub done_of : Result Ended RunFault → Result Errand RunFault
done_of (Ok ended) = Ok (Done (ended_status ended))
done_of (Err fault) = Err fault

-- it ended in one of these ways
abbrev pub Ends : (Result Ended RunFault → Option (List ℕ) → Option (List ℕ) → Type 0) → Result Errand RunFault → (old new : Option (List ℕ)) → Type 0
Ends runs came old new = (ended : Result Ended RunFault) × runs ended old new × (came ≡ done_of ended)

-- The server that is asked for is left to live, as the words say; or memory ran out. Nothing is printed yet.
abbrev pub ServesAs : Service → Result Errand RunFault → (old new : Option (List ℕ)) → Type 0
ServesAs wanted (Ok (Serve service)) old new = IsServiceOf wanted service × Keeps old new
ServesAs wanted (Ok (Done status)) old new = ⊥
ServesAs wanted (Ok (Net folder script)) old new = ⊥
ServesAs wanted (Ok (Connect call)) old new = ⊥
ServesAs wanted (Ok (Key wish)) old new = ⊥
ServesAs wanted (Ok (Renew renewal)) old new = ⊥
ServesAs wanted (Ok (Export extract)) old new = ⊥
ServesAs wanted (Ok (Import intake)) old new = ⊥
ServesAs wanted (Ok (Web window)) old new = ⊥
ServesAs wanted (Ok (Check checkup)) old new = ⊥
ServesAs wanted (Ok (Explain explaining)) old new = ⊥
ServesAs wanted (Err fault) old new = (fault ≡ Memory) × Keeps old new

-- The servers are left to be asked what lines say, as the words say; or memory ran out. Nothing is printed yet.
abbrev pub ConnectsAs : Connection → Result Errand RunFault → (old new : Option (List ℕ)) → Type 0
ConnectsAs wanted (Ok (Connect call)) old new = IsCallOf wanted call × Keeps old new
ConnectsAs wanted (Ok (Done status)) old new = ⊥
ConnectsAs wanted (Ok (Net folder script)) old new = ⊥
ConnectsAs wanted (Ok (Serve service)) old new = ⊥
ConnectsAs wanted (Ok (Key wish)) old new = ⊥
ConnectsAs wanted (Ok (Renew renewal)) old new = ⊥
ConnectsAs wanted (Ok (Export extract)) old new = ⊥
ConnectsAs wanted (Ok (Import intake)) old new = ⊥
ConnectsAs wanted (Ok (Web window)) old new = ⊥
ConnectsAs wanted (Ok (Check checkup)) old new = ⊥
ConnectsAs wanted (Ok (Explain explaining)) old new = ⊥
ConnectsAs wanted (Err fault) old new = (fault ≡ Memory) × Keeps old new

-- The key is left to be made, as the words say; or memory ran out. Nothing is printed yet.
abbrev pub KeysAs : (name file : List ℕ) → Result Errand RunFault → (old new : Option (List ℕ)) → Type 0
KeysAs name file (Ok (Key wish)) old new = IsKeyOf name file wish × Keeps old new
KeysAs name file (Ok (Done status)) old new = ⊥
KeysAs name file (Ok (Net folder script)) old new = ⊥
KeysAs name file (Ok (Serve service)) old new = ⊥
KeysAs name file (Ok (Connect call)) old new = ⊥
KeysAs name file (Ok (Renew renewal)) old new = ⊥
KeysAs name file (Ok (Export extract)) old new = ⊥
KeysAs name file (Ok (Import intake)) old new = ⊥
KeysAs name file (Ok (Web window)) old new = ⊥
KeysAs name file (Ok (Check checkup)) old new = ⊥
KeysAs name file (Ok (Explain explaining)) old new = ⊥
KeysAs name file (Err fault) old new = (fault ≡ Memory) × Keeps old new

-- The journal is left to be made, as the words say; or memory ran out. Nothing is printed yet.
abbrev pub RenewsAs : Asking → Result Errand RunFault → (old new : Option (List ℕ)) → Type 0
RenewsAs wanted (Ok (Renew renewal)) old new = IsRenewalOf wanted renewal × Keeps old new
RenewsAs wanted (Ok (Done status)) old new = ⊥
RenewsAs wanted (Ok (Net folder script)) old new = ⊥
RenewsAs wanted (Ok (Serve service)) old new = ⊥
RenewsAs wanted (Ok (Connect call)) old new = ⊥
RenewsAs wanted (Ok (Key wish)) old new = ⊥
RenewsAs wanted (Ok (Export extract)) old new = ⊥
RenewsAs wanted (Ok (Import intake)) old new = ⊥
RenewsAs wanted (Ok (Web window)) old new = ⊥
RenewsAs wanted (Ok (Check checkup)) old new = ⊥
RenewsAs wanted (Ok (Explain explaining)) old new = ⊥
RenewsAs wanted (Err fault) old new = (fault ≡ Memory) × Keeps old new

-- The rows are left to be printed, as the words say; or memory ran out. Nothing is printed yet.
abbrev pub ExportsAs : Rows → Result Errand RunFault → (old new : Option (List ℕ)) → Type 0
ExportsAs wanted (Ok (Export extract)) old new = IsExtractOf wanted extract × Keeps old new
ExportsAs wanted (Ok (Done status)) old new = ⊥
ExportsAs wanted (Ok (Net folder script)) old new = ⊥
ExportsAs wanted (Ok (Serve service)) old new = ⊥
ExportsAs wanted (Ok (Connect call)) old new = ⊥
ExportsAs wanted (Ok (Key wish)) old new = ⊥
ExportsAs wanted (Ok (Renew renewal)) old new = ⊥
ExportsAs wanted (Ok (Import intake)) old new = ⊥
ExportsAs wanted (Ok (Web window)) old new = ⊥
ExportsAs wanted (Ok (Check checkup)) old new = ⊥
ExportsAs wanted (Ok (Explain explaining)) old new = ⊥
ExportsAs wanted (Err fault) old new = (fault ≡ Memory) × Keeps old new

-- The lines are left to be put, as the words say; or memory ran out. Nothing is printed yet.
abbrev pub ImportsAs : Lines → Result Errand RunFault → (old new : Option (List ℕ)) → Type 0
ImportsAs wanted (Ok (Import intake)) old new = IsIntakeOf wanted intake × Keeps old new
ImportsAs wanted (Ok (Done status)) old new = ⊥
ImportsAs wanted (Ok (Net folder script)) old new = ⊥
ImportsAs wanted (Ok (Serve service)) old new = ⊥
ImportsAs wanted (Ok (Connect call)) old new = ⊥
ImportsAs wanted (Ok (Key wish)) old new = ⊥
ImportsAs wanted (Ok (Renew renewal)) old new = ⊥
ImportsAs wanted (Ok (Export extract)) old new = ⊥
ImportsAs wanted (Ok (Web window)) old new = ⊥
ImportsAs wanted (Ok (Check checkup)) old new = ⊥
ImportsAs wanted (Ok (Explain explaining)) old new = ⊥
ImportsAs wanted (Err fault) old new = (fault ≡ Memory) × Keeps old new

-- The page is left to be served, as the words say; or memory ran out. Nothing is printed yet.
abbrev pub ShowsAs : Shown → Result Errand RunFault → (old new : Option (List ℕ)) → Type 0
ShowsAs wanted (Ok (Web window)) old new = IsWindowOf wanted window × Keeps old new
ShowsAs wanted (Ok (Done status)) old new = ⊥
ShowsAs wanted (Ok (Net folder script)) old new = ⊥
ShowsAs wanted (Ok (Serve service)) old new = ⊥
ShowsAs wanted (Ok (Connect call)) old new = ⊥
ShowsAs wanted (Ok (Key wish)) old new = ⊥
ShowsAs wanted (Ok (Renew renewal)) old new = ⊥
ShowsAs wanted (Ok (Export extract)) old new = ⊥
ShowsAs wanted (Ok (Import intake)) old new = ⊥
ShowsAs wanted (Ok (Check checkup)) old new = ⊥
ShowsAs wanted (Ok (Explain explaining)) old new = ⊥
ShowsAs wanted (Err fault) old new = (fault ≡ Memory) × Keeps old new

-- The text is left to be checked, as the words say; or memory ran out. Nothing is printed yet.
abbrev pub ChecksTextAs : Checking → Result Errand RunFault → (old new : Option (List ℕ)) → Type 0
ChecksTextAs wanted (Ok (Check checkup)) old new = IsCheckupOf wanted checkup × Keeps old new
ChecksTextAs wanted (Ok (Explain explaining)) old new = ⊥
ChecksTextAs wanted (Ok (Done status)) old new = ⊥
ChecksTextAs wanted (Ok (Net folder script)) old new = ⊥
ChecksTextAs wanted (Ok (Serve service)) old new = ⊥
ChecksTextAs wanted (Ok (Connect call)) old new = ⊥
ChecksTextAs wanted (Ok (Key wish)) old new = ⊥
ChecksTextAs wanted (Ok (Renew renewal)) old new = ⊥
ChecksTextAs wanted (Ok (Export extract)) old new = ⊥
ChecksTextAs wanted (Ok (Import intake)) old new = ⊥
ChecksTextAs wanted (Ok (Web window)) old new = ⊥
ChecksTextAs wanted (Err fault) old new = (fault ≡ Memory) × Keeps old new

-- The audit is left to be made, and what is asked for told of it, as the words say; or memory ran out. Nothing is printed yet.
abbrev pub ExplainsTextAs : Auditing → Result Errand RunFault → (old new : Option (List ℕ)) → Type 0
ExplainsTextAs wanted (Ok (Explain explaining)) old new = IsExplainingOf wanted explaining × Keeps old new
ExplainsTextAs wanted (Ok (Check checkup)) old new = ⊥
ExplainsTextAs wanted (Ok (Done status)) old new = ⊥
ExplainsTextAs wanted (Ok (Net folder script)) old new = ⊥
ExplainsTextAs wanted (Ok (Serve service)) old new = ⊥
ExplainsTextAs wanted (Ok (Connect call)) old new = ⊥
ExplainsTextAs wanted (Ok (Key wish)) old new = ⊥
ExplainsTextAs wanted (Ok (Renew renewal)) old new = ⊥
ExplainsTextAs wanted (Ok (Export extract)) old new = ⊥
ExplainsTextAs wanted (Ok (Import intake)) old new = ⊥
ExplainsTextAs wanted (Ok (Web window)) old new = ⊥
ExplainsTextAs wanted (Err fault) old new = (fault ≡ Memory) × Keeps old new

-- what becomes of what is asked for on an input of these bytes
abbrev pub Works : Asked → List ℕ → Result Errand RunFault → (old new : Option (List ℕ)) → Type 0
Works (a_run source) input came old new = Ends (RunsAs form.Lines input) came old new
Works (a_json_run source) input came old new = Ends (RunsAs form.Objects input) came old new
Works (an_audit source) input came old new = Ends (AuditsAs input) came old new
Works (a_net folder source) input came old new = NetsAs folder input came old new
Works (a_serve service) input came old new = ServesAs service came old new
Works (a_connect connection) input came old new = ConnectsAs connection came old new
Works (a_key name file) input came old new = KeysAs name file came old new
Works (a_renewal wanted) input came old new = RenewsAs wanted came old new
Works (an_export wanted) input came old new = ExportsAs wanted came old new
Works (an_import wanted) input came old new = ImportsAs wanted came old new
Works (a_web wanted) input came old new = ShowsAs wanted came old new
Works (a_check wanted) input came old new = ChecksTextAs wanted came old new
Works (an_explanation wanted) input came old new = ExplainsTextAs wanted came old new

-- what is left to be done then: nothing where a fault was reported
abbrev pub errand_of : Result Errand RunFault → Errand
errand_of (Ok errand) = errand
errand_of (Err fault) = Done (status_of fault)

-- no fault was reported
abbrev pub IsWell : Errand → Type 0
IsWell (Done status) = status < 2
IsWell (Net folder script) = Unit {0}
IsWell (Serve service) = Unit {0}
IsWell (Connect call) = Unit {0}
IsWell (Key wish) = Unit {0}
IsWell (Renew renewal) = Unit {0}
IsWell (Export extract) = Unit {0}
IsWell (Import intake) = Unit {0}
IsWell (Web window) = Unit {0}
IsWell (Check checkup) = Unit {0}
IsWell (Explain explaining) = Unit {0}

abbrev pub input_of_asked : Asked → Input
input_of_asked (a_run source) = source
input_of_asked (a_json_run source) = source
input_of_asked (an_audit source) = source
input_of_asked (a_net folder source) = source
input_of_asked (a_serve service) = standard
input_of_asked (a_connect connection) = standard
input_of_asked (a_key name file) = standard
input_of_asked (a_renewal wanted) = standard
input_of_asked (an_export wanted) = standard
input_of_asked (an_import wanted) = standard
input_of_asked (a_web wanted) = standard
input_of_asked (a_check wanted) = standard
input_of_asked (an_explanation wanted) = standard

-- What becomes of what is asked for on a file: the file may be refused, or memory may run out before it is opened, and nothing is printed;
-- else it is done on what a reader of it gives, which is at fault only where a call of it failed or no turn was left.
pub data WorksOn {R : Type 0} (opens : R → Type 0) (refuses : Type 0) (remaining : R → Option (List ℕ)) (kept : Bool → ℕ → Type 0) (asked : Asked) (came : Result Errand RunFault)
    (old new : Option (List ℕ)) : Type 0 where
  not_opened : refuses → came ≡ Err InputFault → Keeps old new → WorksOn opens refuses remaining kept asked came old new
  no_memory : came ≡ Err Memory → Keeps old new → WorksOn opens refuses remaining kept asked came old new
  opened : (reader : R) → opens reader → IfSome (remaining reader) (λ text. Works asked text came old new)
      → (has_failed : Bool) (turns_left : ℕ) → kept has_failed turns_left → IfErr came (EndsReading has_failed turns_left)
      → WorksOn opens refuses remaining kept asked came old new
