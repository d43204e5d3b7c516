-- What a report says of a text: the least line with a fault is the one for which the text is refused, and there is none where it is taken.
use Rattle.std.specs.Prelude.{ℕ, ◌⊎◌, List, Option, MatchOption, option_map}
use Rattle.bayou_check.specs.declared.report.Report.{Report}
use Rattle.bayou_check.specs.declared.kind.TextKind.{TextKind}
use Rattle.bayou_check.specs.declared.kind.TextKind.TheVariants.{Audit, Script}
use Rattle.bayou_check.specs.declared.least.Least.{Least}
use Rattle.bayou_script.specs.AuditFile.{Evidence, IsAuditFile, IsAuditRefused}
use Rattle.bayou_script.specs.Network.{IsNetworkRefused, IsNetworkScript}
use Rattle.bayou_script.specs.Script.{IsRefused, IsScript, Plan}

-- the least line with a fault that a report tells
abbrev pub least_told : Report → Option Least
least_told report = option_map (λ told. record { number = told.line; fault = told.fault }) report.least

-- the lines are a script, or are refused as one for this line
abbrev pub ChecksScript : List (List ℕ) → Option Least → Type 0
ChecksScript lines least = MatchOption least ((plan : Plan) × IsScript lines plan) (λ least. IsRefused lines least.number least.fault)

-- the lines are a script over a network, or are refused as one for this line
abbrev pub ChecksNetwork : List (List ℕ) → Option Least → Type 0
ChecksNetwork lines least = MatchOption least ((plan : Plan) × IsNetworkScript lines plan) (λ least. IsNetworkRefused lines least.number least.fault)

-- the lines are an audit file, or are refused as one for this line
abbrev pub ChecksAudit : List (List ℕ) → Option Least → Type 0
ChecksAudit lines least = MatchOption least ((evidence : Evidence) × IsAuditFile lines evidence) (λ least. IsAuditRefused lines least.number least.fault)

-- the lines are taken as this kind of text
abbrev pub IsTakenAs : TextKind → List (List ℕ) → Type 0
IsTakenAs Script lines = (plan : Plan) × IsScript lines plan
IsTakenAs Audit lines = (evidence : Evidence) × IsAuditFile lines evidence

-- the lines are taken, as one kind of text or the other
abbrev pub IsTaken : List (List ℕ) → Type 0
IsTaken lines = IsTakenAs Script lines ⊎ IsTakenAs Audit lines
