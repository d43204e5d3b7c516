-- The words after `check`: what they take, and what they ask for.
use Rattle.std.specs.Prelude.{Bool, List, codes, true}
use Rattle.clap.specs.Words.{App, Row, new_app, with_rule}
use Rattle.bayou_command.specs.Options.{Input, file_rule, flag_of, flag_rule, input_of, input_seen}
use Rattle.bayou_command.specs.declared.checking.Checking.{Checking}

-- `check` takes a file, and whether faults are printed as JSON
abbrev pub check_app : App
check_app = with_rule (with_rule (new_app (codes "check")) (flag_rule (codes "json"))) (record file_rule { required = true })

-- what is asked of a script or an audit file
pub record Check : Type 0 where
  pub file : Input
  pub is_json : Bool

-- what the options ask for
abbrev pub check_of : List Row → Check
check_of rows = record { file = input_of rows; is_json = flag_of (codes "json") rows }

-- what is seen of it
abbrev pub check_seen : Checking → Check
check_seen checking = record { file = input_seen checking.file; is_json = checking.is_json }
