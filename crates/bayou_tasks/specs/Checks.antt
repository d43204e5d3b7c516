-- What a check of a text comes to.
use Rattle.std.specs.Prelude.{◌≡◌, ℕ, List, MatchOption, Option, None, Some, option_map, string_bytes}
use Rattle.bayou_check.specs.Checked.{ChecksAudit, ChecksScript}
use Rattle.bayou_check.specs.declared.least.Least.{Least}
use Rattle.bayou_command.specs.Check.{Check}
use Rattle.bayou_command.specs.Options.{Input, file, standard}
use Rattle.bayou_script.specs.Order.{lines_of}
use Rattle.bayou_tasks.specs.declared.checked.Checkup.{Checkup}

-- which input it is
abbrev pub input_kept : Option (List ℕ) → Input
input_kept None = standard
input_kept (Some name) = file name

-- what is to be checked is what the words say
pub record IsCheckupOf (asked : Check) (checkup : Checkup) : Type 0 where
  pub file : asked.file ≡ input_kept (option_map (λ name. string_bytes name) checkup.file)
  pub is_json : asked.is_json ≡ checkup.is_json

-- what a text is, as one of its kinds: it is taken as that, or refused for this line
pub data IsChecked (text : List ℕ) (least : Option Least) : Type 0 where
  script : ChecksScript (lines_of text) least → IsChecked text least
  audit : ChecksAudit (lines_of text) least → IsChecked text least

-- the status is 0 where the text is taken, and else 2
pub record ChecksAs (text : List ℕ) (status : ℕ) : Type 0 where
  pub least : Option Least
  pub checked : IsChecked text least
  pub status_is : MatchOption least (status ≡ 0) (λ least. status ≡ 2)
