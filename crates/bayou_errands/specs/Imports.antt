-- The lines that words ask to be put into a store, and what is printed then: this project's own.
use Rattle.std.specs.Prelude.{◌≡◌, ◌++◌, ℕ, List, MatchResult, Option, None, Some, codes, decimal, option_map, string_bytes, false}
use Rattle.bayou_command.specs.Connect.{Connection}
use Rattle.bayou_command.specs.Import.{Import as Asking}
use Rattle.bayou_command.specs.Options.{standard}
use Rattle.bayou_connect.specs.Importing.{TakesWrites}
use Rattle.bayou_errands.specs.Plans.{IsPlanOfPlaces, RefusesConnection}
use Rattle.bayou_errands.specs.declared.imported.Intake.{Intake}
use Rattle.bayou_streams.specs.Account.{Account, TakesBytes}

-- who is met: as by a person who asks for nothing
abbrev pub places_met : Asking → Connection
places_met asked = record {
  servers = asked.servers;
  count = asked.count;
  asks = None;
  key = asked.key;
  state = None;
  book = None;
  log = None;
  wait_seconds = asked.wait_seconds;
  timeout_seconds = asked.timeout_seconds;
  is_json = false;
  input = standard;
}

-- the name of the state: the one that is said, else that of the file, and more
abbrev pub state_or : Option (List ℕ) → (file : List ℕ) → List ℕ
state_or None file = file ++ codes ".state"
state_or (Some state) file = state

abbrev pub state_named : Asking → List ℕ
state_named asked = state_or asked.state asked.file

-- The lines are those that are asked for: of the file that is named, with its state, at whom the words say, or what of them can't be done.
pub record IsIntakeOf (asked : Asking) (intake : Intake) : Type 0 where
  pub places : MatchResult intake.places (IsPlanOfPlaces (places_met asked)) (RefusesConnection (places_met asked))
  pub file : string_bytes intake.file ≡ asked.file
  pub state : string_bytes intake.state ≡ state_named asked
  pub key : option_map (λ name. string_bytes name) intake.key ≡ asked.key

-- the line that tells that so many keys are put, as so many Writes
abbrev pub imported_text : (keys writes : ℕ) → List ℕ
imported_text keys writes = codes "imported " ++ (decimal keys ++ (codes " keys in " ++ (decimal writes ++ codes " writes\n")))

-- that line is printed, of keys and of as many Writes as they take
abbrev pub PrintsImport : (old new : Account) → Type 0
PrintsImport old new = (keys : ℕ) × (writes : ℕ) × TakesWrites keys writes × TakesBytes old new (imported_text keys writes)
