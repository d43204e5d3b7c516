-- What is found beside a state file's name: this project's own.
use Rattle.std.specs.Prelude.{◌≡◌, ◌++◌, ℕ, List, [], Option, None, Some, codes, string_bytes}
use Rattle.bayou_client.specs.Operating.{Asking}
use Rattle.bayou_connect.specs.Found.{IsFound}
use Rattle.bayou_connect.specs.declared.remembering.StateFile.{StateFile}
use Rattle.bayou_connect.specs.declared.views_file.ViewsFile.{ViewsFile}
use Rattle.bayou_remember.specs.Memory.{AreLast}

-- By the name of a state file: that file, opened in this run, with what it keeps of each session; and beside it the file of what is final. Where there is no
-- name, there are no files, and nothing is kept of any session.
abbrev pub IsFoundIn : (run : ℕ) → (name : Option (List ℕ)) → Option StateFile → Option ViewsFile → List (Option Asking) → Type 0
IsFoundIn run None state views sessions = (state ≡ None) × (views ≡ None) × AreLast [] sessions
IsFoundIn run (Some path) None views sessions = ⊥
IsFoundIn run (Some path) (Some file) None sessions = ⊥
IsFoundIn run (Some path) (Some file) (Some beside) sessions = (string_bytes file.path ≡ path) × (file.run ≡ run) × IsFound run file.memory sessions
    × (string_bytes beside.path ≡ path ++ codes ".views")
