-- How a run ends.
use Rattle.std.specs.Prelude.{◌≡◌, ℕ, List, [], ◌∷◌, ◌++◌, Result, Ok, Err, codes, max}
use Rattle.bayou_judge.specs.declared.verdict.BadEvidence.{BadEvidence}
use Rattle.bayou_judge.specs.declared.verdict.Verdict.{Verdict}
use Rattle.bayou_judge.specs.declared.verdict.Verdict.TheVariants.{Clean, Broken}
use Rattle.bayou_answers.specs.declared.answer.Answer.{Answer}
use Rattle.bayou_answers.specs.declared.answer.Answer.TheVariants.{Judged, Surveyed}
use Rattle.bayou_answers.specs.declared.fault.BeginFault.{BeginFault}
use Rattle.bayou_answers.specs.declared.fault.BeginFault.TheVariants as begin
use Rattle.bayou_script.specs.declared.fault.InputRefusal.{InputRefusal}
use Rattle.bayou_script.specs.declared.fault.InputRefusal.TheVariants as refusal
use Rattle.bayou_print.specs.declared.ended.Ended.{Ended}
use Rattle.bayou_print.specs.declared.ended.Ended.TheVariants as ended
use Rattle.bayou_print.specs.declared.fault.RunFault.{RunFault}
use Rattle.bayou_print.specs.declared.fault.RunFault.TheVariants.{Line, Memory, Device, Network, Input, Output}

-- what a run ends with whose script is refused
abbrev pub fault_of : InputRefusal → RunFault
fault_of (refusal.Line number fault) = Line number fault
fault_of refusal.OutOfMemory = Memory

-- and whose servers can't be started
abbrev pub fault_of_begin : BeginFault → RunFault
fault_of_begin begin.OutOfMemory = Memory
fault_of_begin begin.Device = Device

-- A line that tells a fault: it begins with the program's name, and ends with a line feed.
abbrev pub IsFaultLine : List ℕ → Type 0
IsFaultLine line = (cause : List ℕ) × (line ≡ codes "bayou: " ++ (cause ++ 10 ∷ []))

-- 2 for a script that is refused, 3 for what its author can't help
abbrev pub status_of : RunFault → ℕ
status_of (Line number fault) = 2
status_of Memory = 3
status_of Device = 3
status_of Network = 3
status_of Input = 3
status_of Output = 3

-- 1 for a verdict that is broken, 2 for one that is refused, or a survey
abbrev pub verdict_status : Result Verdict BadEvidence → ℕ
verdict_status (Ok Clean) = 0
verdict_status (Ok (Broken breach)) = 1
verdict_status (Err bad) = 2

abbrev pub answer_status : Answer → ℕ
answer_status (Judged verdict) = verdict_status verdict
answer_status (Surveyed (Ok list)) = 0
answer_status (Surveyed (Err bad)) = 2
answer_status _ = 0

-- with several the greatest counts
abbrev pub answers_status : List Answer → ℕ
answers_status [] = 0
answers_status (answer ∷ answers) = max (answer_status answer) (answers_status answers)

abbrev pub ended_status : Ended → ℕ
ended_status ended.Clean = 0
ended_status ended.Broken = 1
ended_status ended.Refused = 2

-- the exit status of a run
abbrev pub exit_status : Result Ended RunFault → ℕ
exit_status (Ok ended) = ended_status ended
exit_status (Err fault) = status_of fault
