-- What is printed at the end of a run over sockets: this project's own.
use Rattle.std.specs.Prelude.{ℕ, zero, suc, ◌≤◌, List, [], ◌++◌, Result, Ok, Err, slice_get}
use Rattle.std.specs.Option.{option_map_or}
use Rattle.bayou_answers.specs.declared.answer.Answer.TheVariants.{Counted, Judged}
use Rattle.bayou_audit.specs.declared.totals.Totals.{Totals}
use Rattle.bayou_judge.specs.declared.verdict.BadEvidence.{BadEvidence}
use Rattle.bayou_judge.specs.declared.verdict.Verdict.{Verdict}
use Rattle.bayou_node.specs.declared.node_settled.NodeSettled.{NodeSettled}
use Rattle.bayou_print.specs.Fault.{ended_status, verdict_status}
use Rattle.bayou_print.specs.Printed.{answer_text, settled_text}
use Rattle.bayou_print.specs.declared.ended.Ended.{Ended}
use Rattle.bayou_print.specs.declared.fault.RunFault.{RunFault}
use Rattle.bayou_streams.specs.Account.{Account, TakesBytes}

-- the line of what the books of this server come to, if there are such books
abbrev pub line_of : List NodeSettled → (server : ℕ) → List ℕ
line_of nodes server = option_map_or (settled_text server) (slice_get nodes server) []

-- the lines of so many servers, from server 0 on
abbrev pub lines_of : (servers : ℕ) → List NodeSettled → List ℕ
lines_of zero nodes = []
lines_of (suc servers) nodes = lines_of servers nodes ++ line_of nodes servers

-- what the books of a run come to: the totals of what was served, what each server accepted and adopted, and the verdict
abbrev pub books_text : (servers : ℕ) → Totals → List NodeSettled → Result Verdict BadEvidence → List ℕ
books_text servers totals nodes verdict = answer_text servers (Counted totals) ++ (lines_of servers nodes ++ answer_text servers (Judged verdict))

-- A run that came to its end printed lines, and after them what its books come to; its status is no better than that of their verdict. Of
-- another one lines were printed, or a front of them.
abbrev pub PrintsRun : (servers : ℕ) → Result Ended RunFault → Account → Account → Type 0
PrintsRun servers (Ok ended) old new =
    (lines : List ℕ) × (totals : Totals) × (nodes : List NodeSettled) × (verdict : Result Verdict BadEvidence)
    × TakesBytes old new (lines ++ books_text servers totals nodes verdict) × (verdict_status verdict ≤ ended_status ended)
PrintsRun servers (Err fault) old new = (text : List ℕ) × TakesBytes old new text
