-- What the books of a run are of.
use Rattle.std.specs.Prelude.{◌≡◌, ℕ, ◌≤◌, List, ◌++◌, Result, length}
use Rattle.bayou_audit.specs.declared.totals.Totals.{Totals}
use Rattle.bayou_base.specs.declared.entry.Entry.{Entry}
use Rattle.bayou_fleet.specs.Servers.{AreDumps, SettlesAll}
use Rattle.bayou_judge.specs.Answers.{Judges}
use Rattle.bayou_judge.specs.declared.verdict.BadEvidence.{BadEvidence}
use Rattle.bayou_judge.specs.declared.verdict.Verdict.{Verdict}
use Rattle.bayou_lang.specs.declared.write.Write.{Write}
use Rattle.bayou_node.specs.Books.{Begun}
use Rattle.bayou_node.specs.declared.node_settled.NodeSettled.{NodeSettled}
use Rattle.bayou_print.specs.Fault.{ended_status, verdict_status}
use Rattle.bayou_print.specs.declared.ended.Ended.{Ended}
use Rattle.bayou_socket_run.specs.Books.{books_text}
use Rattle.bayou_streams.specs.Account.{Account, TakesBytes}

-- the verdict is the judge's on some entries and on what the servers hold, which are so many
pub record IsJudged (servers : List Begun) (number : ℕ) (verdict : Result Verdict BadEvidence) : Type 0 where
  pub entries : List Entry
  pub dumps : List (List Write)
  pub held : AreDumps servers dumps
  pub each : length dumps ≡ number
  pub judges : Judges number entries dumps verdict

-- The text is what the books come to: each server's is settled by its own node, the verdict is the judge's, and the run ended as that tells.
pub record EndsAt (servers : List Begun) (number : ℕ) (ended : Ended) (text : List ℕ) : Type 0 where
  pub totals : Totals
  pub nodes : List NodeSettled
  pub verdict : Result Verdict BadEvidence
  pub settled : SettlesAll servers nodes
  pub judged : IsJudged servers number verdict
  pub printed : text ≡ books_text number totals nodes verdict
  pub status : ended_status ended ≡ verdict_status verdict

-- the same after some lines of a run
pub record EndsRunAt (servers : List Begun) (number : ℕ) (ended : Ended) (old new : Account) : Type 0 where
  pub lines : List ℕ
  pub text : List ℕ
  pub told : Ended
  pub end : EndsAt servers number told text
  pub took : TakesBytes old new (lines ++ text)
  pub status : ended_status told ≤ ended_status ended
