-- What is answered to what closes a phase: this project's own.
use Rattle.std.specs.Global.{Vec}
use Rattle.std.specs.Prelude.{◌≡◌, ℕ, List}
use Rattle.bayou_answers.specs.declared.answer.Answer.{Answer}
use Rattle.bayou_answers.specs.declared.answer.Answer.TheVariants.{Done, Logged, Recovered, Counted, Booked}
use Rattle.bayou_answers.specs.declared.answer.Recovery.{Recovery}
use Rattle.bayou_answers.specs.declared.answer.Recovery.TheVariants.{Reopened, NotReopened, NotRunning, Restarted, NotRestarted}
use Rattle.bayou_answers.specs.Verdicts.{IsSurveyOn, IsVerdictOn}
use Rattle.bayou_audit.specs.declared.totals.Totals.{Totals}
use Rattle.bayou_base.specs.declared.entry.Entry.{Entry}
use Rattle.bayou_base.specs.declared.server.ServerId.{ServerId}
use Rattle.bayou_fleet.specs.declared.phase.Closing.{Closing}
use Rattle.bayou_fleet.specs.declared.phase.Closing.TheVariants as closing
use Rattle.bayou_fleet.specs.Servers.{InOne}
use Rattle.bayou_lang.specs.declared.write.Write.{Write}
use Rattle.bayou_lang.specs.Writes.{count_of}
use Rattle.bayou_log.specs.declared.listing.Listed.{Listed}
use Rattle.bayou_log.specs.Listing.{listing_of}
use Rattle.bayou_node.specs.Books.{Begun}
use Rattle.bayou_script.specs.declared.audit.AuditFile.{AuditFile}
use Rattle.bayou_text.specs.declared.command.Question.{Question}
use Rattle.bayou_text.specs.declared.command.Question.TheVariants as question

-- the server's log: its Writes with their outcomes, and its vector, each of something that may be behind its lock
pub record IsLogged (servers : List Begun) (server : ServerId) (answer : Answer) : Type 0 where
  pub listing : Vec Listed
  pub vector : List ℕ
  pub answered : answer ≡ Logged server listing vector
  pub lists : InOne servers server.index (λ core. listing.items ≡ listing_of core.held)
  pub counts : InOne servers server.index (λ core. vector ≡ count_of core.held)

-- that server was reopened, or its reopening was refused
abbrev pub IsReopening : ServerId → Recovery → Type 0
IsReopening server (Reopened other adopted) = other ≡ server
IsReopening server (NotReopened fault) = Unit {0}
IsReopening server NotRunning = ⊥
IsReopening server (Restarted other holds dropped) = ⊥
IsReopening server (NotRestarted fault) = ⊥

-- each question has an answer of its own kind; a verdict and a survey are on some entries, and on what so many servers are said to hold
abbrev pub AnswersQuestion : List Begun → (count : ℕ) → Question → Answer → Type 0
AnswersQuestion servers count (question.Log server) answer = IsLogged servers server answer
AnswersQuestion servers count question.Totals answer = (totals : Totals) × (answer ≡ Counted totals)
AnswersQuestion servers count question.Judge answer = (entries : List Entry) × (dumps : List (List Write)) × IsVerdictOn count entries dumps answer
AnswersQuestion servers count question.Survey answer = (entries : List Entry) × (dumps : List (List Write)) × IsSurveyOn count entries dumps answer
AnswersQuestion servers count question.Book answer = (file : AuditFile) × (answer ≡ Booked file) × (file.count ≡ count)

abbrev pub AnswersClosing : List Begun → (count : ℕ) → Closing → Answer → Type 0
AnswersClosing servers count (closing.Reopen server) answer = (recovery : Recovery) × (answer ≡ Recovered recovery) × IsReopening server recovery
AnswersClosing servers count (closing.Question asked) answer = AnswersQuestion servers count asked answer
AnswersClosing servers count closing.Phase answer = answer ≡ Done
