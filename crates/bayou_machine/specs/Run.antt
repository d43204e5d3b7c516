-- What a script may be answered: a run over its servers, its sessions and the book of what they were served.
use Rattle.std.specs.Prelude.{◌≡◌, ℕ, Bool, true, false, List, [], ◌∷◌, ◌++◌, Option, None, Some}
use Rattle.bayou_base.specs.declared.asks.Asks.{Asks}
use Rattle.bayou_base.specs.declared.entry.Entry.{Entry}
use Rattle.bayou_base.specs.declared.server.ServerId.{ServerId}
use Rattle.bayou_base.specs.declared.session.SessionId.{SessionId}
use Rattle.bayou_judge.specs.History.{lent_lists, lists_of}
use Rattle.bayou_text.specs.Said.{Said, servers, session, write, read, again, drop, log, fuse, lose, reopen, restart, pull, resend, totals, judge, survey, book, phase, entry, held}
use Rattle.bayou_script.specs.declared.audit.AuditFile.{AuditFile}
use Rattle.bayou_script.specs.Script.{Plan}
use Rattle.bayou_answers.specs.declared.answer.Answer.{Answer}
use Rattle.bayou_answers.specs.declared.answer.Answer.TheVariants.{Booked, Counted, Done, NotAgain, Recovered}
use Rattle.bayou_answers.specs.declared.answer.Recovery.{Recovery}
use Rattle.bayou_machine.specs.declared.lent.Lent.{Lent}
use Rattle.bayou_machine.specs.declared.script_server.ScriptServer.{ScriptServer}
use Rattle.bayou_machine.specs.Exchange.{Exchanges, own_counts, zero_counts}
use Rattle.bayou_machine.specs.Filed.{Files, Filings, totals_filed, what_told}
use Rattle.bayou_script.specs.Capacity.{capacity_for}
use Rattle.bayou_machine.specs.Seats.{Asked, Seat, new_seat}
use Rattle.bayou_machine.specs.Standing.{HasBegun, Standing, StandsAt, asked_by, dumps_of, seat_of, tried_at, with_server, with_session}
use Rattle.bayou_answers.specs.Verdicts.{IsSurveyOn, IsVerdictOn}
use Rattle.bayou_machine.specs.ScriptServer.{IsFused, IsListed, IsRead, IsReopened, IsRestarted, IsShortened, IsWritten, IsWrittenAgain}

-- the session is opened
pub record Opens (old : Standing) (who : ℕ) (asks : Asks) (answer : Answer) (new : Standing) : Type 0 where
  pub name : SessionId
  pub is_named : name.index ≡ who
  pub answered : answer ≡ Done
  pub only : new ≡ with_session old name (new_seat name asks)

-- The reply to the operation that the session tries next is to be dropped.
pub record Drops (old : Standing) (who : ℕ) (answer : Answer) (new : Standing) : Type 0 where
  pub name : SessionId
  pub is_named : name.index ≡ who
  pub answered : answer ≡ Done
  pub only : new ≡ with_session old name (record (seat_of old name) { drops = true })

-- The session tries an operation at the server: what that does to the two of them, it does to how the script stands, and nothing else.
pub record Operates (Does : SessionId → ScriptServer → Seat → Answer → ScriptServer → Seat → Type 0) (old : Standing) (who place : ℕ) (answer : Answer) (new : Standing) : Type 0 where
  pub name : SessionId
  pub is_named : name.index ≡ who
  pub before : ScriptServer
  pub after : ScriptServer
  pub now : Seat
  pub stands : StandsAt old place before
  pub does : Does name before (seat_of old name) answer after now
  pub only : new ≡ with_session (with_server old place after) name now

-- The session asks something of the server, which stays as it is: only the session changes.
pub record Queries (Does : SessionId → ScriptServer → Seat → Answer → Seat → Type 0) (old : Standing) (who place : ℕ) (answer : Answer) (new : Standing) : Type 0 where
  pub name : SessionId
  pub is_named : name.index ≡ who
  pub replica : ScriptServer
  pub now : Seat
  pub stands : StandsAt old place replica
  pub does : Does name replica (seat_of old name) answer now
  pub only : new ≡ with_session old name now

-- What is done to the server changes how the script stands, and nothing else.
pub record Changes (Does : ServerId → ScriptServer → ScriptServer → Type 0) (old : Standing) (place : ℕ) (new : Standing) : Type 0 where
  pub name : ServerId
  pub is_named : name.index ≡ place
  pub before : ScriptServer
  pub after : ScriptServer
  pub stands : StandsAt old place before
  pub does : Does name before after
  pub only : new ≡ with_server old place after

-- what is asked of the server is answered so
pub record Sees (Is : ServerId → ScriptServer → Type 0) (standing : Standing) (place : ℕ) : Type 0 where
  pub name : ServerId
  pub is_named : name.index ≡ place
  pub replica : ScriptServer
  pub stands : StandsAt standing place replica
  pub is : Is name replica

-- the server is to be reopened or restarted
abbrev pub Recovers : (ServerId → ScriptServer → Recovery → ScriptServer → Type 0) → Standing → ℕ → Answer → Standing → Type 0
Recovers Does old place answer new =
    (recovery : Recovery) × (answer ≡ Recovered recovery) × Changes (λ name before after. Does name before recovery after) old place new

-- The session asks its last Write again, where it asked it; or it has none to ask again, and nothing changes.
abbrev pub AsksAgain : Option Asked → Standing → ℕ → Answer → Standing → Type 0
AsksAgain None old who answer new = (name : SessionId) × (name.index ≡ who) × (answer ≡ NotAgain name) × (new ≡ old)
AsksAgain (Some asked) old who answer new = Operates (λ name. IsWrittenAgain name asked.program) old who asked.server answer new

-- From old, what a line says may get this answer and leave new. A log has no answer for want of memory, which ends the run.
abbrev pub ScriptStep : Standing → Said → Answer → Standing → Type 0
ScriptStep old (servers count limit) answer new = ⊥
ScriptStep old (session who asks) answer new = Opens old who asks answer new
ScriptStep old (write who place program) answer new = Operates (λ name. IsWritten name place program) old who place answer new
ScriptStep old (read who place key) answer new = Queries (λ name. IsRead name key) old who place answer new
ScriptStep old (again who) answer new = AsksAgain (asked_by old who) old who answer new
ScriptStep old (drop who) answer new = Drops old who answer new
ScriptStep old (log place) answer new = (new ≡ old) × Sees (λ name replica. IsListed name replica answer) old place
ScriptStep old (fuse place calls kept) answer new = (answer ≡ Done) × Changes (λ name before after. IsFused calls kept before after) old place new
ScriptStep old (lose place count) answer new = (answer ≡ Done) × Changes (λ name before after. IsShortened count before after) old place new
ScriptStep old (reopen place) answer new = Recovers IsReopened old place answer new
ScriptStep old (restart place) answer new = Recovers (IsRestarted old.count old.limit) old place answer new
ScriptStep old (pull to source cut) answer new = Exchanges own_counts cut old to source answer new
ScriptStep old (resend to source) answer new = Exchanges zero_counts None old to source answer new
ScriptStep old totals answer new = ⊥
ScriptStep old judge answer new = ⊥
ScriptStep old survey answer new = ⊥
ScriptStep old book answer new = ⊥
ScriptStep old phase answer new = (new ≡ old) × (answer ≡ Done)
ScriptStep old (entry what counts) answer new = ⊥
ScriptStep old (held place written counts) answer new = ⊥

-- Servers and sessions have nothing to say of the book.
abbrev pub asks_book : Said → Bool
asks_book totals = true
asks_book judge = true
asks_book survey = true
asks_book book = true
asks_book _ = false

-- what is asked for may take memory to answer, and has no answer for the want of it
abbrev pub TakesMemory : Said → Type 0
TakesMemory (servers count limit) = ⊥
TakesMemory (session who asks) = ⊥
TakesMemory (write who server program) = ⊥
TakesMemory (read who server key) = ⊥
TakesMemory (again who) = ⊥
TakesMemory (drop who) = ⊥
TakesMemory (log server) = Unit {0}
TakesMemory (fuse server calls kept) = ⊥
TakesMemory (lose server count) = ⊥
TakesMemory (reopen server) = ⊥
TakesMemory (restart server) = ⊥
TakesMemory (pull to source cut) = ⊥
TakesMemory (resend to source) = ⊥
TakesMemory totals = ⊥
TakesMemory judge = Unit {0}
TakesMemory survey = Unit {0}
TakesMemory book = Unit {0}
TakesMemory phase = ⊥
TakesMemory (entry what counts) = ⊥
TakesMemory (held place written counts) = ⊥

-- The machine of a script: how its servers and sessions stand, and the book of what was served.
pub record ScriptState : Type 0 where
  pub standing : Standing
  pub book : Filings

-- as a script begins, nothing was filed
pub record IsNewRun (plan : Plan) (state : ScriptState) : Type 0 where
  pub standing : HasBegun plan.count plan.limit state.standing
  pub capacity : state.book.capacity ≡ capacity_for plan.commands
  pub none_filed : state.book.entries ≡ []

-- The session tries an operation at the server, and what it heard is filed, and nothing else.
pub record Tries (old : ScriptState) (who place : ℕ) (said : Said) (answer : Answer) (new : ScriptState) : Type 0 where
  pub step : ScriptStep old.standing said answer new.standing
  pub name : SessionId
  pub is_named : name.index ≡ who
  pub filed : List Entry
  pub files : Files who place (seat_of old.standing name).told (what_told answer) filed
  pub only : new.book ≡ record old.book { entries = old.book.entries ++ filed }

-- nothing is filed
pub record Leaves (old : ScriptState) (said : Said) (answer : Answer) (new : ScriptState) : Type 0 where
  pub step : ScriptStep old.standing said answer new.standing
  pub same : new.book ≡ old.book

-- what a session does is filed, and what is done to servers alone isn't
abbrev pub Does : Option (ℕ × ℕ) → ScriptState → Said → Answer → ScriptState → Type 0
Does None old said answer new = Leaves old said answer new
Does (Some (who, place)) old said answer new = Tries old who place said answer new

-- the verdict on what was filed so far and what the servers hold
abbrev pub IsJudged : ScriptState → Answer → Type 0
IsJudged state answer = IsVerdictOn state.standing.count state.book.entries (dumps_of state.standing) answer

-- the survey of what was filed so far and what the servers hold
abbrev pub IsSurveyed : ScriptState → Answer → Type 0
IsSurveyed state answer = IsSurveyOn state.standing.count state.book.entries (dumps_of state.standing) answer

-- what was filed so far and what the servers hold, as it is
pub record IsBooked (state : ScriptState) (answer : Answer) : Type 0 where
  pub file : AuditFile
  pub answered : answer ≡ Booked file
  pub count : file.count ≡ state.standing.count
  pub entries : file.entries.items ≡ state.book.entries
  pub dumps : lists_of file.dumps.items ≡ dumps_of state.standing

-- what is lent is what the file has
pub record LendsFile (file : AuditFile) (lent : Lent) : Type 0 where
  pub count : lent.count ≡ file.count
  pub entries : lent.entries.now ≡ file.entries.items
  pub dumps : lent_lists lent.dumps.items ≡ lists_of file.dumps.items

-- From old, what a line says may get this answer and leave new: what sessions hear is filed, and the totals, the verdict, the survey
-- and the book are those of what was filed so far.
abbrev pub Turn : ScriptState → Said → Answer → ScriptState → Type 0
Turn old totals answer new = (new ≡ old) × (answer ≡ Counted (totals_filed old.book.entries))
Turn old judge answer new = (new ≡ old) × IsJudged old answer
Turn old survey answer new = (new ≡ old) × IsSurveyed old answer
Turn old book answer new = (new ≡ old) × IsBooked old answer
Turn old said answer new = Does (tried_at old.standing said) old said answer new

-- what is said one after another may get these answers
abbrev pub ScriptRun : ScriptState → List Said → List Answer → ScriptState → Type 0
ScriptRun old [] [] new = new ≡ old
ScriptRun old (said ∷ others) (answer ∷ answers) new = (mid : ScriptState) × Turn old said answer mid × ScriptRun mid others answers new
ScriptRun old [] (answer ∷ answers) new = ⊥
ScriptRun old (said ∷ others) [] new = ⊥
