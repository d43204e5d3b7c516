-- What a session of a run hears of its operations (Terry et al. 1994; that a Write may be asked again is this project's own): of a Write by the
-- server that it names, of a Write asked again by the server that was asked, of a read by any, and of nothing below its need. Each may be reported
-- as refused or lost, whatever the server did.
use Rattle.std.specs.Prelude.{◌≡◌, ◌≢◌, ℕ, List, Option, None, Some, slice_get}
use Rattle.bayou_answers.specs.declared.answer.Answer.{Answer}
use Rattle.bayou_answers.specs.declared.answer.Answer.TheVariants.{Done, Wrote, Read, Refused, Lost, NotAgain, Logged, Stopped, Recovered, Exchanged, Counted, Judged, Surveyed, Booked}
use Rattle.bayou_base.specs.declared.server.ServerId.{ServerId}
use Rattle.bayou_base.specs.declared.session.SessionId.{SessionId}
use Rattle.bayou_base.specs.Vector.{Dominates}
use Rattle.bayou_client.specs.declared.asker.Asked.{Asked}
use Rattle.bayou_session.specs.Needs.{Told, read_need, write_need}
use Rattle.bayou_text.specs.declared.command.Attempt.{Attempt}
use Rattle.bayou_text.specs.declared.command.Attempt.TheVariants as attempt
use Rattle.bayou_text.specs.declared.command.Operation.{Operation}

-- the operation was not served: it was refused, or no reply of it came
abbrev pub IsUnserved : SessionId → Answer → Type 0
IsUnserved who (Refused session refusal) = session ≡ who
IsUnserved who (Lost session) = session ≡ who
IsUnserved who (NotAgain session) = ⊥
IsUnserved who Done = ⊥
IsUnserved who (Wrote session accepted) = ⊥
IsUnserved who (Read session key seen) = ⊥
IsUnserved who (Logged server listing vector) = ⊥
IsUnserved who (Stopped server) = ⊥
IsUnserved who (Recovered recovery) = ⊥
IsUnserved who (Exchanged transfer) = ⊥
IsUnserved who (Counted totals) = ⊥
IsUnserved who (Judged result) = ⊥
IsUnserved who (Surveyed result) = ⊥
IsUnserved who (Booked file) = ⊥

-- a Write that the server accepted, which held what the session needs; or none
abbrev pub AnswersWrite : SessionId → Told → ServerId → Answer → Type 0
AnswersWrite who told server (Wrote session accepted) =
    (session ≡ who) × Dominates accepted.deps (write_need told) × (accepted.wid.origin.index ≡ server.index)
AnswersWrite who told server answer = IsUnserved who answer

-- a read of the key from a database that has what the session needs; or none
abbrev pub AnswersRead : SessionId → Told → List ℕ → Answer → Type 0
AnswersRead who told key (Read session asked seen) = (session ≡ who) × (asked ≡ key) × Dominates seen.vector (read_need told)
AnswersRead who told key answer = IsUnserved who answer

-- A Write of the server that was asked for it before, as of a Write; or none. Where the session has nothing to ask again, it hears just that.
abbrev pub AnswersAgain : SessionId → Told → Option Asked → Answer → Type 0
AnswersAgain who told (Some asked) answer = AnswersWrite who told asked.server answer
AnswersAgain who told None answer = answer ≡ NotAgain who

-- every link but the one at this place is as it was
abbrev pub KeepsOthers : {Link : Type 0} → (at : ℕ) → (old new : List Link) → Type 0
KeepsOthers at old new = (other : ℕ) → other ≢ at → slice_get new other ≡ slice_get old other

abbrev pub AnswersAttempt : SessionId → Told → Option Asked → Attempt → Answer → Type 0
AnswersAttempt who told asked (attempt.Write server program) answer = AnswersWrite who told server answer
AnswersAttempt who told asked (attempt.Read server key) answer = AnswersRead who told key answer
AnswersAttempt who told asked attempt.Again answer = AnswersAgain who told asked answer

-- the answer to an operation of this session for some need, and for something that it may ask again, or nothing: which need it had then,
-- whether there was something to ask again, and at which server, isn't said
abbrev pub IsAnswerTo : SessionId → Operation → Answer → Type 0
IsAnswerTo who operation answer = (told : Told) × (asked : Option Asked) × AnswersAttempt who told asked operation.attempt answer
