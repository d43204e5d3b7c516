-- A line that asks neither for the verdict nor for the survey is answered neither.
use Rattle.std.proofs.Common.{◌≡◌, inl, inr, ℕ, ◌+◌, Bool, true, false, List, Option, None, Some, Result, Ok, Err, sym, refl, subst}
use Rattle.std.specs.Option.{option_map}
use Rattle.bayou_base.specs.declared.answer.Seen.{Seen}
use Rattle.bayou_base.specs.declared.server.ServerId.{ServerId}
use Rattle.bayou_base.specs.declared.session.SessionId.{SessionId}
use Rattle.bayou_lang.specs.declared.program.Program.{Program}
use Rattle.bayou_server.specs.declared.answer.Written.{Written}
use Rattle.bayou_server.specs.declared.fault.Behind.{Behind}
use Rattle.bayou_server.specs.declared.fault.WriteFault.{WriteFault}
use Rattle.bayou_text.specs.Said.{Said, servers, session, write, read, again, drop, log, fuse, lose, reopen, restart, pull, resend, totals, judge, survey, book, phase, entry, held}
use Rattle.bayou_answers.specs.declared.answer.Answer.{Answer}
use Rattle.bayou_answers.specs.declared.answer.Answer.TheVariants as answers_of
use Rattle.bayou_machine.specs.declared.script_server.ScriptServer.{ScriptServer}
use Rattle.bayou_machine.specs.Run.{AsksAgain, Does, ScriptState, Turn}
use Rattle.bayou_machine.specs.ScriptServer.{AnswersWrite, GetsNoReply, IsListed, IsRead, IsWritten, IsWrittenAgain, no_place, read_answer, reply_of, stopped, write_answer}
use Rattle.bayou_machine.specs.Seats.{Asked, Seat, asks_at, asks_once_more, begins_read}
use Rattle.bayou_machine.specs.Standing.{Standing, asked_by, seat_of}
use Rattle.bayou_runs.specs.Runs.{IsPlain, asks_judge}

of_reply : (drops : Bool) (who : SessionId) (told : Answer) → IsPlain told → IsPlain (reply_of drops who told)
of_reply true who told none = tt
of_reply false who told none = none

of_written : (who : SessionId) (result : Result Written WriteFault) → IsPlain (write_answer who result)
of_written who (Ok written) = tt
of_written who (Err fault) = tt

of_read : (who : SessionId) (key : List ℕ) (result : Result Seen Behind) → IsPlain (read_answer who key result)
of_read who key (Ok seen) = tt
of_read who key (Err behind) = tt

of_silent : (who : SessionId) (begins : Seat → Seat) (replica : ScriptServer) (seat : Seat) (answer : Answer) (now : Seat) → GetsNoReply who begins replica seat answer now → IsPlain answer
of_silent who begins replica seat answer now (no_place none is same) = subst IsPlain (sym is) tt
of_silent who begins replica seat answer now (stopped left was more is same) = subst IsPlain (sym is) tt

of_write : (who : SessionId) (number : ℕ) (program : Program) (begins : Seat → Seat) (before : ScriptServer) (seat : Seat) (answer : Answer) (after : ScriptServer) (now : Seat)
    → AnswersWrite who number program begins before seat answer after now → IsPlain answer
of_write who number program begins before seat answer after now is = subst IsPlain (sym is.answered) (of_reply seat.drops who (write_answer who is.result) (of_written who is.result))

of_list : (id : ServerId) (replica : ScriptServer) (answer : Answer) → IsListed id replica answer → IsPlain answer
of_list id replica answers_of.Done is = tt
of_list id replica (answers_of.Wrote who accepted) is = tt
of_list id replica (answers_of.Read who key seen) is = tt
of_list id replica (answers_of.Refused who refusal) is = tt
of_list id replica (answers_of.Lost who) is = tt
of_list id replica (answers_of.NotAgain who) is = tt
of_list id replica (answers_of.Logged name listing vector) is = tt
of_list id replica (answers_of.Stopped name) is = tt
of_list id replica (answers_of.Recovered recovery) is = tt
of_list id replica (answers_of.Exchanged transfer) is = tt
of_list id replica (answers_of.Counted counts) is = tt
of_list id replica (answers_of.Judged result) is = absurd is
of_list id replica (answers_of.Surveyed result) is = absurd is
of_list id replica (answers_of.Booked file) is = tt

reply_written : (who : SessionId) (place : ℕ) (program : Program) (before : ScriptServer) (seat : Seat) (answer : Answer) (after : ScriptServer) (now : Seat)
    → IsWritten who place program before seat answer after now → IsPlain answer
reply_written who place program before seat answer after now (inl (silent, same)) = of_silent who (asks_at place program) before seat answer now silent
reply_written who place program before seat answer after now (inr answers) = of_write who (seat.told.begun + 1) program (asks_at place program) before seat answer after now answers

reply_again : (who : SessionId) (program : Program) (before : ScriptServer) (seat : Seat) (answer : Answer) (after : ScriptServer) (now : Seat)
    → IsWrittenAgain who program before seat answer after now → IsPlain answer
reply_again who program before seat answer after now (inl (silent, same)) = of_silent who asks_once_more before seat answer now silent
reply_again who program before seat answer after now (inr (number, asked, answers)) = of_write who number program asks_once_more before seat answer after now answers

reply_read : (who : SessionId) (key : List ℕ) (replica : ScriptServer) (seat : Seat) (answer : Answer) (now : Seat) → IsRead who key replica seat answer now → IsPlain answer
reply_read who key replica seat answer now (inl silent) = of_silent who begins_read replica seat answer now silent
reply_read who key replica seat answer now (inr is) = subst IsPlain (sym is.answered) (of_reply seat.drops who (read_answer who key is.result) (of_read who key is.result))

again_plain : (asked : Option Asked) (state : Standing) (who : ℕ) (answer : Answer) (new : Standing) → AsksAgain asked state who answer new → IsPlain answer
again_plain None state who answer new is = subst IsPlain (sym is.2) tt
again_plain (Some asked) state who answer new is = reply_again is.name asked.program is.before (seat_of state is.name) answer is.after is.now is.does

again_line_plain : (asked : Option Asked) (state : ScriptState) (who : ℕ) (answer : Answer) (new : ScriptState) → asked_by state.standing who ≡ asked
    → Does (option_map (λ (a : Asked). (who, a.server)) asked) state (again who) answer new → IsPlain answer
again_line_plain None state who answer new is turn = again_plain (asked_by state.standing who) state.standing who answer new.standing turn.step
again_line_plain (Some asked) state who answer new is turn = again_plain (asked_by state.standing who) state.standing who answer new.standing turn.step

pub turn_plain : (said : Said) (state new : ScriptState) (answer : Answer) → asks_judge said ≡ false → Turn state said answer new → IsPlain answer
turn_plain (servers count limit) state new answer none turn = absurd turn.step
turn_plain (session who wants) state new answer none turn = subst IsPlain (sym turn.step.answered) tt
turn_plain (write who place program) state new answer none turn =
    let step = turn.step in reply_written step.name place program step.before (seat_of state.standing step.name) answer step.after step.now step.does
turn_plain (read who place key) state new answer none turn =
    let step = turn.step in reply_read step.name key step.replica (seat_of state.standing step.name) answer step.now step.does
turn_plain (again who) state new answer none turn = again_line_plain (asked_by state.standing who) state who answer new refl turn
turn_plain (drop who) state new answer none turn = subst IsPlain (sym turn.step.answered) tt
turn_plain (log place) state new answer none turn = of_list turn.step.1.name turn.step.1.replica answer turn.step.1.is
turn_plain (fuse place calls kept) state new answer none turn = subst IsPlain (sym turn.step.0) tt
turn_plain (lose place bytes) state new answer none turn = subst IsPlain (sym turn.step.0) tt
turn_plain (reopen place) state new answer none turn = subst IsPlain (sym turn.step.1) tt
turn_plain (restart place) state new answer none turn = subst IsPlain (sym turn.step.1) tt
turn_plain (pull to source cut) state new answer none turn = subst IsPlain (sym turn.step.answered) tt
turn_plain (resend to source) state new answer none turn = subst IsPlain (sym turn.step.answered) tt
turn_plain totals state new answer none turn = subst IsPlain (sym turn.1) tt
turn_plain judge state new answer none turn = absurd (cc)
turn_plain survey state new answer none turn = absurd (cc)
turn_plain book state new answer none turn = subst IsPlain (sym turn.1.answered) tt
turn_plain phase state new answer none turn = subst IsPlain (sym turn.step.1) tt
turn_plain (entry what counts) state new answer none turn = absurd turn.step
turn_plain (held place item counts) state new answer none turn = absurd turn.step
