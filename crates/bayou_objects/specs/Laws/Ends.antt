-- Each text that is printed is empty, or ends with a line feed.
use Rattle.std.proofs.Common.{◌≡◌, ◌⊎◌, ℕ, Result, Ok, Err, ◌-◌, List, [], ◌∷◌, ◌++◌, ◌∙◌, inl, inr, refl, ap, sym, subst, length, get_or, append_assoc, codes, decimal, arith}
use Rattle.std.proofs.lemmas.List.{append-nil, length_push, get_or_push}
use Rattle.std.specs.Io.{IsEmptyOrEndsWith}
use Rattle.serde_json.specs.Written.{compact_text}
use Rattle.bayou_answers.specs.declared.answer.Answer.{Answer}
use Rattle.bayou_answers.specs.declared.answer.Answer.TheVariants.{Done, Wrote, Read, Refused, Lost, NotAgain, Logged, Stopped, Recovered, Exchanged, Counted, Judged, Surveyed, Booked}
use Rattle.bayou_answers.specs.declared.answer.Recovery.{Recovery}
use Rattle.bayou_answers.specs.declared.answer.Recovery.TheVariants.{Reopened, NotReopened, NotRunning, Restarted, NotRestarted}
use Rattle.bayou_answers.specs.declared.answer.Transfer.{Transfer}
use Rattle.bayou_answers.specs.declared.answer.Transfer.TheVariants.{NotRunning as NothingRuns, Ended}
use Rattle.bayou_base.specs.Refusal.{refusal_word}
use Rattle.bayou_explain.specs.Json.{bad_json, breach_json, reads_json, surveyed_json, surveys_json, verdict_json, writes_json}
use Rattle.bayou_judge.specs.declared.verdict.BadEvidence.{BadEvidence}
use Rattle.bayou_judge.specs.declared.verdict.Surveyed.{Surveyed as SurveyedSession}
use Rattle.bayou_judge.specs.declared.verdict.Verdict.{Verdict}
use Rattle.bayou_judge.specs.declared.verdict.Verdict.TheVariants.{Clean, Broken}
use Rattle.bayou_log.specs.declared.listing.Listed.{Listed}
use Rattle.bayou_objects.specs.Objects.{booked_json, last_json, listed_json, listed_members, log_members, object_json, pulled_members, read_members, recovery_json, refused_members, reopened_members, restarted_members, server_members, session_members, totals_members, transfer_json, why_members, wrote_members}
use Rattle.bayou_print.specs.Printed.{pulling_text, starting_text}
use Rattle.bayou_text.specs.Said.{Said}
use Rattle.bayou_text.specs.Spelling.{line_json}

-- it ends with a line feed
record Ends (text : List ℕ) : Type 0 where
  front : List ℕ
  split : text ≡ front ++ 10 ∷ []

behind : (first second : List ℕ) → Ends second → Ends (first ++ second)
behind first second ends = record {
  front = first ++ ends.front;
  split = ap (λ l. first ++ l) ends.split ∙ sym (append_assoc first ends.front (10 ∷ []));
}

-- the end of an object
close : Ends (codes "}\n")
close = record { front = codes "}"; split = refl }

ends_is : (text : List ℕ) → Ends text → IsEmptyOrEndsWith text 10
ends_is text ends = λ some.
    subst (λ (l : List ℕ). get_or l (length l - 1) 0 ≡ 10) (sym ends.split) (get_or_push ends.front 10 0 _ (omega (arith, length_push ends.front 10)))

nothing_ends : IsEmptyOrEndsWith [] 10
nothing_ends = λ some. absurd (omega arith)

object_ends : (kind members : List ℕ) → IsEmptyOrEndsWith (object_json kind members) 10
object_ends kind members = ends_is _ (behind (codes "{\"kind\":\"") _ (behind kind _ (behind (codes "\",") _ (behind members _ close))))

pub booked_ends : (said : Said) → IsEmptyOrEndsWith (booked_json said) 10
booked_ends said = ends_is _ (behind (codes "{\"kind\":\"book\",\"line\":") _ (behind (compact_text (line_json said)) _ close))

pub listed_ends : (server : ℕ) (listed : Listed) → IsEmptyOrEndsWith (listed_json server listed) 10
listed_ends server listed = object_ends (codes "listed") (listed_members server listed)

verdict_ends : (verdict : Result Verdict BadEvidence) → IsEmptyOrEndsWith (verdict_json verdict) 10
verdict_ends (Ok Clean) = ends_is _ (record { front = codes "{\"kind\":\"verdict\",\"verdict\":\"clean\"}"; split = refl })
verdict_ends (Ok (Broken breach)) = ends_is _ (behind (codes "{\"kind\":\"verdict\",\"verdict\":\"broken\",") _ (behind (breach_json breach) _ close))
verdict_ends (Err bad) = ends_is _ (behind (codes "{\"kind\":\"verdict\",\"verdict\":\"refused\",") _ (behind (bad_json bad) _ close))

surveyed_ends : (surveyed : SurveyedSession) → Ends (surveyed_json surveyed)
surveyed_ends surveyed =
    behind (codes "{\"kind\":\"survey\",\"session\":") _ (behind (decimal surveyed.session.index) _ (behind (codes ",") _ (behind (reads_json surveyed) _ (behind (codes ",") _ (behind (writes_json surveyed) _ close)))))

-- a text, and after it nothing or what ends with a line feed
before : (first second : List ℕ) → Ends first → (second ≡ []) ⊎ Ends second → Ends (first ++ second)
before first second ends (inl none) = subst Ends (sym (append-nil first) ∙ ap (λ l. first ++ l) (sym none)) ends
before first second ends (inr more) = behind first second more

surveys_end : (survey : List SurveyedSession) → (surveys_json survey ≡ []) ⊎ Ends (surveys_json survey)
surveys_end [] = inl refl
surveys_end (surveyed ∷ survey) = inr (before (surveyed_json surveyed) (surveys_json survey) (surveyed_ends surveyed) (surveys_end survey))

empty_or_ends : (text : List ℕ) → (text ≡ []) ⊎ Ends text → IsEmptyOrEndsWith text 10
empty_or_ends text (inl none) = subst (λ (l : List ℕ). IsEmptyOrEndsWith l 10) (sym none) nothing_ends
empty_or_ends text (inr ends) = ends_is text ends

recovery_ends : (recovery : Recovery) → IsEmptyOrEndsWith (recovery_json recovery) 10
recovery_ends (Reopened server adopted) = object_ends (codes "reopened") (reopened_members server adopted)
recovery_ends (NotReopened refusal) = object_ends (codes "not_reopened") (why_members (refusal_word refusal))
recovery_ends NotRunning = object_ends (codes "not_reopened") (why_members (codes "stopped"))
recovery_ends (Restarted server holds dropped) = object_ends (codes "restarted") (restarted_members server holds dropped)
recovery_ends (NotRestarted refusal) = object_ends (codes "not_restarted") (why_members (starting_text refusal))

transfer_ends : (transfer : Transfer) → IsEmptyOrEndsWith (transfer_json transfer) 10
transfer_ends NothingRuns = object_ends (codes "not_pulled") (why_members (codes "lost"))
transfer_ends (Ended (Ok pulled)) = object_ends (codes "pulled") (pulled_members pulled)
transfer_ends (Ended (Err stopped)) = object_ends (codes "not_pulled") (why_members (pulling_text stopped.fault))

pub last_ends : (servers : ℕ) (answer : Answer) → IsEmptyOrEndsWith (last_json servers answer) 10
last_ends servers Done = nothing_ends
last_ends servers (Wrote session accepted) = object_ends (codes "wrote") (wrote_members servers session accepted)
last_ends servers (Read session key seen) = object_ends (codes "read") (read_members servers session key seen)
last_ends servers (Refused session refusal) = object_ends (codes "refused") (refused_members servers session refusal)
last_ends servers (Lost session) = object_ends (codes "lost") (session_members session)
last_ends servers (NotAgain session) = object_ends (codes "not_again") (session_members session)
last_ends servers (Logged server listing vector) = object_ends (codes "log") (log_members servers server vector)
last_ends servers (Stopped server) = object_ends (codes "stopped") (server_members server)
last_ends servers (Recovered recovery) = recovery_ends recovery
last_ends servers (Exchanged transfer) = transfer_ends transfer
last_ends servers (Counted totals) = object_ends (codes "totals") (totals_members totals)
last_ends servers (Judged verdict) = verdict_ends verdict
last_ends servers (Surveyed (Ok list)) = empty_or_ends (surveys_json list.items) (surveys_end list.items)
last_ends servers (Surveyed (Err refusal)) = verdict_ends (Err refusal)
last_ends servers (Booked file) = nothing_ends
