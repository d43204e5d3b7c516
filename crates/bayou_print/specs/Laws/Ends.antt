-- Each text that is printed is empty, or ends with a line feed.
use Rattle.std.proofs.Common.{◌≡◌, ℕ, Result, Ok, Err, ◌-◌, List, [], ◌∷◌, ◌++◌, ◌∙◌, refl, ap, sym, subst, length, get_or, append_assoc, codes, decimal, arith}
use Rattle.std.proofs.lemmas.List.{length_push, get_or_push}
use Rattle.std.specs.Io.{IsEmptyOrEndsWith}
use Rattle.bayou_lang.specs.declared.eval.Outcome.{Outcome}
use Rattle.bayou_lang.specs.declared.eval.Outcome.TheVariants.{Updated, Merged, Nothing}
use Rattle.bayou_log.specs.declared.listing.Listed.{Listed}
use Rattle.bayou_base.specs.Refusal.{refusal_word}
use Rattle.bayou_answers.specs.declared.answer.Answer.{Answer}
use Rattle.bayou_answers.specs.declared.answer.Answer.TheVariants.{Done, Wrote, Read, Refused, Lost, NotAgain, Logged, Stopped, Recovered, Exchanged, Counted, Judged, Surveyed, Booked}
use Rattle.bayou_answers.specs.declared.answer.Transfer.{Transfer}
use Rattle.bayou_answers.specs.declared.answer.Transfer.TheVariants.{NotRunning as NothingRuns, Ended}
use Rattle.bayou_answers.specs.declared.answer.Recovery.{Recovery}
use Rattle.bayou_answers.specs.declared.answer.Recovery.TheVariants.{Reopened, NotReopened, NotRunning, Restarted, NotRestarted}
use Rattle.bayou_judge.specs.declared.breach.Breach.{Breach}
use Rattle.bayou_judge.specs.declared.verdict.BadEvidence.{BadEvidence}
use Rattle.bayou_judge.specs.declared.verdict.BadEvidence.TheVariants.{BadDump, Forged}
use Rattle.bayou_judge.specs.declared.verdict.Surveyed.{Surveyed as SurveyedSession}
use Rattle.bayou_judge.specs.declared.verdict.Verdict.{Verdict}
use Rattle.bayou_judge.specs.declared.verdict.Verdict.TheVariants.{Clean, Broken}
use Rattle.bayou_node.specs.declared.node_settled.NodeSettled.{NodeSettled}
use Rattle.bayou_text.specs.Said.{Said}
use Rattle.bayou_print.specs.Booked.{line_text}
use Rattle.bayou_print.specs.Verdicts.{broken_text, found_text, guarantee_text, refused_text, surveyed_text, verdict_text}
use Rattle.bayou_print.specs.Printed.{adopted_text, counts_text, transfer_text, last_text, listed_text, outcome_text, pulling_text, recovery_text, refusal_text, settled_text, starting_text, value_text}

-- it ends with a line feed
record Ends (text : List ℕ) : Type 0 where
  front : List ℕ
  split : text ≡ front ++ 10 ∷ []

behind : (first second : List ℕ) → Ends second → Ends (first ++ second)
behind first second ends = record {
  front = first ++ ends.front;
  split = ap (λ l. first ++ l) ends.split ∙ sym (append_assoc first ends.front (10 ∷ []));
}

feed : Ends (10 ∷ [])
feed = record { front = []; split = refl }

ends_is : (text : List ℕ) → Ends text → IsEmptyOrEndsWith text 10
ends_is text ends = λ some.
    subst (λ (l : List ℕ). get_or l (length l - 1) 0 ≡ 10) (sym ends.split) (get_or_push ends.front 10 0 _ (omega (arith, length_push ends.front 10)))

recovery_ends : (recovery : Recovery) → Ends (recovery_text recovery)
recovery_ends (Reopened server adopted) = behind (codes "reopened ") _ (behind (decimal server.index) _ (behind (codes " adopted ") _ (behind (adopted_text adopted) _ feed)))
recovery_ends (NotReopened refusal) = behind (codes "reopen refused ") _ (behind (refusal_word refusal) _ feed)
recovery_ends NotRunning = record { front = codes "reopen refused stopped"; split = refl }
recovery_ends (Restarted server holds dropped) =
    behind (codes "restarted ") _ (behind (decimal server.index) _ (behind (codes " holds ") _ (behind (decimal holds) _ (behind (codes " dropped ") _ (behind (decimal dropped) _ feed)))))
recovery_ends (NotRestarted refusal) = behind (codes "restart refused ") _ (behind (starting_text refusal) _ feed)

transfer_ends : (transfer : Transfer) → Ends (transfer_text transfer)
transfer_ends NothingRuns = record { front = codes "pull fault lost"; split = refl }
transfer_ends (Ended (Ok pulled)) = behind (codes "pulled ") _ (behind (decimal pulled.taken) _ (behind (codes " had ") _ (behind (decimal pulled.had) _ feed)))
transfer_ends (Ended (Err stopped)) = behind (codes "pull fault ") _ (behind (pulling_text stopped.fault) _ feed)

outcome_ends : (outcome : Outcome) → Ends (outcome_text outcome)
outcome_ends Updated = record { front = codes " updated"; split = refl }
outcome_ends (Merged index) = behind (codes " merged ") _ (behind (decimal index) _ feed)
outcome_ends Nothing = record { front = codes " nothing"; split = refl }

pub listed_ends : (server : ℕ) (listed : Listed) → IsEmptyOrEndsWith (listed_text server listed) 10
listed_ends server listed =
    ends_is _
    (behind (codes "log ") _ (behind (decimal server) _ (behind (codes " ") _ (behind (decimal listed.wid.origin.index) _ (behind (codes ":") _ (behind (decimal listed.wid.seq) _ (behind (codes " clock ") _ (behind (decimal listed.stamp.clock) _ (outcome_ends listed.outcome)))))))))

nothing_ends : IsEmptyOrEndsWith [] 10
nothing_ends = λ some. absurd (omega arith)

refused_ends : (bad : BadEvidence) → IsEmptyOrEndsWith (refused_text bad) 10
refused_ends (BadDump server at) = ends_is _ (behind (codes "judge refused dump ") _ (behind (decimal server.index) _ (behind (codes " ") _ (behind (decimal at) _ feed))))
refused_ends (Forged at) = ends_is _ (behind (codes "judge refused forged ") _ (behind (decimal at) _ feed))

broken_ends : (breach : Breach) → Ends (broken_text breach)
broken_ends breach =
    behind (codes "broken ") _ (behind (guarantee_text breach.guarantee) _ (behind (codes " session ") _ (behind (decimal breach.session.index) _ (behind (codes " places ") _ (behind (decimal breach.first) _ (behind (codes " ") _ (behind (decimal breach.second) _ (behind (codes " server ") _ (behind (decimal breach.server.index) _ (behind (codes " wid ") _ (behind (decimal breach.wid.origin.index) _ (behind (codes ":") _ (behind (decimal breach.wid.seq) _ feed)))))))))))))

pub verdict_ends : (verdict : Result Verdict BadEvidence) → IsEmptyOrEndsWith (verdict_text verdict) 10
verdict_ends (Ok Clean) = ends_is _ (record { front = codes "clean"; split = refl })
verdict_ends (Ok (Broken breach)) = ends_is _ (broken_ends breach)
verdict_ends (Err refusal) = refused_ends refusal

pub surveyed_ends : (surveyed : SurveyedSession) → IsEmptyOrEndsWith (surveyed_text surveyed) 10
surveyed_ends surveyed =
    ends_is _
    (behind (codes "survey ") _ (behind (decimal surveyed.session.index) _ (behind (codes " ryw ") _ (behind (found_text surveyed.ryw) _ (behind (codes " mr ") _ (behind (found_text surveyed.mr) _ (behind (codes " wfr ") _ (behind (found_text surveyed.wfr) _ (behind (codes " mw ") _ (behind (found_text surveyed.mw) _ feed))))))))))

pub settled_ends : (server : ℕ) (settled : NodeSettled) → IsEmptyOrEndsWith (settled_text server settled) 10
settled_ends server settled =
    ends_is _ (behind (codes "settled ") _ (behind (decimal server) _ (behind (codes " accepted ") _ (behind (decimal settled.accepted) _ (behind (codes " adopted ") _ (behind (decimal settled.adopted) _ feed))))))

pub line_ends : (said : Said) → IsEmptyOrEndsWith (line_text said) 10
line_ends said = ends_is _ (behind _ _ feed)

pub last_ends : (servers : ℕ) (answer : Answer) → IsEmptyOrEndsWith (last_text servers answer) 10
last_ends servers Done = nothing_ends
last_ends servers (Wrote session accepted) =
    ends_is _
    (behind (decimal session.index) _ (behind (codes " wrote ") _ (behind (decimal accepted.wid.origin.index) _ (behind (codes ":") _ (behind (decimal accepted.wid.seq) _ (behind (codes " clock ") _ (behind (decimal accepted.stamp.clock) _ (behind (codes " deps ") _ (behind (counts_text servers accepted.deps) _ feed)))))))))
last_ends servers (Read session key seen) =
    ends_is _
    (behind (decimal session.index) _ (behind (codes " read ") _ (behind key _ (behind (codes " ") _ (behind (value_text seen.value) _ (behind (codes " at ") _ (behind (counts_text servers seen.vector) _ feed)))))))
last_ends servers (Refused session refusal) = ends_is _ (behind (decimal session.index) _ (behind (codes " refused ") _ (behind (refusal_text servers refusal) _ feed)))
last_ends servers (NotAgain session) = ends_is _ (behind (decimal session.index) _ (record { front = codes " again none"; split = refl }))
last_ends servers (Lost session) = ends_is _ (behind (decimal session.index) _ (record { front = codes " lost"; split = refl }))
last_ends servers (Logged server listing vector) = ends_is _ (behind (codes "log ") _ (behind (decimal server.index) _ (behind (codes " at ") _ (behind (counts_text servers vector) _ feed))))
last_ends servers (Stopped server) = ends_is _ (behind (codes "stopped ") _ (behind (decimal server.index) _ feed))
last_ends servers (Recovered recovery) = ends_is _ (recovery_ends recovery)
last_ends servers (Exchanged transfer) = ends_is _ (transfer_ends transfer)
last_ends servers (Counted totals) =
    ends_is _
    (behind (codes "totals reads ") _ (behind (decimal totals.reads) _ (behind (codes " writes ") _ (behind (decimal totals.writes) _ (behind (codes " refusals ") _ (behind (decimal totals.refusals) _ (behind (codes " slips ") _ (behind (decimal totals.slips) _ feed))))))))
last_ends servers (Judged verdict) = verdict_ends verdict
last_ends servers (Surveyed (Ok list)) = nothing_ends
last_ends servers (Surveyed (Err refusal)) = refused_ends refusal
last_ends servers (Booked file) = nothing_ends
