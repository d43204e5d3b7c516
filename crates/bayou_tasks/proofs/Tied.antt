-- What a script is answered is told by the machine of all servers and sessions.
use Rattle.std.proofs.Common.{◌≡◌, ℕ, zero, suc, List, [], ◌∷◌, Option, length, take, max, ap, ap₂, sym, ◌∙◌, refl, subst, arith}
use Rattle.std.proofs.lemmas.List.{take_all}
use Rattle.bayou_base.specs.declared.asks.Asks.{Asks}
use Rattle.bayou_answers.specs.declared.answer.Answer.{Answer}
use Rattle.bayou_answers.specs.declared.answer.Answer.TheVariants as answers_of
use Rattle.bayou_machine.specs.Run.{IsNewRun, ScriptRun, ScriptState}
use Rattle.bayou_print.specs.declared.ended.Ended.{Ended}
use Rattle.bayou_print.specs.declared.ended.Ended.TheVariants as ended_as
use Rattle.bayou_print.specs.Fault.{answer_status, answers_status, ended_status}
use Rattle.bayou_runs.specs.Runs.{AreClean, IsInRange, IsPlain, RestartsWhole, TellsClean, ToldByRun, asks_in}
use Rattle.bayou_script.specs.Script.{IsScript, Plan}
use Rattle.bayou_text.specs.Said.{Said, servers, session, write, read, again, drop, log, fuse, lose, reopen, restart, pull, resend, totals, judge, survey, book, phase, entry, held}
use Rattle.bayou_tasks.specs.declared.form.AnswerForm.{AnswerForm}
use Rattle.bayou_tasks.specs.Run.{AreTold, Prints, PrintsPart, PrintsPartTold, PrintsTold}

-- what the law of scripts says
abbrev pub IsLaw : Type 0
IsLaw = (lines : List (List ℕ)) (plan : Plan) (number : ℕ) (answers : List Answer) (first last : ScriptState) → IsScript lines plan → IsInRange plan → IsNewRun plan first
    → ScriptRun first (take number plan.commands) answers last → RestartsWhole (take number plan.commands) → ToldByRun plan (take number plan.commands) answers last

-- the first lines were answered so
run_front : (number : ℕ) (first last : ScriptState) (commands : List Said) (answers : List Answer) → ScriptRun first commands answers last
    → (mid : ScriptState) × ScriptRun first (take number commands) (take number answers) mid
run_front zero first last commands answers run = (first, refl)
run_front (suc number) first last [] [] run = (first, refl)
run_front (suc number) first last [] (answer ∷ answers) run = absurd run
run_front (suc number) first last (said ∷ commands) [] run = absurd run
run_front (suc number) first last (said ∷ commands) (answer ∷ answers) (next, turn, run) =
    let rest = run_front number next last commands answers run in (rest.0, (next, turn, rest.1))

-- the first lines of the first ones are the first ones
front_of : {A : Type 0} (number many : ℕ) (list : List A) → (least : ℕ) × (take number (take many list) ≡ take least list)
front_of zero many list = (0, refl)
front_of (suc number) zero list = (0, refl)
front_of (suc number) (suc many) [] = (0, refl)
front_of (suc number) (suc many) (one ∷ list) = let rest = front_of number many list in (suc rest.0, ap (λ others. one ∷ others) rest.1)

are_told : IsLaw → (lines : List (List ℕ)) (plan : Plan) → IsScript lines plan → IsInRange plan → (many : ℕ) (first last : ScriptState) (answers : List Answer) → IsNewRun plan first
    → ScriptRun first (take many plan.commands) answers last → AreTold plan first (take many plan.commands) answers
are_told law lines plan script in_range many first last answers new run number whole =
    let front = run_front number first last (take many plan.commands) answers run in
    let least = front_of number many plan.commands in
    let same = least.1 in (
      front.0,
      front.1,
      subst (λ list. ToldByRun plan list (take number answers) front.0) (sym same)
          (law lines plan least.0 (take number answers) first front.0 script in_range new
          (subst (λ list. ScriptRun first list (take number answers) front.0) same front.1) (subst RestartsWhole same whole)),
    )

pub part_told : IsLaw → (form : AnswerForm) (lines : List (List ℕ)) (plan : Plan) → IsScript lines plan → IsInRange plan → (text : List ℕ) → PrintsPart form plan text → PrintsPartTold form plan text
part_told law form lines plan script in_range text part = record {
  prints = part;
  told = are_told law lines plan script in_range part.number part.first part.last part.answers part.begun part.run;
}

-- ---- a run whose verdicts are clean ends so

plain_status : (answer : Answer) → IsPlain answer → answer_status answer ≡ 0
plain_status answers_of.Done is = refl
plain_status (answers_of.Wrote who accepted) is = refl
plain_status (answers_of.Read who key seen) is = refl
plain_status (answers_of.Refused who refusal) is = refl
plain_status (answers_of.Lost who) is = refl
plain_status (answers_of.NotAgain who) is = refl
plain_status (answers_of.Logged name listing vector) is = refl
plain_status (answers_of.Stopped name) is = refl
plain_status (answers_of.Recovered recovery) is = refl
plain_status (answers_of.Exchanged transfer) is = refl
plain_status (answers_of.Counted counts) is = refl
plain_status (answers_of.Judged result) is = absurd is
plain_status (answers_of.Surveyed result) is = absurd is
plain_status (answers_of.Booked file) is = refl

clean_status : (asks : ℕ → Option Asks) (said : Said) (answer : Answer) → TellsClean asks said answer → answer_status answer ≡ 0
clean_status asks (servers count limit) answer clean = plain_status answer clean
clean_status asks (session who wants) answer clean = plain_status answer clean
clean_status asks (write who place program) answer clean = plain_status answer clean
clean_status asks (read who place key) answer clean = plain_status answer clean
clean_status asks (again who) answer clean = plain_status answer clean
clean_status asks (drop who) answer clean = plain_status answer clean
clean_status asks (log place) answer clean = plain_status answer clean
clean_status asks (fuse place calls kept) answer clean = plain_status answer clean
clean_status asks (lose place bytes) answer clean = plain_status answer clean
clean_status asks (reopen place) answer clean = plain_status answer clean
clean_status asks (restart place) answer clean = plain_status answer clean
clean_status asks (pull to source cut) answer clean = plain_status answer clean
clean_status asks (resend to source) answer clean = plain_status answer clean
clean_status asks totals answer clean = plain_status answer clean
clean_status asks judge answer clean = ap answer_status clean
clean_status asks survey answer clean = ap answer_status clean.1
clean_status asks book answer clean = plain_status answer clean
clean_status asks phase answer clean = plain_status answer clean
clean_status asks (entry what counts) answer clean = plain_status answer clean
clean_status asks (held place item counts) answer clean = plain_status answer clean

run_status : (asks : ℕ → Option Asks) (commands : List Said) (answers : List Answer) (first last : ScriptState) → ScriptRun first commands answers last → AreClean asks commands answers → answers_status answers ≡ 0
run_status asks [] [] first last run clean = refl
run_status asks [] (answer ∷ answers) first last run clean = absurd run
run_status asks (said ∷ commands) [] first last run clean = absurd run
run_status asks (said ∷ commands) (answer ∷ answers) first last (mid, turn, run) clean =
    ap₂ max (clean_status asks said answer clean.0) (run_status asks commands answers mid last run clean.1)

no_status : (ended : Ended) → ended_status ended ≡ 0 → ended ≡ ended_as.Clean
no_status ended_as.Clean none = refl
no_status ended_as.Broken none = absurd (cc)
no_status ended_as.Refused none = absurd (cc)

pub whole_told : IsLaw → (form : AnswerForm) (lines : List (List ℕ)) (plan : Plan) → IsScript lines plan → IsInRange plan → (ended : Ended) (text : List ℕ) → Prints form plan ended text → PrintsTold form plan ended text
whole_told law form lines plan script in_range ended text all =
    let many = length plan.commands in
    let same : take many plan.commands ≡ plan.commands = take_all many plan.commands (omega arith) in
    let run = subst (λ commands. ScriptRun all.first commands all.answers all.last) (sym same) all.run in
    record {
      prints = all;
      told = subst (λ commands. AreTold plan all.first commands all.answers) same (are_told law lines plan script in_range many all.first all.last all.answers all.begun run);
      clean = λ whole.
          let told = subst (λ commands. ToldByRun plan commands all.answers all.last) same
          (law lines plan many all.answers all.first all.last script in_range all.begun run (subst RestartsWhole (sym same) whole)) in
          no_status ended (all.verdicts ∙ run_status (asks_in plan.commands) plan.commands all.answers all.first all.last all.run told.clean);
    }
