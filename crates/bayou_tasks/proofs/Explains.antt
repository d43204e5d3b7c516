-- Audits that are explained: what was printed of them.
use Rattle.std.proofs.Common.{◌≡◌, ◌∙◌, ◌++◌, ℕ, Bool, true, false, List, [], Option, None, Some, IfSome, Result, Ok, Err, ap, append_assoc, refl, subst, sym}
use Rattle.std.proofs.lemmas.List.{append-nil}
use Rattle.std.specs.Global.{Vec}
use Rattle.bayou_base.specs.declared.entry.Entry.{Entry}
use Rattle.bayou_explain.specs.Explained.{breaches_of, every_of}
use Rattle.bayou_explain.specs.Explanation.{TellEach}
use Rattle.bayou_explain.specs.Json.{TellEachAsJson}
use Rattle.bayou_judge.specs.Answers.{BreachesAnswer, Refuses, SurveyAnswer}
use Rattle.bayou_judge.specs.declared.breach.Breach.{Breach}
use Rattle.bayou_judge.specs.declared.every.SessionBreaches.{SessionBreaches}
use Rattle.bayou_judge.specs.declared.verdict.BadEvidence.{BadEvidence}
use Rattle.bayou_judge.specs.declared.verdict.Surveyed.{Surveyed}
use Rattle.bayou_lang.specs.declared.write.Write.{Write}
use Rattle.bayou_picture.specs.Marks.{breaches_found}
use Rattle.bayou_picture.specs.Picture.{Pictures}
use Rattle.bayou_print.specs.declared.ended.Ended.{Ended}
use Rattle.bayou_print.specs.Fault.{ended_status}
use Rattle.bayou_script.specs.AuditFile.{Evidence, IsAuditFile}
use Rattle.bayou_script.specs.Script.{lines_of}
use Rattle.bayou_tasks.specs.Audit.{IsAudit}
use Rattle.bayou_tasks.specs.Explanations.{ExplainsAs, IsDrawnBeside, IsJsonAudit, IsShownOf, IsSurveyedOf, IsToldAsJson, IsToldBeside, IsToldOf, SaysAudit, Shows}
use Rattle.bayou_tasks.specs.declared.explained.AuditOutcome.{AuditOutcome}
use Rattle.bayou_tasks.specs.declared.explained.Beside.{Beside}
use Rattle.bayou_streams.specs.Account.{Account, TakesBytes}
use Rattle.bayou_streams.specs.Laws.Taken.{TakesBytes-trans}

-- all of it is told
pub told_whole : (shown : Result (Vec Breach) BadEvidence) (list : Vec Breach) (text : List ℕ) → shown ≡ Ok list → TellEach list.items text → IsToldOf shown text
told_whole shown list text is each =
    subst (λ (s : Result (Vec Breach) BadEvidence). IsToldOf s text) (sym is) (text, [], each, sym (append-nil text))

pub told_refused : (shown : Result (Vec Breach) BadEvidence) (bad : BadEvidence) (text : List ℕ) → shown ≡ Err bad → IsToldOf shown text
told_refused shown bad text is = subst (λ (s : Result (Vec Breach) BadEvidence). IsToldOf s text) (sym is) tt

-- and more after it
pub told_more : (shown : Result (Vec Breach) BadEvidence) (text more : List ℕ) → IsToldOf shown text → IsToldOf shown (text ++ more)
told_more (Ok list) text more (breaches, rest, each, is) = (breaches, rest ++ more, each, ap (λ t. t ++ more) is ∙ append_assoc breaches rest more)
told_more (Err bad) text more told = tt

-- an audit file's verdict and survey were printed, and then what is told beside them
pub explained : (beside : Beside) (made : AuditOutcome) (known : Option (List ℕ)) (text : List ℕ) (evidence : Evidence) (ended : Ended) (told : List ℕ) (a b c : Account)
    → IfSome known (λ all. text ≡ all) → IsAuditFile (lines_of text) evidence → (audit : List ℕ) × SaysAudit beside.is_json evidence ended audit × TakesBytes a b audit
    → (survey : Result (Vec Surveyed) BadEvidence) × IsSurveyedOf evidence survey × (shown : Result (Vec Breach) BadEvidence) × IsShownOf beside.is_all evidence shown
    × IsToldBeside beside.is_explained beside.is_json shown told × IsDrawnBeside beside.is_drawn survey made.picture
    → TakesBytes b c told → made.status ≡ ended_status ended → IfSome known (λ all. ExplainsAs beside all made a c)
explained beside made None text evidence ended told a b c whole file audited surveyed taken status = tt
explained beside made (Some all) text evidence ended told a b c whole file (audit, audited, first) (survey, surveyed, shown, shows, tells, drawn) second status =
    subst (λ (t : List ℕ). ExplainsAs beside t made a c) whole
    (record {
      evidence = evidence;
      is = file;
      ended = ended;
      audit = audit;
      audited = audited;
      survey = survey;
      surveyed = surveyed;
      shown = shown;
      shows = shows;
      told = told;
      tells = tells;
      printed = TakesBytes-trans a b c audit told first second;
      status_is = status;
      drawn = drawn;
    })

-- all of it is told as JSON
pub told_whole_json : (shown : Result (Vec Breach) BadEvidence) (list : Vec Breach) (text : List ℕ) → shown ≡ Ok list → TellEachAsJson list.items text → IsToldAsJson shown text
told_whole_json shown list text is each =
    subst (λ (s : Result (Vec Breach) BadEvidence). IsToldAsJson s text) (sym is) (text, [], each, sym (append-nil text))

pub told_refused_json : (shown : Result (Vec Breach) BadEvidence) (bad : BadEvidence) (text : List ℕ) → shown ≡ Err bad → IsToldAsJson shown text
told_refused_json shown bad text is = subst (λ (s : Result (Vec Breach) BadEvidence). IsToldAsJson s text) (sym is) tt

-- and more after it
pub told_more_json : (shown : Result (Vec Breach) BadEvidence) (text more : List ℕ) → IsToldAsJson shown text → IsToldAsJson shown (text ++ more)
told_more_json (Ok list) text more (breaches, rest, each, is) = (breaches, rest ++ more, each, ap (λ t. t ++ more) is ∙ append_assoc breaches rest more)
told_more_json (Err bad) text more told = tt

-- where it is asked for that more is told, or not
pub told_if : (is_explained is_json : Bool) (survey : Result (Vec Breach) BadEvidence) (text : List ℕ) → is_explained ≡ true → is_json ≡ false → IsToldOf survey text
    → IsToldBeside is_explained is_json survey text
told_if true false survey text is isnt told = told
told_if true true survey text is isnt told = cc
told_if false json survey text is isnt told = cc

pub told_json : (is_explained is_json : Bool) (survey : Result (Vec Breach) BadEvidence) (text : List ℕ) → is_explained ≡ true → is_json ≡ true → IsToldAsJson survey text
    → IsToldBeside is_explained is_json survey text
told_json true true survey text is json told = told
told_json true false survey text is json told = cc
told_json false any survey text is json told = cc

pub told_not : (is_explained is_json : Bool) (survey : Result (Vec Breach) BadEvidence) (text : List ℕ) → is_explained ≡ false → text ≡ [] → IsToldBeside is_explained is_json survey text
told_not true json survey text is none = cc
told_not false json survey text is none = none

-- what is said, as it is asked for
pub says_json : (is_json : Bool) (evidence : Evidence) (ended : Ended) (text : List ℕ) → is_json ≡ true → IsJsonAudit evidence ended text → SaysAudit is_json evidence ended text
says_json true evidence ended text is said = said
says_json false evidence ended text is said = cc

pub says_plain : (is_json : Bool) (evidence : Evidence) (ended : Ended) (text : List ℕ) → is_json ≡ false → IsAudit evidence ended text → SaysAudit is_json evidence ended text
says_plain false evidence ended text is said = said
says_plain true evidence ended text is said = cc

pub drawn_if : (is_drawn : Bool) (survey : Result (Vec Surveyed) BadEvidence) (text : Vec ℕ) → is_drawn ≡ true → Pictures (breaches_found survey) text.items
    → IsDrawnBeside is_drawn survey (Some text)
drawn_if true survey text is pictures = pictures
drawn_if false survey text is pictures = cc

pub drawn_not : (is_drawn : Bool) (survey : Result (Vec Surveyed) BadEvidence) → is_drawn ≡ false → IsDrawnBeside is_drawn survey None
drawn_not true survey is = cc
drawn_not false survey is = refl

-- of the same entries and dumps the same is shown
pub shows_of : (is_all : Bool) (count : ℕ) (entries others : List Entry) (dumps lists : List (List Write)) (shown : Result (Vec Breach) BadEvidence) → entries ≡ others → dumps ≡ lists
    → Shows is_all count entries dumps shown → Shows is_all count others lists shown
shows_of is_all count entries others dumps lists shown same are shows =
    subst (λ (list : List Entry). Shows is_all count list lists shown) same (subst (λ (list : List (List Write)). Shows is_all count entries list shown) are shows)

pub answers_of : (count : ℕ) (entries others : List Entry) (dumps lists : List (List Write)) (survey : Result (Vec Surveyed) BadEvidence) → entries ≡ others → dumps ≡ lists
    → SurveyAnswer count entries dumps survey → SurveyAnswer count others lists survey
answers_of count entries others dumps lists survey same are answer =
    subst (λ (list : List Entry). SurveyAnswer count list lists survey) same (subst (λ (list : List (List Write)). SurveyAnswer count entries list survey) are answer)

-- the least breaches of a survey are those that are shown
pub shows_least : (count : ℕ) (entries : List Entry) (dumps : List (List Write)) (survey : Result (Vec Surveyed) BadEvidence) (list : Vec Surveyed) (made : Vec Breach) → survey ≡ Ok list
    → made.items ≡ breaches_of list.items → SurveyAnswer count entries dumps survey → Shows false count entries dumps (Ok made)
shows_least count entries dumps survey list made is items answer =
    let both = subst (λ (s : Result (Vec Surveyed) BadEvidence). SurveyAnswer count entries dumps s) is answer in
    (both.0, (list.items, both.1, items))

pub shows_refused : (is_all : Bool) (count : ℕ) (entries : List Entry) (dumps : List (List Write)) (bad : BadEvidence) → Refuses count entries dumps bad → Shows is_all count entries dumps (Err bad)
shows_refused true count entries dumps bad refuses = refuses
shows_refused false count entries dumps bad refuses = refuses

pub shows_every : (count : ℕ) (entries : List Entry) (dumps : List (List Write)) (found : Vec SessionBreaches) (made : Vec Breach) → made.items ≡ every_of found.items
    → BreachesAnswer count entries dumps (Ok found) → Shows true count entries dumps (Ok made)
shows_every count entries dumps found made items answer = (answer.0, (found.items, answer.1, items))
