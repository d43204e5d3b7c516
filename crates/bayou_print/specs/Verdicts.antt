-- What is printed for a verdict and for a survey: this project's own lines.
use Rattle.std.specs.Prelude.{ℕ, List, ◌++◌, Option, None, Some, Result, Ok, Err, codes, decimal}
use Rattle.bayou_judge.specs.declared.breach.Breach.{Breach}
use Rattle.bayou_judge.specs.declared.breach.Guarantee.{Guarantee}
use Rattle.bayou_judge.specs.declared.breach.Guarantee.TheVariants.{ReadYourWrites, MonotonicReads, WritesFollowReads, MonotonicWrites}
use Rattle.bayou_judge.specs.declared.verdict.BadEvidence.{BadEvidence}
use Rattle.bayou_judge.specs.declared.verdict.BadEvidence.TheVariants.{BadDump, Forged}
use Rattle.bayou_judge.specs.declared.verdict.Surveyed.{Surveyed}
use Rattle.bayou_judge.specs.declared.verdict.Verdict.{Verdict}
use Rattle.bayou_judge.specs.declared.verdict.Verdict.TheVariants.{Clean, Broken}

abbrev pub guarantee_text : Guarantee → List ℕ
guarantee_text ReadYourWrites = codes "ryw"
guarantee_text MonotonicReads = codes "mr"
guarantee_text WritesFollowReads = codes "wfr"
guarantee_text MonotonicWrites = codes "mw"

-- where a breach shows: the places of the two operations, the server, and the Write
abbrev pub shown_text : Breach → List ℕ
shown_text breach =
    codes " places " ++ (decimal breach.first ++ (codes " " ++ (decimal breach.second ++ (codes " server " ++ (decimal breach.server.index
    ++ (codes " wid " ++ (decimal breach.wid.origin.index ++ (codes ":" ++ (decimal breach.wid.seq ++ codes "\n")))))))))

-- the least breach: the guarantee, the session, and where it shows
abbrev pub broken_text : Breach → List ℕ
broken_text breach = codes "broken " ++ (guarantee_text breach.guarantee ++ (codes " session " ++ (decimal breach.session.index ++ shown_text breach)))

-- why there is no verdict
abbrev pub refused_text : BadEvidence → List ℕ
refused_text (BadDump server at) = codes "judge refused dump " ++ (decimal server.index ++ (codes " " ++ (decimal at ++ codes "\n")))
refused_text (Forged at) = codes "judge refused forged " ++ (decimal at ++ codes "\n")

abbrev pub verdict_text : Result Verdict BadEvidence → List ℕ
verdict_text (Ok Clean) = codes "clean\n"
verdict_text (Ok (Broken breach)) = broken_text breach
verdict_text (Err bad) = refused_text bad

-- what became of a guarantee in a session
abbrev pub found_text : Option Breach → List ℕ
found_text None = codes "ok"
found_text (Some breach) =
    codes "broken " ++ (decimal breach.first ++ (codes " " ++ (decimal breach.second ++ (codes " " ++ (decimal breach.server.index
    ++ (codes " " ++ (decimal breach.wid.origin.index ++ (codes ":" ++ decimal breach.wid.seq))))))))

abbrev pub surveyed_text : Surveyed → List ℕ
surveyed_text surveyed =
    codes "survey " ++ (decimal surveyed.session.index ++ (codes " ryw " ++ (found_text surveyed.ryw ++ (codes " mr " ++ (found_text surveyed.mr
    ++ (codes " wfr " ++ (found_text surveyed.wfr ++ (codes " mw " ++ (found_text surveyed.mw ++ codes "\n")))))))))
