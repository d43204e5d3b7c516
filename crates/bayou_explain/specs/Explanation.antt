-- What explains an audit: the breaches of its survey, one after another, or why its verdict is refused.
use Rattle.std.specs.Prelude.{◌≡◌, ◌≤◌, ℕ, List, [], ◌∷◌, ◌++◌, MatchOption, Option, None, Some, codes, decimal, length}
use Rattle.std.specs.List.{filter}
use Rattle.bayou_judge.specs.declared.breach.Breach.{Breach}
use Rattle.bayou_judge.specs.declared.verdict.BadEvidence.{BadEvidence}
use Rattle.bayou_judge.specs.declared.verdict.BadEvidence.TheVariants.{BadDump, Forged}
use Rattle.bayou_judge.specs.Evidence.{IsGoodAt}
use Rattle.bayou_lang.specs.declared.write.Write.{Write}
use Rattle.bayou_explain.specs.declared.line.Located.{Located}
use Rattle.bayou_explain.specs.declared.misfit.DumpMisfit.{DumpMisfit}
use Rattle.bayou_explain.specs.declared.refused.Forged.{Forged as Told}
use Rattle.bayou_explain.specs.Located.{tells_entry}
use Rattle.bayou_explain.specs.Misfit.{IsMisfitAt, misfit_line}
use Rattle.bayou_explain.specs.Refused.{IsForged}
use Rattle.bayou_explain.specs.Sentence.{entry_text, reason_text, sentence_text, title_text}

-- a text of the breach: what is broken, the lines that show it, and what is wrong with them
abbrev pub TellsBreach : Breach → List ℕ → Type 0
TellsBreach breach text = (lines : List ℕ) × (text ≡ title_text breach ++ (lines ++ sentence_text breach))

-- texts of these breaches, one after another
abbrev pub TellEach : List Breach → List ℕ → Type 0
TellEach [] text = text ≡ []
TellEach (breach ∷ breaches) text = (first rest : List ℕ) × TellsBreach breach first × TellEach breaches rest × (text ≡ first ++ rest)

-- the line that a bad dump's explanation begins with
abbrev pub bad_dump_text : (server place : ℕ) → List ℕ
bad_dump_text server place = codes "the Write at place " ++ (decimal place ++ (codes " of server " ++ (decimal server ++ codes "'s dump can't be there\n")))

-- and the one that it ends with, if the Write fails a condition
abbrev pub misfit_lines : Option DumpMisfit → List ℕ
misfit_lines None = []
misfit_lines (Some misfit) = misfit_line misfit

-- a text of the Write at this place of the server's dump: the condition that it fails, and none only where it fails none
abbrev pub TellsDump : ℕ → List (List Write) → (server place : ℕ) → List ℕ → Type 0
TellsDump count dumps server place text = (found : Option DumpMisfit) × (lines : List ℕ) × MatchOption found (IsGoodAt count dumps server place) (IsMisfitAt count dumps server place)
    × (text ≡ bad_dump_text server place ++ (lines ++ misfit_lines found))

-- a text of the entry of this number, or none where there is no such entry
pub data TellsForged (lines : List Located) (number : ℕ) (text : List ℕ) : Type 0 where
  none : length (filter tells_entry lines) ≤ number → text ≡ [] → TellsForged lines number text
  told : (forged : Told) (shown : List ℕ) → IsForged lines number forged → text ≡ entry_text number ++ (shown ++ reason_text forged.cause) → TellsForged lines number text

-- a text of a dump that can't be true, or of an entry
abbrev pub TellsRefusal : List Located → ℕ → List (List Write) → BadEvidence → List ℕ → Type 0
TellsRefusal lines count dumps (BadDump server place) text = TellsDump count dumps server.index place text
TellsRefusal lines count dumps (Forged number) text = TellsForged lines number text

-- how many breaches there are
abbrev pub counted_line : ℕ → List ℕ
counted_line breaches = codes "breaches in all: " ++ (decimal breaches ++ codes "\n")

-- what was audited
abbrev pub audited_line : (servers entries writes : ℕ) → List ℕ
audited_line servers entries writes = codes "audited: servers " ++ (decimal servers ++ (codes " entries " ++ (decimal entries ++ (codes " held " ++ (decimal writes ++ codes "\n")))))
