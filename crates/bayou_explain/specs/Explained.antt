-- The breaches of a survey, and the lines that show them.
use Rattle.std.specs.Prelude.{◌≡◌, ℕ, List, [], ◌∷◌, ◌++◌, Option, None, Some, All, Contains, MatchOption, flat_map, map}
use Rattle.bayou_judge.specs.declared.breach.Breach.{Breach}
use Rattle.bayou_judge.specs.declared.every.SessionBreaches.{SessionBreaches}
use Rattle.bayou_judge.specs.declared.verdict.Surveyed.{Surveyed}
use Rattle.bayou_text.specs.Said.{Said, audit_said}
use Rattle.bayou_explain.specs.declared.explained.Explained.{Explained}
use Rattle.bayou_explain.specs.declared.explained.ShownLine.{ShownLine}
use Rattle.bayou_explain.specs.declared.line.Located.{Located}
use Rattle.bayou_explain.specs.Located.{IsHeldBy, IsOperationAt}

abbrev pub breach_list : Option Breach → List Breach
breach_list None = []
breach_list (Some breach) = breach ∷ []

-- the breaches of a session
abbrev pub breaches_in : Surveyed → List Breach
breaches_in surveyed = breach_list surveyed.ryw ++ (breach_list surveyed.mr ++ (breach_list surveyed.wfr ++ breach_list surveyed.mw))

-- the breaches of a survey, in their order
abbrev pub breaches_of : List Surveyed → List Breach
breaches_of survey = flat_map breaches_in survey

-- every breach of a session, of one guarantee after another
abbrev pub breaches_all : SessionBreaches → List Breach
breaches_all found = found.ryw.items ++ (found.mr.items ++ (found.wfr.items ++ found.mw.items))

-- every breach of these sessions
abbrev pub every_of : List SessionBreaches → List Breach
every_of found = flat_map breaches_all found

-- the breaches that are explained
abbrev pub breaches_told : List Explained → List Breach
breaches_told list = map (λ explained. explained.breach) list

-- this is the line
abbrev pub IsOfLine : Located → ShownLine → Type 0
IsOfLine line shown = (shown.at ≡ line.at) × (shown.bytes.now ≡ line.bytes.now)

-- it is a line that tells this, or there is none
abbrev pub IsFound : List Located → (Said → Type 0) → Option ShownLine → Type 0
IsFound lines Tells found = MatchOption found
    (All (λ line. ¬ Tells (audit_said line.told)) lines)
    (λ shown. (line : Located) × Contains lines line × Tells (audit_said line.told) × IsOfLine line shown)

-- these are the lines of both operations, and of the Write, as its own server holds it and as the one where it was missing does
pub record IsShown (lines : List Located) (explained : Explained) : Type 0 where
  pub first : IsFound lines (IsOperationAt explained.breach.session.index explained.breach.first) explained.first
  pub second : IsFound lines (IsOperationAt explained.breach.session.index explained.breach.second) explained.second
  pub write : IsFound lines (IsHeldBy explained.breach.wid.origin.index explained.breach.wid) explained.write
  pub there : IsFound lines (IsHeldBy explained.breach.server.index explained.breach.wid) explained.there
