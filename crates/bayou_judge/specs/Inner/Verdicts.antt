-- Surveys session by session, and which breach of one is reported: inner words.
use Rattle.std.specs.Prelude.{◌≡◌, ℕ, ◌<◌, true, List, Option, Some, None, All, AllPairs, Any, slice_get}
use Rattle.bayou_base.specs.declared.entry.Entry.{Entry}
use Rattle.bayou_judge.specs.declared.breach.Breach.{Breach}
use Rattle.bayou_judge.specs.declared.verdict.Surveyed.{Surveyed}
use Rattle.bayou_judge.specs.Answers.{IsSurveyed}
use Rattle.bayou_judge.specs.Breaches.{is_asked}
use Rattle.bayou_judge.specs.History.{History}

-- the survey of the sessions before this one
pub record IsSurveyTo (history : History) (entries : List Entry) (upto : ℕ) (list : List Surveyed) : Type 0 where
  pub in_order : AllPairs (λ a b. a.session.index < b.session.index) list
  pub below : All (λ surveyed. surveyed.session.index < upto) list
  pub every : All (λ entry. entry.session.index < upto → Any (λ surveyed. surveyed.session ≡ entry.session) list) entries
  pub only : All (λ surveyed. Any (λ entry. entry.session ≡ surveyed.session) entries) list
  pub each : All (IsSurveyed history) list

-- an entry of the breach's session asks for its guarantee
abbrev pub IsAskedAt : List Entry → Breach → Type 0
IsAskedAt entries breach = Any (λ entry. (entry.session.index ≡ breach.session.index) × (is_asked entry.asks breach.guarantee ≡ true)) entries

-- what is found isn't asked for
abbrev pub IsUnasked : List Entry → Option Breach → Type 0
IsUnasked entries None = Unit {0}
IsUnasked entries (Some breach) = ¬ IsAskedAt entries breach

-- what is found, if it is asked for
abbrev pub IsAsked : List Entry → Option Breach → Option Breach → Type 0
IsAsked entries found None = IsUnasked entries found
IsAsked entries found (Some breach) = (found ≡ Some breach) × IsAskedAt entries breach

-- nothing that was surveyed in the session is asked for
pub record AreUnasked (entries : List Entry) (surveyed : Surveyed) : Type 0 where
  pub ryw : IsUnasked entries surveyed.ryw
  pub mr : IsUnasked entries surveyed.mr
  pub wfr : IsUnasked entries surveyed.wfr
  pub mw : IsUnasked entries surveyed.mw

-- the breach is the first that is asked for
pub data IsTheFirst (entries : List Entry) (surveyed : Surveyed) (breach : Breach) : Type 0 where
  ryw : surveyed.ryw ≡ Some breach → IsTheFirst entries surveyed breach
  mr : surveyed.mr ≡ Some breach → IsUnasked entries surveyed.ryw → IsTheFirst entries surveyed breach
  wfr : surveyed.wfr ≡ Some breach → IsUnasked entries surveyed.ryw → IsUnasked entries surveyed.mr → IsTheFirst entries surveyed breach
  mw : surveyed.mw ≡ Some breach → IsUnasked entries surveyed.ryw → IsUnasked entries surveyed.mr → IsUnasked entries surveyed.wfr → IsTheFirst entries surveyed breach

-- the first breach in the session that is asked for, if there is one
abbrev pub IsFirstAsked : List Entry → Surveyed → Option Breach → Type 0
IsFirstAsked entries surveyed None = AreUnasked entries surveyed
IsFirstAsked entries surveyed (Some breach) = IsTheFirst entries surveyed breach × IsAskedAt entries breach

-- the first breach of the survey that is asked for, if there is one
abbrev pub IsFirstOf : List Entry → List Surveyed → Option Breach → Type 0
IsFirstOf entries list None = All (AreUnasked entries) list
IsFirstOf entries list (Some breach) = (at : ℕ) × (surveyed : Surveyed) × (slice_get list at ≡ Some surveyed) × IsTheFirst entries surveyed breach × IsAskedAt entries breach
    × ((place : ℕ) (other : Surveyed) → place < at → slice_get list place ≡ Some other → AreUnasked entries other)
