-- What a judge answers, and exactly where.
use Rattle.std.specs.Prelude.{◌≡◌, ℕ, ◌<◌, true, false, List, Option, Some, None, Result, Ok, Err, All, AllPairs, Any, length, slice_get}
use Rattle.std.specs.Global.{Vec}
use Rattle.bayou_base.specs.declared.entry.Entry.{Entry}
use Rattle.bayou_lang.specs.declared.write.Write.{Write}
use Rattle.bayou_judge.specs.declared.breach.Guarantee.{Guarantee}
use Rattle.bayou_judge.specs.declared.breach.Guarantee.TheVariants as guarantees
use Rattle.bayou_base.specs.declared.limits.TheConstants.{SESSIONS}
use Rattle.bayou_judge.specs.declared.breach.Breach.{Breach}
use Rattle.bayou_judge.specs.declared.every.SessionBreaches.{SessionBreaches}
use Rattle.bayou_judge.specs.declared.verdict.BadEvidence.{BadEvidence}
use Rattle.bayou_judge.specs.declared.verdict.BadEvidence.TheVariants.{BadDump, Forged}
use Rattle.bayou_judge.specs.declared.verdict.Surveyed.{Surveyed}
use Rattle.bayou_judge.specs.declared.verdict.Verdict.{Verdict}
use Rattle.bayou_judge.specs.declared.verdict.Verdict.TheVariants.{Clean, Broken}
use Rattle.bayou_judge.specs.History.{History, history_of}
use Rattle.bayou_judge.specs.Guarantees.{Keeps}
use Rattle.bayou_judge.specs.Breaches.{is_asked, is_less, key_of, Holds, IsBreach, IsLeastOf}
use Rattle.bayou_judge.specs.Evidence.{AreGenuine, AreGood, IsFirstBad, IsFirstForged}

-- entries and dumps stand for a history
pub record IsEvidence (count : ℕ) (entries : List Entry) (dumps : List (List Write)) : Type 0 where
  pub dumps_are : AreGood count dumps
  pub entries_are : AreGenuine count dumps entries

-- each session has what it asks for
abbrev pub AreKept : History → List Entry → Type 0
AreKept history entries = All (λ entry. Keeps history entry.asks entry.session.index) entries

-- its session asks for the guarantee
abbrev pub IsAskedFor : List Entry → Breach → Type 0
IsAskedFor entries breach = Any (λ entry. (entry.session ≡ breach.session) × (is_asked entry.asks breach.guarantee ≡ true)) entries

-- the least breach of what is asked for
pub record IsLeastBreach (history : History) (entries : List Entry) (breach : Breach) : Type 0 where
  pub is : IsBreach history breach
  pub asked : IsAskedFor entries breach
  pub least : (other : Breach) → IsBreach history other → IsAskedFor entries other → is_less (key_of other) (key_of breach) ≡ false

-- why they stand for none: a bad dump is reported before a forged entry
abbrev pub Refuses : ℕ → List Entry → List (List Write) → BadEvidence → Type 0
Refuses count entries dumps (BadDump server at) = IsFirstBad count dumps server.index at
Refuses count entries dumps (Forged at) = AreGood count dumps × IsFirstForged count dumps entries at

-- the verdict on entries and dumps of so many servers
abbrev pub Judges : ℕ → List Entry → List (List Write) → Result Verdict BadEvidence → Type 0
Judges count entries dumps (Ok Clean) = IsEvidence count entries dumps × AreKept (history_of entries dumps) entries
Judges count entries dumps (Ok (Broken breach)) = IsEvidence count entries dumps × IsLeastBreach (history_of entries dumps) entries breach
Judges count entries dumps (Err bad) = Refuses count entries dumps bad

-- a breach that is the least of the guarantee in the session, or none where the guarantee holds
abbrev pub Surveys : History → Guarantee → ℕ → Option Breach → Type 0
Surveys history guarantee session None = Holds history guarantee session
Surveys history guarantee session (Some breach) = IsLeastOf history guarantee session breach

-- each guarantee in the session, asked for or not
pub record IsSurveyed (history : History) (surveyed : Surveyed) : Type 0 where
  pub ryw : Surveys history guarantees.ReadYourWrites surveyed.session.index surveyed.ryw
  pub mr : Surveys history guarantees.MonotonicReads surveyed.session.index surveyed.mr
  pub wfr : Surveys history guarantees.WritesFollowReads surveyed.session.index surveyed.wfr
  pub mw : Surveys history guarantees.MonotonicWrites surveyed.session.index surveyed.mw

-- just the sessions that have an entry, in order of their numbers
pub record IsSurvey (history : History) (entries : List Entry) (list : List Surveyed) : Type 0 where
  pub in_order : AllPairs (λ a b. a.session.index < b.session.index) list
  pub every : All (λ entry. Any (λ surveyed. surveyed.session ≡ entry.session) list) entries
  pub only : All (λ surveyed. Any (λ entry. entry.session ≡ surveyed.session) entries) list
  pub each : All (IsSurveyed history) list

-- the survey of entries and dumps of so many servers
abbrev pub SurveyAnswer : ℕ → List Entry → List (List Write) → Result (Vec Surveyed) BadEvidence → Type 0
SurveyAnswer count entries dumps (Ok list) = IsEvidence count entries dumps × IsSurvey (history_of entries dumps) entries list.items
SurveyAnswer count entries dumps (Err bad) = Refuses count entries dumps bad

-- a breach of the guarantee in the session, and of its later operation the least
pub record IsLeastThere (history : History) (guarantee : Guarantee) (session : ℕ) (breach : Breach) : Type 0 where
  pub guarantee_is : breach.guarantee ≡ guarantee
  pub session_is : breach.session.index ≡ session
  pub is : IsBreach history breach
  pub least : (other : Breach) → other.guarantee ≡ guarantee → other.session.index ≡ session → other.second ≡ breach.second → IsBreach history other
      → is_less (key_of other) (key_of breach) ≡ false

-- just the operations of the session that break the guarantee, in their order, each with its least breach
pub record AreBreachesOf (history : History) (guarantee : Guarantee) (session : ℕ) (list : List Breach) : Type 0 where
  pub each : All (IsLeastThere history guarantee session) list
  pub every : (other : Breach) → other.guarantee ≡ guarantee → other.session.index ≡ session → IsBreach history other → Any (λ breach. breach.second ≡ other.second) list
  pub in_order : AllPairs (λ a b. a.second < b.second) list

-- so of each guarantee in the session
pub record AreBreaches (history : History) (found : SessionBreaches) : Type 0 where
  pub ryw : AreBreachesOf history guarantees.ReadYourWrites found.session.index found.ryw.items
  pub mr : AreBreachesOf history guarantees.MonotonicReads found.session.index found.mr.items
  pub wfr : AreBreachesOf history guarantees.WritesFollowReads found.session.index found.wfr.items
  pub mw : AreBreachesOf history guarantees.MonotonicWrites found.session.index found.mw.items

-- and in each session, in order of their numbers
pub record AreAllBreaches (history : History) (list : List SessionBreaches) : Type 0 where
  pub sized : length list ≡ SESSIONS
  pub each : (session : ℕ) (found : SessionBreaches) → slice_get list session ≡ Some found → (found.session.index ≡ session) × AreBreaches history found

-- every breach that entries and dumps of so many servers show
abbrev pub BreachesAnswer : ℕ → List Entry → List (List Write) → Result (Vec SessionBreaches) BadEvidence → Type 0
BreachesAnswer count entries dumps (Ok list) = IsEvidence count entries dumps × AreAllBreaches (history_of entries dumps) list.items
BreachesAnswer count entries dumps (Err bad) = Refuses count entries dumps bad
