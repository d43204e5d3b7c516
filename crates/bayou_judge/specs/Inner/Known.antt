-- What is known of sessions while the entries are gone through: inner words.
use Rattle.std.specs.Prelude.{◌≡◌, ◌≢◌, ℕ, List, Option, Some, None, All, Any, take}
use Rattle.bayou_base.specs.declared.entry.Entry.{Entry}
use Rattle.bayou_lang.specs.declared.write.Write.{Write}
use Rattle.bayou_judge.specs.declared.breach.Breach.{Breach}
use Rattle.bayou_judge.specs.declared.breach.Guarantee.{Guarantee}
use Rattle.bayou_judge.specs.declared.breach.Guarantee.TheVariants as guarantees
use Rattle.bayou_judge.specs.declared.needs.Need.{Need}
use Rattle.bayou_judge.specs.declared.needs.Needs.{Needs}
use Rattle.bayou_judge.specs.declared.passes.Progress.{Progress}
use Rattle.bayou_judge.specs.declared.verdict.Surveyed.{Surveyed}
use Rattle.bayou_judge.specs.Inner.Needs.{IsFirstBreach, IsNeedOf}

-- of what was read and what was written, that of which the guarantee speaks as the earlier
abbrev pub need_for : Needs → Guarantee → Need
need_for needs guarantees.ReadYourWrites = needs.wrote
need_for needs guarantees.MonotonicReads = needs.read
need_for needs guarantees.WritesFollowReads = needs.read
need_for needs guarantees.MonotonicWrites = needs.wrote

-- what was surveyed of a guarantee
abbrev pub found_of : Surveyed → Guarantee → Option Breach
found_of surveyed guarantees.ReadYourWrites = surveyed.ryw
found_of surveyed guarantees.MonotonicReads = surveyed.mr
found_of surveyed guarantees.WritesFollowReads = surveyed.wfr
found_of surveyed guarantees.MonotonicWrites = surveyed.mw

-- of each guarantee what is needed, and the first breach, by the session's entries before this place
pub record IsProgress (dumps : List (List Write)) (entries : List Entry) (session upto : ℕ) (progress : Progress) : Type 0 where
  pub session_is : progress.surveyed.session.index ≡ session
  pub needs : (guarantee : Guarantee) → IsNeedOf dumps guarantee session (take upto entries) (need_for progress.needs guarantee)
  pub found : (guarantee : Guarantee) → IsFirstBreach dumps entries guarantee session upto (found_of progress.surveyed guarantee)

-- the session's progress by its entries before this place, or none where it has none there
abbrev pub IsKnown : List (List Write) → List Entry → (session upto : ℕ) → Option Progress → Type 0
IsKnown dumps entries session upto None = All (λ entry. entry.session.index ≢ session) (take upto entries)
IsKnown dumps entries session upto (Some progress) = Any (λ entry. entry.session.index ≡ session) entries × IsProgress dumps entries session upto progress
