-- What a person learns of their own Writes: this project's own. `tentative` is a word of Terry et al. 1995.
use Rattle.std.specs.Prelude.{◌≡◌, ◌≢◌, ◌+◌, ◌++◌, ℕ, Bool, true, false, List, Option, None, Some, drop, slice_set, take}
use Rattle.bayou_final.specs.declared.standing.Standing.{Standing}
use Rattle.bayou_final.specs.declared.standing.Standing.TheVariants.{Tentative, Final, Changed}
use Rattle.bayou_outlook.specs.declared.outlook.OwnWrite.{OwnWrite}
use Rattle.bayou_wire.specs.declared.lookup.Became.{Became}

-- What is news of a Write that became this, by what was reported of it last. What is final is news whatever that was; else it is news where nothing was
-- reported yet, and where it became something else.
abbrev pub IsNews : (is_final : Bool) → (before : Option Became) → (now : Became) → Option Standing → Type 0
IsNews true before now news = news ≡ Some Final
IsNews false None now news = news ≡ Some Tentative
IsNews false (Some before) now None = before ≡ now
IsNews false (Some before) now (Some standing) = (standing ≡ Changed) × (before ≢ now)

-- What is kept of own Writes after one of them became this, and that is reported: one that is final is kept no longer, and another with what it became.
abbrev pub IsKeptAs : (old : List OwnWrite) → (place : ℕ) → OwnWrite → Became → Option Standing → (new : List OwnWrite) → Type 0
IsKeptAs old place write now (Some Final) new = new ≡ take place old ++ drop (place + 1) old
IsKeptAs old place write now (Some Tentative) new = new ≡ slice_set old place (record write { told = Some now })
IsKeptAs old place write now (Some Changed) new = new ≡ slice_set old place (record write { told = Some now })
IsKeptAs old place write now None new = new ≡ slice_set old place (record write { told = Some now })
