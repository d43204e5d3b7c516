-- Whether a Write may follow those that a log holds.
use Rattle.std.specs.Prelude.{ℕ, List, Result, Ok, Err}
use Rattle.bayou_lang.specs.declared.write.Write.{Write}
use Rattle.bayou_lang.specs.Writes.{Fits, HasNoGap, IsWellStamped}
use Rattle.bayou_log.specs.declared.fitting.Misfit.{Misfit}
use Rattle.bayou_log.specs.declared.fitting.Misfit.TheVariants as misfits

-- what a log says of a Write: that it fits; or that there is a gap before it; or, where there is none, that its stamp is wrong
abbrev pub FitAnswer : ℕ → List Write → Write → Result (Unit {0}) Misfit → Type 0
FitAnswer count held write (Ok _) = Fits count held write
FitAnswer count held write (Err misfits.Gap) = ¬ HasNoGap count held write
FitAnswer count held write (Err misfits.BadStamp) = HasNoGap count held write × (¬ IsWellStamped held write)
