-- When a Write may not be added.
use Rattle.std.proofs.Common.{ℕ, List, Err}
use Rattle.bayou_lang.specs.declared.write.Write.{Write}
use Rattle.bayou_log.specs.declared.fitting.Misfit.{Misfit}
use Rattle.bayou_log.specs.declared.fitting.Misfit.TheVariants as misfits
use Rattle.bayou_log.specs.Fitting.{FitAnswer}
use Rattle.bayou_server.specs.Server.{MayFollow}

-- a Write that doesn't fit
pub misfit : (server count : ℕ) (held : List Write) (write : Write) (fault : Misfit) → FitAnswer count held write (Err fault) → MayFollow server count held write → ⊥
misfit server count held write misfits.Gap answer follows = answer follows.fits.0
misfit server count held write misfits.BadStamp answer follows = answer.1 follows.fits.1
