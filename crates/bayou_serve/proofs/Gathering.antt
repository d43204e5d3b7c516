-- What is gathered from a peer is among as many servers as it was begun for; and what a restoring that failed is told as.
use Rattle.std.proofs.Common.{◌≡◌, ◌∙◌, List, [], ◌∷◌, ap}
use Rattle.bayou_lang.specs.declared.write.Write.{Write}
use Rattle.bayou_restore.specs.Gathering.{Gathering, Gathers}
use Rattle.bayou_restore.specs.declared.fault.RestoreFault.{RestoreFault}
use Rattle.bayou_restore.specs.declared.fault.RestoreFault.TheVariants.{NotEmpty, Misfit, LogFull, Device, OutOfMemory}
use Rattle.bayou_serve.specs.Faults.{MayEndRestoring, unrestored_as}
use Rattle.bayou_server.specs.TakesAll.{TakesEach}
use Rattle.bayou_server.specs.declared.answer.Took.{Took}
use Rattle.bayou_server.specs.declared.answer.Took.TheVariants.{New, Had}

pub same_count : (old new : Gathering) (writes : List Write) (tooks : List Took) → TakesEach Gathers old writes tooks new → new.count ≡ old.count
same_count old new [] [] same = ap (λ (g : Gathering). g.count) same
same_count old new [] (took ∷ tooks) none = absurd none
same_count old new (write ∷ writes) [] none = absurd none
same_count old new (write ∷ writes) (New ∷ tooks) each = same_count each.0 new writes tooks each.2 ∙ ap (λ (g : Gathering). g.count) each.1.2
same_count old new (write ∷ writes) (Had ∷ tooks) each = same_count each.0 new writes tooks each.2 ∙ ap (λ (g : Gathering). g.count) each.1.1

pub may_end : (refusal : RestoreFault) → MayEndRestoring (unrestored_as refusal)
may_end NotEmpty = tt
may_end (Misfit number) = tt
may_end LogFull = tt
may_end Device = tt
may_end OutOfMemory = tt
