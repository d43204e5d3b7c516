-- What becomes of a replica as it is given Writes, one after another (anti-entropy, Petersen et al. 1997).
use Rattle.std.specs.Prelude.{◌≡◌, ◌≢◌, List, [], ◌∷◌, ◌++◌, Option, None, Some, Result, Ok, Err, All, Contains}
use Rattle.bayou_lang.specs.declared.write.Write.{Write}
use Rattle.bayou_server.specs.declared.answer.Took.{Took}
use Rattle.bayou_server.specs.declared.answer.Took.TheVariants.{New, Had}
use Rattle.bayou_server.specs.declared.fault.TakeFault.{TakeFault}

-- A Write that is given to what holds these, the answer, and what is held then: one that is new is held after the others, and nothing
-- else changes what is held.
abbrev pub ListsTaken : List Write → Write → Result Took TakeFault → List Write → Type 0
ListsTaken held given (Ok New) after = All (λ write. write.wid ≢ given.wid) held × (after ≡ held ++ given ∷ [])
ListsTaken held given (Ok Had) after = Contains held given × (after ≡ held)
ListsTaken held given (Err fault) after = after ≡ held

-- the same of what may tell nothing
abbrev pub Lists : Option (List Write) → Write → Result Took TakeFault → Option (List Write) → Type 0
Lists None given answer after = Unit {0}
Lists (Some held) given answer None = ⊥
Lists (Some held) given answer (Some after) = ListsTaken held given answer after

-- those of the Writes that were new
abbrev pub new_ones : List Write → List Took → List Write
new_ones [] tooks = []
new_ones (write ∷ writes) [] = []
new_ones (write ∷ writes) (New ∷ tooks) = write ∷ new_ones writes tooks
new_ones (write ∷ writes) (Had ∷ tooks) = new_ones writes tooks

-- how something takes a Write, and what it then holds, where it tells that
abbrev pub TakenBy : {S : Type 0} → (S → Option (List Write)) → (S → Write → Result Took TakeFault → S → Type 0) → S → Write → Result Took TakeFault → S → Type 0
TakenBy list takes old given answer new = takes old given answer new × Lists (list old) given answer (list new)
