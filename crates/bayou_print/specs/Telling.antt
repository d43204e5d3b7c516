-- How a fault is reported.
use Rattle.std.specs.Prelude.{◌≡◌, ◌⊎◌, ℕ, Bool, List, Result, Ok, Err}
use Rattle.bayou_print.specs.declared.fault.RunFault.{RunFault}
use Rattle.bayou_print.specs.Fault.{IsFaultLine}
use Rattle.bayou_print.specs.Turns.{HasEnded}
use Rattle.bayou_streams.specs.Account.{Account, TakesBytes, TakesFront}

-- The text was put after what the output took; or a front of it, and a call of the output failed, or there was no turn left.
abbrev pub IsPut : (text : List ℕ) → (old new : Account) → (has_failed : Bool) → Type 0
IsPut text old new has_failed = TakesBytes old new text ⊎ (TakesFront old new text × HasEnded has_failed new.turns_left)

-- the line of a fault was put there
abbrev pub TellsFault : (old new : Account) → (has_failed : Bool) → Type 0
TellsFault old new has_failed = (line : List ℕ) × IsFaultLine line × IsPut line old new has_failed

-- What is reported of how a task ended: the line of its fault, or nothing where it had none.
abbrev pub TellsEnd : {A : Type 0} → Result A RunFault → (old new : Account) → (has_failed : Bool) → Type 0
TellsEnd (Ok done) old new has_failed = new ≡ old
TellsEnd (Err fault) old new has_failed = TellsFault old new has_failed
