-- Scripts over sockets.
use Rattle.std.proofs.Common.{ℕ, Bool, List, Option, None, Some, IfSome, IfErr, Result, Ok, Err}
use Rattle.std.proofs.KnownBytes.{Keeps-refl}
use Rattle.bayou_script.specs.Network.{network_order}
use Rattle.bayou_print.specs.declared.fault.RunFault.{RunFault}
use Rattle.bayou_print.specs.declared.fault.RunFault.TheVariants.{Line, Memory, Device, Network, Input, Output}
use Rattle.bayou_print.specs.Turns.{EndsWriting}
use Rattle.bayou_shell.specs.declared.errand.Errand.{Errand}
use Rattle.bayou_tasks.specs.Faults.{IsReadFault}
use Rattle.bayou_shell.specs.Net.{NetsAs}

-- where the input isn't taken as a script over sockets, nothing is left to be done
pub nets_unread : (folder : List ℕ) (known contents : Option (List ℕ)) (fault : RunFault) → IsReadFault network_order known fault
    → IfSome known (λ input. NetsAs folder input (Err fault) contents contents)
nets_unread folder None contents fault is = tt
nets_unread folder (Some input) contents (Line number why) refused = (refused, Keeps-refl contents)
nets_unread folder (Some input) contents Memory is = (tt, Keeps-refl contents)
nets_unread folder (Some input) contents Device is = absurd is
nets_unread folder (Some input) contents Network is = absurd is
nets_unread folder (Some input) contents Input is = (tt, Keeps-refl contents)
nets_unread folder (Some input) contents Output is = absurd is

pub nets_without_memory : (folder : List ℕ) (known contents : Option (List ℕ)) → IfSome known (λ input. NetsAs folder input (Err Memory) contents contents)
nets_without_memory folder None contents = tt
nets_without_memory folder (Some input) contents = (tt, Keeps-refl contents)

-- what holds of the bytes that are known follows from what does
pub if_some : (known : Option (List ℕ)) (P Q : List ℕ → Type 0) → IfSome known P → ((text : List ℕ) → P text → Q text) → IfSome known Q
if_some None P Q holds follows = tt
if_some (Some text) P Q holds follows = follows text holds

-- no output is at fault where an input is read
pub nothing_written : (failed : Bool) (turns : ℕ) (known : Option (List ℕ)) (came : Result Errand RunFault) → IfErr came (IsReadFault network_order known) → IfErr came (EndsWriting failed turns)
nothing_written failed turns known (Ok errand) is = tt
nothing_written failed turns known (Err (Line number why)) is = tt
nothing_written failed turns known (Err Memory) is = tt
nothing_written failed turns known (Err Device) is = tt
nothing_written failed turns known (Err Network) is = tt
nothing_written failed turns known (Err Input) is = tt
nothing_written failed turns known (Err Output) is = absurd is
