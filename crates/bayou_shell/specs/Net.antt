-- What is read of a run over sockets, and what is left to be done of it: this project's own.
use Rattle.std.specs.Prelude.{◌≡◌, ℕ, List, Option, Result, Ok, Err, string_bytes}
use Rattle.std.specs.Io.KnownBytes.{Keeps}
use Rattle.bayou_script.specs.Network.{IsNetworkRefused, IsNetworkScript}
use Rattle.bayou_script.specs.Plan.{network_plan_of}
use Rattle.bayou_script.specs.Script.{lines_of}
use Rattle.bayou_print.specs.declared.fault.RunFault.{RunFault}
use Rattle.bayou_print.specs.declared.fault.RunFault.TheVariants.{Line, Memory, Device, Network, Input, Output}
use Rattle.bayou_shell.specs.declared.errand.Errand.{Errand}
use Rattle.bayou_shell.specs.declared.errand.Errand.TheVariants.{Check, Connect, Done, Explain, Export, Import, Key, Net, Renew, Serve, Web}

-- why an input is not taken as a script over sockets: its least line with a fault, or that it, or memory, is wanting
abbrev pub RefusesNet : List ℕ → RunFault → Type 0
RefusesNet input (Line number fault) = IsNetworkRefused (lines_of input) number fault
RefusesNet input Memory = Unit {0}
RefusesNet input Input = Unit {0}
RefusesNet input Device = ⊥
RefusesNet input Network = ⊥
RefusesNet input Output = ⊥

-- The input is a script over sockets, and it is left to be run with its servers' journals in this folder; or it is refused. Nothing is printed yet.
abbrev pub NetsAs : (folder : List ℕ) → List ℕ → Result Errand RunFault → (old new : Option (List ℕ)) → Type 0
NetsAs folder input (Ok (Net at script)) old new = (string_bytes at ≡ folder) × IsNetworkScript (lines_of input) (network_plan_of script) × Keeps old new
NetsAs folder input (Ok (Done status)) old new = ⊥
NetsAs folder input (Ok (Serve service)) old new = ⊥
NetsAs folder input (Ok (Connect call)) old new = ⊥
NetsAs folder input (Ok (Key wish)) old new = ⊥
NetsAs folder input (Ok (Renew renewal)) old new = ⊥
NetsAs folder input (Ok (Export extract)) old new = ⊥
NetsAs folder input (Ok (Import intake)) old new = ⊥
NetsAs folder input (Ok (Web window)) old new = ⊥
NetsAs folder input (Ok (Check checkup)) old new = ⊥
NetsAs folder input (Ok (Explain explaining)) old new = ⊥
NetsAs folder input (Err fault) old new = RefusesNet input fault × Keeps old new
