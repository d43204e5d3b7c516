-- What a run over sockets writes.
use Rattle.std.specs.Prelude.{ℕ, List, [], Result, Ok, Err}
use Rattle.bayou_print.specs.declared.fault.RunFault.{RunFault}
use Rattle.bayou_print.specs.Waiting.{Gathers, Stage}
use Rattle.bayou_socket_run.specs.Inner.Faults.{IsPhaseFault}

-- Some text was taken or waits, whole; or there was a fault of a run over a network, and the text's end may be missing.
abbrev pub Tells : {A : Type 0} → Result A RunFault → Stage → Stage → Type 0
Tells (Ok done) old new = (text : List ℕ) × Gathers old new text []
Tells (Err fault) old new = IsPhaseFault fault × (text missing : List ℕ) × Gathers old new text missing
