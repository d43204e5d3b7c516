-- Which faults may come where.
use Rattle.bayou_print.specs.declared.fault.RunFault.{RunFault}
use Rattle.bayou_print.specs.declared.fault.RunFault.TheVariants.{Line, Memory, Device, Network, Input, Output}

-- what may end the start of a server
abbrev pub IsStartFault : RunFault → Type 0
IsStartFault (Line number fault) = ⊥
IsStartFault Memory = Unit {0}
IsStartFault Device = Unit {0}
IsStartFault Network = ⊥
IsStartFault Input = ⊥
IsStartFault Output = ⊥

-- what may end a run over a network whose servers were started
abbrev pub IsPhaseFault : RunFault → Type 0
IsPhaseFault (Line number fault) = ⊥
IsPhaseFault Memory = Unit {0}
IsPhaseFault Device = ⊥
IsPhaseFault Network = Unit {0}
IsPhaseFault Input = ⊥
IsPhaseFault Output = Unit {0}
