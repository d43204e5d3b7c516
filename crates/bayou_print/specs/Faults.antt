-- Which faults may come as lines are written.
use Rattle.bayou_print.specs.declared.fault.RunFault.{RunFault}
use Rattle.bayou_print.specs.declared.fault.RunFault.TheVariants.{Line, Memory, Device, Network, Input, Output}

-- what may end a run of a script that was accepted
abbrev pub IsRunFault : RunFault → Type 0
IsRunFault (Line number fault) = ⊥
IsRunFault Memory = Unit {0}
IsRunFault Device = ⊥
IsRunFault Network = ⊥
IsRunFault Input = ⊥
IsRunFault Output = Unit {0}
