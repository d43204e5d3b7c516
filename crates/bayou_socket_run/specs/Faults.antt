-- Which faults may end a run over sockets.
use Rattle.std.specs.Prelude.{◌≡◌, Result, Err}
use Rattle.bayou_fleet.specs.declared.fault.FleetFault.{FleetFault}
use Rattle.bayou_fleet.specs.declared.fault.FleetFault.TheVariants as fleet
use Rattle.bayou_print.specs.declared.fault.RunFault.{RunFault}
use Rattle.bayou_print.specs.declared.fault.RunFault.TheVariants.{Line, Memory, Device, Network, Input, Output}
use Rattle.bayou_streams.specs.Account.{Account}

-- what a run whose servers can't go on is reported to end with
abbrev pub fault_of_fleet : FleetFault → RunFault
fault_of_fleet fleet.Memory = Memory
fault_of_fleet fleet.Network = Network

-- what may end a run over a network of a script that was accepted
abbrev pub IsNetFault : RunFault → Type 0
IsNetFault (Line number fault) = ⊥
IsNetFault Memory = Unit {0}
IsNetFault Device = Unit {0}
IsNetFault Network = Unit {0}
IsNetFault Input = ⊥
IsNetFault Output = Unit {0}

-- where the device of a server was at fault as it was started, the output is as it was
abbrev pub KeepsUnstarted : {A : Type 0} → Result A RunFault → Account → Account → Type 0
KeepsUnstarted (Err Device) old new = new ≡ old
KeepsUnstarted other old new = Unit {0}
