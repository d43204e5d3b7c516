-- Which faults may come where.
use Rattle.std.specs.Prelude.{ℕ, List, Option, IfSome}
use Rattle.bayou_script.specs.Order.{IsRefusedBy, Order, lines_of}
use Rattle.bayou_print.specs.declared.fault.RunFault.{RunFault}
use Rattle.bayou_print.specs.declared.fault.RunFault.TheVariants.{Line, Memory, Device, Network, Input, Output}

-- what may end the reading of an input of such lines, whose bytes may be known
abbrev pub IsReadFault : Order → Option (List ℕ) → RunFault → Type 0
IsReadFault order known (Line number fault) = IfSome known (λ text. IsRefusedBy order (lines_of text) number fault)
IsReadFault order known Memory = Unit {0}
IsReadFault order known Device = ⊥
IsReadFault order known Network = ⊥
IsReadFault order known Input = Unit {0}
IsReadFault order known Output = ⊥
