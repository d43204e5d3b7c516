-- What a server that lives prints, from its start to an end that was asked for: this project's own.
use Rattle.std.specs.Prelude.{◌≢◌, ℕ, List, ◌++◌}
use Rattle.bayou_node.specs.declared.node_settled.NodeSettled.{NodeSettled}
use Rattle.bayou_print.specs.Living.{held_text, serving_text}
use Rattle.bayou_print.specs.Printed.{settled_text}
use Rattle.bayou_serve.specs.declared.fault.ServeFault.{ServeFault}
use Rattle.bayou_serve.specs.declared.fault.ServeFault.TheVariants.{Memory, Output}
use Rattle.bayou_streams.specs.Account.{Account, TakesBytes}

-- where it listened and what it held then; and at its end what its books came to, and what it holds
abbrev pub lived_text : (server servers : ℕ) → (address counts : List ℕ) → NodeSettled → List ℕ
lived_text server servers address counts settled =
    serving_text server address servers counts ++ (settled_text server settled ++ held_text server servers settled.vector)

-- just these three lines were printed
abbrev pub PrintsLife : (server servers : ℕ) → Account → Account → Type 0
PrintsLife server servers old new = (address counts : List ℕ) × (settled : NodeSettled) × TakesBytes old new (lived_text server servers address counts settled)

-- nobody was served: memory may be wanting, and the output fail, at any time; each other fault comes before the first line
abbrev pub IsBeforeServing : ServeFault → Type 0
IsBeforeServing fault = (fault ≢ Memory) × (fault ≢ Output)
