-- How the turns of a stream end a run: this project's own.
use Rattle.std.specs.Prelude.{◌≡◌, ℕ, Bool, true, Result, Ok, Err, ◌⊎◌}
use Rattle.bayou_print.specs.declared.fault.RunFault.{RunFault}
use Rattle.bayou_print.specs.declared.fault.RunFault.TheVariants.{Line, Memory, Device, Network, Input, Output}

-- a call failed, or there is no turn left
abbrev pub HasEnded : Bool → ℕ → Type 0
HasEnded has_failed turns_left = (has_failed ≡ true) ⊎ (turns_left ≡ 0)

-- the fault of an input is reported only where reading has ended so
abbrev pub EndsReading : Bool → ℕ → RunFault → Type 0
EndsReading has_failed turns_left (Line number fault) = Unit {0}
EndsReading has_failed turns_left Memory = Unit {0}
EndsReading has_failed turns_left Device = Unit {0}
EndsReading has_failed turns_left Network = Unit {0}
EndsReading has_failed turns_left Input = HasEnded has_failed turns_left
EndsReading has_failed turns_left Output = Unit {0}

-- the fault of an output is reported only where writing has ended so
abbrev pub EndsWriting : Bool → ℕ → RunFault → Type 0
EndsWriting has_failed turns_left (Line number fault) = Unit {0}
EndsWriting has_failed turns_left Memory = Unit {0}
EndsWriting has_failed turns_left Device = Unit {0}
EndsWriting has_failed turns_left Network = Unit {0}
EndsWriting has_failed turns_left Input = Unit {0}
EndsWriting has_failed turns_left Output = HasEnded has_failed turns_left

-- how many lines a run may cut short: none where it ends well, else the last one
abbrev pub cut_lines : {A : Type 0} → Result A RunFault → ℕ
cut_lines (Ok done) = 0
cut_lines (Err fault) = 1
