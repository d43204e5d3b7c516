-- Lines that wait to be written.
use Rattle.std.specs.Prelude.{◌≡◌, ℕ, List, ◌++◌, Option}
use Rattle.bayou_streams.specs.declared.output.Output.{Output}
use Rattle.bayou_print.specs.declared.waiting.Waiting.{Waiting}
use Rattle.bayou_streams.specs.Account.{Account, TakesBytes, account}

-- an output, and what waits to be written to it
pub record Stage : Type 0 where
  pub output : Account
  pub waiting : List ℕ

abbrev pub stage : {W : Type 0} → (W → Option (List ℕ)) → Output W → Waiting → Stage
stage contents output waiting = record { output = account contents output; waiting = waiting.lines.items }

-- The text, but for a missing part at its end, is what was taken or waits, after what waited before. Where writing failed, the missing
-- part may begin before the text.
pub record Gathers (old new : Stage) (text missing : List ℕ) : Type 0 where
  pub taken : List ℕ
  pub split : old.waiting ++ text ≡ taken ++ (new.waiting ++ missing)
  pub took : TakesBytes old.output new.output taken
