-- an empty list for each session so far
use Rattle.std.proofs.Common.{◌≡◌, ◌<◌, ℕ, [], length}
use Rattle.std.specs.Global.{Vec}
use Rattle.std.specs.Prelude.{slice_index_or}
use Rattle.bayou_text.specs.declared.command.Operation.{Operation}
use Rattle.bayou_fleet.proofs.phase.Phase.new.Given as goal

abbrev pub invariant-loop : goal.invariant-loop
invariant-loop l = record {
  number : length l.operations.items ≡ l.counter;
  empty : (number : ℕ) (none : Vec Operation) → number < l.counter → (slice_index_or l.operations.items number none).items ≡ [];
}
