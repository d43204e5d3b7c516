-- what is gone from the rest was written, no call failed, and behind a whole line there are as many turns as before
use Rattle.std.proofs.Common.{◌≡◌, ◌≤◌, ◌+◌, ◌*◌, ℕ, List, [], true, ◌++◌, length}
use Rattle.std.specs.Io.{IsEmptyOrEndsWith}
use Rattle.bayou_base.specs.declared.limits.TheConstants.{MAX_TURNS}
use Rattle.bayou_streams.specs.Account.{TakesBytes, account}
use Rattle.bayou_streams.proofs.output.Output.write_lines.Given as goal

abbrev pub invariant-loop-rest : goal.invariant-loop-rest
invariant-loop-rest g l =
    (front : List ℕ) × (l.initial.rest ≡ front ++ l.rest)
    × TakesBytes (account g.W.Write.contents l.initial.self) (account g.W.Write.contents l.self) front
    × (l.self.channel.write_failed ≡ true → l.initial.self.channel.write_failed ≡ true)
    × (l.rest ≡ [] → IsEmptyOrEndsWith l.initial.rest 10 → l.initial.self.channel.turns_left ≤ l.self.channel.turns_left)

abbrev pub decreases-loop-rest : goal.decreases-loop-rest
decreases-loop-rest g l = length l.rest * (MAX_TURNS + 1) + l.self.channel.turns_left
