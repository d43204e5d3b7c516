-- an answer for each pull so far, and room for the others
use Rattle.std.proofs.Common.{◌≡◌, ◌+◌, ◌≤◌, All, length, vec_capacity, vec_len}
use Rattle.bayou_answers.specs.declared.answer.Answer.TheVariants.{Exchanged}
use Rattle.bayou_answers.specs.declared.answer.Transfer.{Transfer}
use Rattle.bayou_fleet.proofs.pulls.pull_each.Given as goal

abbrev pub invariant-loop-pull : goal.invariant-loop-pull
invariant-loop-pull g l = record {
  all : vec_len l.answers + length l.pull-iterator.rest.items ≡ vec_len l.fn.pulls;
  room : vec_len l.fn.pulls ≤ vec_capacity l.answers;
  told : All (λ answer. (transfer : Transfer) × (answer ≡ Exchanged transfer)) l.answers.items;
}
