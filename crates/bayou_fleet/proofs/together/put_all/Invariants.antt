-- those so far stand behind the others
use Rattle.std.proofs.Common.{◌≡◌, ◌++◌}
use Rattle.bayou_fleet.proofs.together.put_all.Given as goal

abbrev pub invariant-loop-answer : goal.invariant-loop-answer
invariant-loop-answer l = l.answers.items ++ l.answer-iterator.rest.items ≡ l.fn.answers.items ++ l.fn.own.items
