-- each operation so far has its answer, and there is room for the others
use Rattle.std.proofs.Common.{◌≡◌, ◌+◌, ◌≤◌, ◌++◌, List, length, vec_capacity, vec_len}
use Rattle.std.specs.List.{AllZip}
use Rattle.bayou_fleet.specs.Operating.{IsAnswerTo}
use Rattle.bayou_text.specs.declared.command.Operation.{Operation}
use Rattle.bayou_fleet.proofs.run_session.OpenSession.operate_all.Given as goal

abbrev pub invariant-loop-operation : goal.invariant-loop-operation
invariant-loop-operation g l = record {
  all : vec_len l.answers + length l.operation-iterator.rest.items ≡ vec_len l.fn.operations;
  room : vec_len l.fn.operations ≤ vec_capacity l.answers;
  who : l.self.who ≡ l.fn.self.who;
  told : (front : List Operation) × (l.fn.operations.items ≡ front ++ l.operation-iterator.rest.items) × AllZip (IsAnswerTo l.fn.self.who) front l.answers.items;
}
