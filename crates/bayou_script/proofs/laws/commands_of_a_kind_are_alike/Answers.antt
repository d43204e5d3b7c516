use Rattle.bayou_script.specs.Laws.Kinds.{exchange_is, operation_is, question_is, trial_is}
use Rattle.bayou_script.proofs.laws.commands_of_a_kind_are_alike.Goals as goal

pub returns : goal.returns
returns c = record { operations = operation_is; trials = trial_is; exchanges = exchange_is; questions = question_is }
