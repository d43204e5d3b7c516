use Rattle.std.proofs.Common.{◌∙◌, Ok, ap}
use Rattle.bayou_serve.specs.declared.restoring.Gathering.TheVariants.{Answered}
use Rattle.bayou_serve.proofs.restoring.answer_of.Goals as goal

pub returns-in-Answered-Ok-clause-count : goal.returns-in-Answered-Ok-clause-count
returns-in-Answered-Ok-clause-count g c = c.gather_from.ensures (Ok c.in-Answered-Ok.gathered) (c.in-Answered-Ok.is ∙ ap Answered c.in-Answered-Ok.field-0-is)
