use Rattle.bayou_errands.proofs.exported.run_exported.Goals as goal

pub returns-in-Ok-found-clause-made : goal.returns-in-Ok-found-clause-made
returns-in-Ok-found-clause-made g c = λ zero. (c.in-Ok-found.export, c.print_found.ensures.made zero)
