use Rattle.bayou_serve.proofs.plan.left_out_in.Goals as goal

pub returns-in_default-clause-none : goal.returns-in_default-clause-none
returns-in_default-clause-none c = λ left says _. c.in_default.ensures.none left says
