use Rattle.bayou_server.proofs.server.Server.take.Goals as goal

pub returns-clause-safe : goal.returns-clause-safe
returns-clause-safe g c = rw (← c.self.view_is) c.take_one-answer.ensures.takes.safe
