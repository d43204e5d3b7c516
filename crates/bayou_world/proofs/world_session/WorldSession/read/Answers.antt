use Rattle.std.proofs.Common.{None, subst}
use Rattle.bayou_session.specs.Needs.{one_place_more}
use Rattle.bayou_world.specs.Inner.WorldSessions.{Begins, seen_as}
use Rattle.bayou_world.proofs.world_session.WorldSession.read.Goals as goal

pub returns-clause-begun : goal.returns-clause-begun
returns-clause-begun c =
    subst (λ n. Begins c.args.self.now (one_place_more c.args.self.now.session) None n (seen_as c.args.key.now c.read-answer.result) None c.answered.new.self) c.id.ensures.value
    (subst (λ what. Begins c.args.self.now (one_place_more c.args.self.now.session) None c.id.result.index what None c.answered.new.self) c.what_seen-what.ensures
    (subst (λ session. Begins c.args.self.now session None c.id.result.index c.what_seen-what.result None c.answered.new.self) c.begin.ensures.begun c.answered.ensures))
