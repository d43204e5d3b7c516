use Rattle.std.proofs.Common.{arith, ◌∙◌, ap}
use Rattle.bayou_base.specs.declared.session.SessionId.{SessionId}
use Rattle.bayou_session.specs.Needs.{Told}
use Rattle.bayou_remember.proofs.Remembering.{keeps_nothing, one_body_more}
use Rattle.bayou_remember.proofs.memory.kept_in.Goals as goal

pub returns-in-Ok-None-clause-refused : goal.returns-in-Ok-None-clause-refused
returns-in-Ok-None-clause-refused c =
    keeps_nothing c.args.opened.now.bodies c.loop-at.at c.body.result.now (omega (arith, c.len-at-end.ensures)) c.body.ensures (rw c.in-Ok-None.field-0-is at c.in-Ok-None.ensures.told)

pub loop-at-preserved : goal.loop-at-preserved
loop-at-preserved c =
    one_body_more c.args.run c.args.opened.now.bodies c.loop-at.at c.body.result.now c.in-Ok-Some.kept c.loop-at.all.items c.from.result (omega (arith, c.len-at-end.ensures)) c.body.ensures
    c.loop-at.invariant (rw c.in-Ok-Some.field-0-is at c.in-Ok-Some.ensures.told) (rw c.in-Ok-Some.field-0-is at c.in-Ok-Some.ensures.again)
    (c.from.ensures ∙ ap (λ (s : SessionId). s.index) c.id-session.ensures ∙ ap (λ (t : Told). t.id.index) c.session.ensures)
