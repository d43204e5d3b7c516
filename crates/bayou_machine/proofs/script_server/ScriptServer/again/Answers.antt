use Rattle.std.proofs.Common.{Bool, Option, IfSome, ap, arith, inl, refl, subst}
use Rattle.bayou_session.specs.Needs.{Told}
use Rattle.bayou_machine.specs.Inner.Tagged.{AnswersTag}
use Rattle.bayou_machine.specs.ScriptServer.{IsWrittenAgain, no_place}
use Rattle.bayou_machine.specs.Seats.{Asked, Seat}
use Rattle.bayou_machine.proofs.Tagged.{again_at_place, any_asked, each_asked}
use Rattle.bayou_machine.proofs.script_server.ScriptServer.again.Goals as goal

pub returns-then-left-eq0 : goal.returns-then-left-eq0
returns-then-left-eq0 c =
    any_asked c.args.seat.now.asked _ (λ asked. inl (no_place (omega (arith, c.left.ensures, ap (λ (t : Told). t.begun) c.session.ensures)) refl refl, refl))

pub returns : goal.returns
returns c =
    let seat = c.args.seat.now in
    let answered =
    subst (λ (a : Option Asked). IfSome a (λ asked. AnswersTag c.args.who c.again-tag.result c.drops-drops.result asked.program c.args.self.now c.again-tag.new.self c.reply.result c.reply.new.self c.reply.new.seat))
    (ap (λ (s : Seat). s.asked) c.again-tag.ensures.begun) c.reply.ensures in
    each_asked seat.asked _ (λ asked. IsWrittenAgain c.args.who asked.program c.args.self.now seat c.reply.result c.reply.new.self c.reply.new.seat)
    (λ asked replied. again_at_place c.args.who c.again-tag.result asked.program c.args.self.now c.reply.new.self seat c.again-tag.new.self c.reply.new.seat c.reply.result seat.told.asked
    (omega (arith, c.left.ensures, ap (λ (t : Told). t.begun) c.session.ensures)) refl c.again-tag.ensures.known c.again-tag.ensures.tag c.again-tag.ensures.begun
    (subst (λ (drops : Bool). AnswersTag c.args.who c.again-tag.result drops asked.program c.args.self.now c.again-tag.new.self c.reply.result c.reply.new.self c.reply.new.seat) c.drops-drops.ensures replied))
    answered
