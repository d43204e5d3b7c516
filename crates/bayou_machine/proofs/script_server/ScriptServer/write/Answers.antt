use Rattle.std.proofs.Common.{◌+◌, Bool, Option, IfSome, ap, arith, refl, subst}
use Rattle.bayou_session.specs.Needs.{Told}
use Rattle.bayou_machine.specs.Inner.Tagged.{AnswersTag}
use Rattle.bayou_machine.specs.Seats.{Asked, Seat, asks_at}
use Rattle.bayou_machine.proofs.Tagged.{at_place}
use Rattle.bayou_machine.proofs.script_server.ScriptServer.write.Goals as goal

pub returns : goal.returns
returns c =
    let seat = c.args.seat.now in
    let answered =
    subst (λ (a : Option Asked). IfSome a (λ asked. AnswersTag c.args.who c.ask-tag.result c.drops-drops.result asked.program c.args.self.now c.ask-tag.new.self c.reply.result c.reply.new.self c.reply.new.seat))
    (ap (λ (s : Seat). s.asked) c.ask-tag.ensures.begun) c.reply.ensures in
    at_place c.args.who (seat.told.begun + 1) c.ask-tag.result c.args.program (asks_at c.args.id.index c.args.program) c.args.self.now c.reply.new.self seat c.ask-tag.new.self c.reply.new.seat c.reply.result
    (omega (arith, c.left.ensures, ap (λ (t : Told). t.begun) c.session.ensures)) c.ask-tag.ensures.tag c.ask-tag.ensures.begun refl
    (subst (λ (drops : Bool). AnswersTag c.args.who c.ask-tag.result drops c.args.program c.args.self.now c.ask-tag.new.self c.reply.result c.reply.new.self c.reply.new.seat) c.drops-drops.ensures answered)
