use Rattle.std.proofs.Common.{◌≡◌, ◌∙◌, List, ℕ, inr, refl, ap, subst}
use Rattle.bayou_lang.specs.declared.program.Program.{Program}
use Rattle.bayou_server.specs.Writes.{Writes}
use Rattle.bayou_session.specs.Needs.{write_need}
use Rattle.bayou_machine.specs.declared.script_server.ScriptServer.TheVariants.{Running}
use Rattle.bayou_machine.specs.Inner.Tagged.{AnswersTag}
use Rattle.bayou_machine.proofs.Tagged.{of_asked}
use Rattle.bayou_machine.proofs.script_server.ScriptServer.reply.Goals as goal

pub returns : goal.returns
returns c =
    let seat = c.args.seat.now in
    let need : c.need_write-need.result ≡ write_need seat.told = c.need_write-need.ensures.value ∙ ap write_need c.session.ensures in
    of_asked seat.asked c.program.result.now
    (λ (p : Program). AnswersTag c.args.who c.args.tag c.args.drops p c.args.self.now seat c.hear_write.result (Running c.write-reply.new.self) c.hear_write.new.self)
    c.program.ensures
    (inr (record {
      old = c.in-Running.server;
      new = c.write-reply.new.self;
      result = c.write-reply.result;
      was = c.in-Running.is;
      writes = subst (λ (n : List ℕ). Writes c.in-Running.server.core c.args.tag n c.program.result.now c.write-reply.result c.write-reply.new.self.core) need c.write-reply.ensures.writes;
      stores = c.write-reply.ensures.stores;
      sound = c.write-reply.ensures.sound;
      others = c.write-reply.ensures.others;
      safe = c.write-reply.ensures.safe tt;
      calls = c.write-reply.ensures.calls;
      answered = c.hear_write.ensures.answered;
      is = refl;
      told_of = c.hear_write.ensures.told;
    }))
