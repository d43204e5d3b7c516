use Rattle.std.proofs.Common.{◌∙◌, arith, ap}
use Rattle.bayou_machine.proofs.Fewer.{appended, sends_lacking}
use Rattle.bayou_machine.proofs.exchange.answer_of.Goals as goal

pub returns-in-Ok-clause-sent : goal.returns-in-Ok-clause-sent
returns-in-Ok-clause-sent c =
    let (writes, is, sends) = c.in-Ok.ensures.answers in
    let bytes = appended _ _ _ (ap (λ v. v.items) c.new-channel.ensures.writer ∙ c.new.ensures.items) sends.whole in
    sends_lacking c.args.counts.now c.args.server.now.core.held c.args.server.now.core.limit writes _ is sends.each (ap (λ v. v.items) c.into_parts.ensures.1 ∙ bytes)
    c.receipts-sound.ensures.sound.holds.within (omega (arith, c.limit-limit.ensures.value, c.limit-limit.ensures.in_range))
