use Rattle.std.proofs.Common.{sym, subst}
use Rattle.std.proofs.lemmas.Result.{err_from_is_err_and}
use Rattle.bayou_net.proofs.Done.{offer_broken}
use Rattle.bayou_net.specs.Inner.Steps.{DoesOne}
use Rattle.bayou_wire.specs.declared.frame.Frame.{Frame}
use Rattle.bayou_net.specs.Serving.{Steps}
use Rattle.bayou_net.proofs.serving.do_one.Goals as goal

pub returns-in_err-answer_offer_on-in-Offer-clause-does : goal.returns-in_err-answer_offer_on-in-Offer-clause-does
returns-in_err-answer_offer_on-in-Offer-clause-does g c =
    let steps : Steps g.row.S.Denot = record { list = g.S.Replica.list; reads = g.S.Served.reads; writes = g.S.Served.writes; reopens = g.S.Served.reopens } in
    let p = err_from_is_err_and c.from_residual.result c.from_residual.ensures.1 in
    let broken = offer_broken {S = g.row.S.Denot} steps c.args.served.now c.answer_offer_on.new.replica c.in-Offer.counts _ _ (Unit {0}) _
    c.in_err-answer_offer_on-in-Offer.ensures.fault c.in_err-answer_offer_on-in-Offer.ensures.answers c.answer_offer_on.ensures.same in
    subst (λ (frame : Frame). DoesOne {S = g.row.S.Denot} steps c.args.served.now frame (g.W.Write.contents c.args.channel.now.writer) (g.W.Write.contents c.answer_offer_on.new.channel.writer) c.from_residual.result c.answer_offer_on.new.replica)
    (sym c.in-Offer.is) (rw (p.1, p.2) broken)
