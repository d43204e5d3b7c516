use Rattle.std.proofs.Common.{subst}
use Rattle.std.proofs.lemmas.Result.{err_from_is_err_and}
use Rattle.std.specs.Io.KnownBytes.{Appends}
use Rattle.bayou_peer.proofs.Items.{answers_items, answers_part, answers_whole}
use Rattle.bayou_peer.proofs.answering.answer_offer_on.Goals as goal
use Rattle.bayou_streams.specs.Written.{AppendsFront}

pub returns-in_err-number-clause-answers : goal.returns-in_err-number-clause-answers
returns-in_err-number-clause-answers g c =
    let list = g.P.Replica.list c.args.replica.now in
    let before = g.W.Write.contents c.args.channel.now.writer in
    let mid = g.W.Write.contents c.send_items.new.channel.writer in
    let fails = err_from_is_err_and c.from_residual.result c.from_residual.ensures.1 in
    rw (fails.1, fails.2) (answers_items list c.args.counts.now before mid c.in_err-number.field-0.0 c.in_err-number.ensures.sends)

pub returns-in_err-send-clause-answers : goal.returns-in_err-send-clause-answers
returns-in_err-send-clause-answers g c =
    let list = g.P.Replica.list c.args.replica.now in
    let before = g.W.Write.contents c.args.channel.now.writer in
    let mid = g.W.Write.contents c.send_items.new.channel.writer in
    let after = g.W.Write.contents c.send.new.channel.writer in
    let fails = err_from_is_err_and c.from_residual-in_err-send.result c.from_residual-in_err-send.ensures.1 in
    let part = subst (AppendsFront mid after) c.deref.ensures.value c.in_err-send.ensures.part in
    rw fails.1 (answers_part list c.args.counts.now before mid after c.in_ok-number.number c.in_ok-end.end.items fails.0 c.in_ok-number.ensures.sends c.in_ok-end.ensures.spelling part)

pub returns-clause-answers : goal.returns-clause-answers
returns-clause-answers g c =
    let list = g.P.Replica.list c.args.replica.now in
    let before = g.W.Write.contents c.args.channel.now.writer in
    let mid = g.W.Write.contents c.send_items.new.channel.writer in
    let after = g.W.Write.contents c.send.new.channel.writer in
    let wrote = subst (Appends mid after) c.deref.ensures.value c.in_ok-send.ensures.whole in
    answers_whole list c.args.counts.now before mid after c.in_ok-number.number c.in_ok-end.end.items c.in_ok-number.ensures.sends c.in_ok-end.ensures.spelling wrote
