use Rattle.std.proofs.Common.{arith, ◌≡◌, ◌<◌, ◌∙◌, subst, [], IfSome, Ok, Err}
use Rattle.std.proofs.lemmas.Result.{err_from_is_err_and}
use Rattle.bayou_lang.specs.Writes.{lacking_of}
use Rattle.bayou_peer.specs.Inner.Sending.{SendsBatch}
use Rattle.bayou_peer.proofs.Items.{sent_more, sent_part, sent_whole}
use Rattle.bayou_peer.proofs.answering.send_items.Goals as goal

pub returns-in_err-sent-clause-sends : goal.returns-in_err-sent-clause-sends
returns-in_err-sent-clause-sends g c =
    let loop = c.loop-sent in
    let list = g.P.Replica.list in
    let contents = g.W.Write.contents in
    let told = loop.told in
    let now = c.send_batch.new.told in
    let before = contents c.args.channel.now.writer in
    let mid = contents loop.channel.writer in
    let after = contents c.send_batch.new.channel.writer in
    let fails = err_from_is_err_and c.from_residual.result c.from_residual.ensures.1 in
    let fault = c.in_err-sent.field-0.0 in
    let sends = subst (λ replica. SendsBatch (list replica) told now mid after (Err fault)) loop.invariant.same c.in_err-sent.ensures.sends in
    rw (fails.1, fails.2) (sent_part (list c.args.replica.now) c.args.counts.now told now before mid after loop.number fault loop.invariant.sent sends)

pub returns-then-sent-eq0-clause-sends : goal.returns-then-sent-eq0-clause-sends
returns-then-sent-eq0-clause-sends g c =
    let loop = c.loop-sent in
    let list = g.P.Replica.list in
    let contents = g.W.Write.contents in
    let told = loop.told in
    let now = c.send_batch.new.told in
    let before = contents c.args.channel.now.writer in
    let mid = contents loop.channel.writer in
    let after = contents c.send_batch.new.channel.writer in
    let sends = subst (λ replica. SendsBatch (list replica) told now mid after (Ok c.in_ok-sent.sent)) loop.invariant.same c.in_ok-sent.ensures.sends in
    let all = subst (λ replica. IfSome (list replica) (λ held. lacking_of told held ≡ [])) loop.invariant.same (c.in_ok-sent.ensures.none c.if-sent-eq0.true) in
    sent_whole (list c.args.replica.now) c.args.counts.now told now before mid after loop.number c.in_ok-sent.sent loop.invariant.sent sends c.if-sent-eq0.true all

pub loop-sent-preserved : goal.loop-sent-preserved
loop-sent-preserved g c =
    let loop = c.loop-sent in
    let list = g.P.Replica.list in
    let contents = g.W.Write.contents in
    let told = loop.told in
    let now = c.send_batch.new.told in
    let before = contents c.args.channel.now.writer in
    let mid = contents loop.channel.writer in
    let after = contents c.send_batch.new.channel.writer in
    let sends = subst (λ replica. SendsBatch (list replica) told now mid after (Ok c.in_ok-sent.sent)) loop.invariant.same c.in_ok-sent.ensures.sends in
    let some : 0 < c.in_ok-sent.sent = omega (arith, c.if-sent-eq0.false) in
    record {
      same = c.in_ok-sent.ensures.same ∙ loop.invariant.same;
      sent = sent_more (list c.args.replica.now) c.args.counts.now told now before mid after loop.number c.in_ok-sent.sent loop.invariant.sent sends;
      few = omega (arith, loop.invariant.few, c.in_ok-sent.ensures.few, c.in_ok-sent.ensures.spent some);
      fewer = omega (arith, loop.invariant.fewer, c.in_ok-sent.ensures.turns);
      reader = (c.in_ok-sent.ensures.reader.0 ∙ loop.invariant.reader.0, c.in_ok-sent.ensures.reader.1 ∙ loop.invariant.reader.1);
    }
