use Rattle.std.proofs.Common.{[], List, ℕ, subst}
use Rattle.std.proofs.KnownBytes.{Consumes-nil}
use Rattle.std.proofs.lemmas.Result.{err_from_is_err_and}
use Rattle.std.specs.Io.KnownBytes.{Appends, IsAtEnd}
use Rattle.bayou_client.proofs.Ending.{unheard, unsent}
use Rattle.bayou_client.proofs.link.exchange.Goals as goal
use Rattle.bayou_wire.specs.Laws.Frames.{spelling_of}
use Rattle.bayou_streams.specs.Written.{AppendsFront}
use Rattle.bayou_wire.specs.Stream.{spelling}

pub returns-in_err-send-clause-exchanges : goal.returns-in_err-send-clause-exchanges
returns-in_err-send-clause-exchanges g c =
    let text = spelling_of c.args.request.now c.in_ok-text.text.items c.in_ok-text.ensures.spelling in
    let before = g.W.Write.contents c.args.link.now.channel.writer in
    let after = g.W.Write.contents c.send.new.channel.writer in
    let front : AppendsFront before after (spelling c.args.request.now) = subst (λ (t : List ℕ). AppendsFront before after t) text (subst (λ (t : List ℕ). AppendsFront before after t) c.deref.ensures.value c.send.ensures.part) in
    let fails = err_from_is_err_and c.from_residual-in_err-send.result c.from_residual-in_err-send.ensures.1 in (
      [],
      rw c.send.ensures.other.0 (Consumes-nil _),
      rw (fails.1, fails.2) (unsent c.args.many (spelling c.args.request.now) before after c.args.link.now.is_closed _ _ _ (IsAtEnd (g.R.Read.remaining c.send.new.channel.reader)) c.in_err-send.field-0.0 c.if-link.false
          c.in_err-send.ensures.fault c.in_err-send.ensures.no_memory c.in_err-send.ensures.stopped front),
    )

pub returns-in_err-reply-clause-exchanges : goal.returns-in_err-reply-clause-exchanges
returns-in_err-reply-clause-exchanges g c =
    let text = spelling_of c.args.request.now c.in_ok-text.text.items c.in_ok-text.ensures.spelling in
    let before = g.W.Write.contents c.args.link.now.channel.writer in
    let after = g.W.Write.contents c.read_reply.new.channel.writer in
    let whole : Appends before after (spelling c.args.request.now) =
    rw (c.read_reply.ensures.other.0) (subst (λ (t : List ℕ). Appends before (g.W.Write.contents c.send.new.channel.writer) t) text
    (subst (λ (t : List ℕ). Appends before (g.W.Write.contents c.send.new.channel.writer) t) c.deref.ensures.value c.in_ok-send.ensures.whole)) in
    let (read, consumed, less) = c.in_err-reply.ensures.reads in
    let fails = err_from_is_err_and c.from_residual-in_err-reply.result c.from_residual-in_err-reply.ensures.1 in (
      read,
      rw (← c.send.ensures.other.0) consumed,
      rw (fails.1, fails.2) (unheard c.args.many (spelling c.args.request.now) before after read c.args.link.now.is_closed _ _ _ (IsAtEnd (g.R.Read.remaining c.read_reply.new.channel.reader)) c.in_err-reply.field-0.0 c.if-link.false
          less c.in_err-reply.ensures.stopped whole),
    )

pub returns-clause-exchanges : goal.returns-clause-exchanges
returns-clause-exchanges g c =
    let text = spelling_of c.args.request.now c.in_ok-text.text.items c.in_ok-text.ensures.spelling in
    let before = g.W.Write.contents c.args.link.now.channel.writer in
    let after = g.W.Write.contents c.read_reply.new.channel.writer in
    let whole : Appends before after (spelling c.args.request.now) =
    rw (c.read_reply.ensures.other.0) (subst (λ (t : List ℕ). Appends before (g.W.Write.contents c.send.new.channel.writer) t) text
    (subst (λ (t : List ℕ). Appends before (g.W.Write.contents c.send.new.channel.writer) t) c.deref.ensures.value c.in_ok-send.ensures.whole)) in
    let (read, consumed, is) = c.in_ok-reply.ensures.reads in
    (read, rw (← c.send.ensures.other.0) consumed, (c.if-link.false, whole, is))
