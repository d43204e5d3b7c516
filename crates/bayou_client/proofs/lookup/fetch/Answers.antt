use Rattle.arrayvec.specs.declared.array_vec.ArrayVec.{ArrayVec}
use Rattle.std.proofs.Common.{List, ℕ, Err, ap}
use Rattle.std.proofs.lemmas.Result.{err_from_is_err_and}
use Rattle.std.specs.Io.KnownBytes.{IsAtEnd}
use Rattle.bayou_client.proofs.Looked.{unread}
use Rattle.bayou_client.proofs.lookup.fetch.Goals as goal
use Rattle.bayou_wire.specs.Greetings.{greeting_bytes}

pub returns-in_err-text-clause-fetches : goal.returns-in_err-text-clause-fetches
returns-in_err-text-clause-fetches g c =
    let (read, consumed, _) = c.in_err-text.ensures.reads in
    let fails = err_from_is_err_and c.from_residual-in_err-text.result c.from_residual-in_err-text.ensures.1 in (
      read,
      rw (← c.send.ensures.other.0) consumed,
      rw (fails.1, fails.2) (unread {T = ArrayVec ℕ 8194 (Unit {0})} (λ text. text.items) (greeting_bytes c.args.asked.now) (g.W.Write.contents c.args.link.now.channel.writer) (g.W.Write.contents c.read_text.new.channel.writer) read c.args.link.now.is_closed _ _ _ (IsAtEnd (g.R.Read.remaining c.read_text.new.channel.reader)) c.in_err-text.field-0.0 c.if-link.false
          c.in_err-text.ensures.fault (λ same. c.in_err-text.ensures.cut (ap (λ f. Err f) same)) c.in_err-text.ensures.stopped),
    )
