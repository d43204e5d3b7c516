use Rattle.std.proofs.Common.{arith, ap, refl, sym, ◌∙◌}
use Rattle.bayou_audit.specs.Totals.{Booked, Shared}
use Rattle.bayou_machine.proofs.Kept.{filed_entry, no_slip_out, of_session, put_back_share, same_book}
use Rattle.bayou_machine.proofs.script_book.ScriptBook.file.Goals as goal

pub invariant_of-self : goal.invariant_of-self
invariant_of-self g c = (
  no_slip_out c.self.inside.book c.claim.new.self c.file.new.self _ c.self.invariant.0 c.in-Ok.ensures.claimed.1 c.file.ensures.filed.0,
  put_back_share c.self.inside.shares.items c.from.result c.index_mut-share.result.now c.file.new.share c.self.invariant.1
      (omega (arith, c.from.ensures, c.args.who.in_range)) c.index_mut-share.ensures.value
      (ap (λ (share : Shared). share.session) c.file.ensures.filed.1 ∙ ap (λ (share : Shared). share.session) c.in-Ok.ensures.claimed.2),
)

pub returns : goal.returns
returns g c =
    let named = ap (λ session. session.index) c.session.ensures ∙ ap (λ (share : Shared). share.session.index) c.in-Ok.ensures.claimed.2
    ∙ of_session c.self.inside.shares.items c.from.result c.index_mut-share.result.now c.self.invariant.1
    (omega (arith, c.from.ensures, c.args.who.in_range)) c.index_mut-share.ensures.value
    ∙ c.from.ensures in
    let (filed, is, files) =
    filed_entry c.args.who.index c.args.server.index c.args.session.now c.in-Some.what _ _ c.claim.new.self c.file.new.self c.file.ensures.filed.0
    (record {
      session_is = named;
      place_is = omega (arith, c.left.ensures);
      asks_are = c.asks.ensures;
      server_is = refl;
      what_is = refl;
    })
    (sym c.what_of.ensures ∙ c.in-Some.is) in (
      filed,
      same_book c.args.self.now c.self.inside.book c.claim.new.self c.file.new.self filed c.self.view_is c.in-Ok.ensures.claimed.1
          (ap (λ (book : Booked). book.capacity) c.file.ensures.filed.0) is,
      files,
    )
