use Rattle.std.proofs.Common.{◌≡◌, ◌∙◌, ap, arith, refl, sym}
use Rattle.bayou_audit.specs.Totals.{Booked, Shared, without_slip}
use Rattle.bayou_base.specs.declared.session.SessionId.{SessionId}
use Rattle.bayou_world.proofs.Shares.{counted_slips, files, full_files, never, none_files, of_session, put_back}
use Rattle.bayou_world.proofs.world_book.WorldBook.file.Goals as goal

pub invariant_of-self : goal.invariant_of-self
invariant_of-self g c = (
  omega (arith, ap (λ (book : Booked). book.totals.slips) c.in_default.ensures.claimed.0, c.self.invariant.0),
  put_back c.self.inside.shares.items c.from.result c.index_mut-share.result.now c.claim.new.share c.self.invariant.1 (omega (arith, c.from.ensures, c.args.who.in_range)) c.index_mut-share.ensures.value
      (ap (λ (share : Shared). share.session) c.in_default.ensures.claimed.1),
)

pub returns-in_default-clause-follows : goal.returns-in_default-clause-follows
returns-in_default-clause-follows g c machine good tagged tied book =
    full_files c.args.state.now c.args.who.index c.args.self.now c.self.inside.book c.claim.new.self c.self.view_is (c.in_default.ensures.full.0 refl) c.self.invariant.0 c.in_default.ensures.claimed.0 machine tied book

pub void-requires : goal.void-requires
void-requires g c =
    let out = c.in-Ok.ensures.claimed.2 in
    let slip : c.in-Ok.slip ≡ c.claim.new.share.session = c.in-Ok.ensures.claimed.0 ∙ sym (ap (λ (share : Shared). share.session) out) in
    let bounds = c.type_bounds in (
      bounds.send-K-Slips,
      (
        bounds.send-K-Reads,
        (
          bounds.send-K-Writes,
          (
            bounds.send-K-Refusals,
            (
              bounds.sync-K-Slips,
              (
                bounds.sync-K-Reads,
                (
                  bounds.sync-K-Writes,
                  (
                    bounds.sync-K-Refusals,
                    (slip, omega (arith, ap (λ (share : Shared). share.totals.slips) out)),
                  ),
                ),
              ),
            ),
          ),
        ),
      ),
    )

pub invariant_of-self-in_default-oldest : goal.invariant_of-self-in_default-oldest
invariant_of-self-in_default-oldest g c = (
  omega (arith, ap (λ (book : Booked). book.totals.slips) c.void.ensures.voided.0, ap (λ (book : Booked). book.totals.slips) c.in-Ok.ensures.claimed.1, c.self.invariant.0),
  put_back c.self.inside.shares.items c.from.result c.index_mut-share.result.now c.void.new.share c.self.invariant.1 (omega (arith, c.from.ensures, c.args.who.in_range)) c.index_mut-share.ensures.value
      (ap (λ (share : Shared). share.session) c.void.ensures.voided.1 ∙ ap (λ (share : Shared). share.session) c.in-Ok.ensures.claimed.2),
)

pub returns-in_default-oldest-clause-follows : goal.returns-in_default-oldest-clause-follows
returns-in_default-oldest-clause-follows g c =
    none_files c.args.state.now c.oldest.new.self c.args.who.index c.args.self.now c.self.inside.book c.claim.new.self c.void.new.self c.in_default-oldest.ensures.follows c.self.view_is c.in-Ok.ensures.claimed.1 c.void.ensures.voided.0

pub void-requires-then-ne : goal.void-requires-then-ne
void-requires-then-ne g c =
    let out = c.in-Ok.ensures.claimed.2 in
    let slip : c.in-Ok.slip ≡ c.claim.new.share.session = c.in-Ok.ensures.claimed.0 ∙ sym (ap (λ (share : Shared). share.session) out) in
    let bounds = c.type_bounds in (
      bounds.send-K-Slips,
      (
        bounds.send-K-Reads,
        (
          bounds.send-K-Writes,
          (
            bounds.send-K-Refusals,
            (
              bounds.sync-K-Slips,
              (
                bounds.sync-K-Reads,
                (
                  bounds.sync-K-Writes,
                  (
                    bounds.sync-K-Refusals,
                    (slip, omega (arith, ap (λ (share : Shared). share.totals.slips) out)),
                  ),
                ),
              ),
            ),
          ),
        ),
      ),
    )

pub invariant_of-self-then-ne : goal.invariant_of-self-then-ne
invariant_of-self-then-ne g c = (
  omega (arith, ap (λ (book : Booked). book.totals.slips) c.void-then-ne.ensures.voided.0, ap (λ (book : Booked). book.totals.slips) c.in-Ok.ensures.claimed.1, c.self.invariant.0),
  put_back c.self.inside.shares.items c.from.result c.index_mut-share.result.now c.void-then-ne.new.share c.self.invariant.1 (omega (arith, c.from.ensures, c.args.who.in_range)) c.index_mut-share.ensures.value
      (ap (λ (share : Shared). share.session) c.void-then-ne.ensures.voided.1 ∙ ap (λ (share : Shared). share.session) c.in-Ok.ensures.claimed.2),
)

pub returns-then-ne-clause-follows : goal.returns-then-ne-clause-follows
returns-then-ne-clause-follows g c machine good tagged tied book =
    let named : c.session.result.index ≡ c.args.who.index =
    ap (λ (id : SessionId). id.index) c.session.ensures ∙ ap (λ (share : Shared). share.session.index) c.in-Ok.ensures.claimed.2
    ∙ of_session c.self.inside.shares.items c.from.result c.index_mut-share.result.now c.self.invariant.1 (omega (arith, c.from.ensures, c.args.who.in_range)) c.index_mut-share.ensures.value ∙ c.from.ensures in
    absurd (never c.args.state.now c.oldest.new.self c.args.who.index c.in-Some.entry c.session.result c.in-Some.ensures.follows named c.if-ne.ensures machine good tied)

pub invariant_of-self-2 : goal.invariant_of-self-2
invariant_of-self-2 g c = (
  omega (arith, ap (λ (book : Booked). book.totals.slips) c.file.ensures.filed.0 ∙ counted_slips c.in-Some.entry.what (without_slip c.claim.new.self.totals), ap (λ (book : Booked). book.totals.slips) c.in-Ok.ensures.claimed.1, c.self.invariant.0),
  put_back c.self.inside.shares.items c.from.result c.index_mut-share.result.now c.file.new.share c.self.invariant.1 (omega (arith, c.from.ensures, c.args.who.in_range)) c.index_mut-share.ensures.value
      (ap (λ (share : Shared). share.session) c.file.ensures.filed.1 ∙ ap (λ (share : Shared). share.session) c.in-Ok.ensures.claimed.2),
)

pub returns-clause-follows : goal.returns-clause-follows
returns-clause-follows g c =
    files c.args.state.now c.oldest.new.self c.args.who.index c.in-Some.entry c.args.self.now c.self.inside.book c.claim.new.self c.file.new.self c.in-Some.ensures.follows c.self.view_is c.self.invariant.0 c.in-Ok.ensures.exact.0
    (λ same. let both = c.in-Ok.ensures.full.1 same in absurd (cc)) c.in-Ok.ensures.claimed.1 c.file.ensures.filed.0
