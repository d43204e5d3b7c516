use Rattle.std.proofs.Common.{refl, Result, Ok, OnOk, [], ℕ, List, Err, ◌∙◌, subst, ap, arith}
use Rattle.std.proofs.KnownBytes.{Consumes-nil}
use Rattle.std.specs.Io.KnownBytes.{Appends, IsAtEnd}
use Rattle.std.proofs.lemmas.Result.{err_from_is_err_and}
use Rattle.bayou_peer.proofs.Looked.{sending_ends}
use Rattle.bayou_streams.specs.Written.{AppendsFront}
use Rattle.bayou_wire.specs.declared.frame.Frame.TheVariants.{Offer}
use Rattle.bayou_wire.specs.Laws.Frames.{spelling_of}
use Rattle.bayou_wire.specs.Stream.{spelling}
use Rattle.bayou_peer.proofs.losing.has_lost.Goals as goal

any_ok : {T E : Type 0} (result : Result T E) (P : Type 0) → P → OnOk result P
any_ok (Ok value) P p = p
any_ok (Err fault) P p = tt

pub returns-in_err-send-clause-part : goal.returns-in_err-send-clause-part
returns-in_err-send-clause-part g c =
    let text = c.deref.ensures.value ∙ spelling_of _ _ c.in_ok-offer.ensures.spelling ∙ ap (λ (l : List ℕ). spelling (Offer l)) c.in-Some.ensures.counts in
    subst (AppendsFront _ _) text c.in_err-send.ensures.part

pub returns-in_err-send-clause-looks : goal.returns-in_err-send-clause-looks
returns-in_err-send-clause-looks g c =
    let p = err_from_is_err_and c.from_residual-in_err-send.result c.from_residual-in_err-send.ensures.1 in
    let ended = sending_ends c.args.id.index c.args.own (IsAtEnd (g.R.Read.remaining c.send.new.channel.reader)) c.in_err-send.field-0.0 c.in_err-send.ensures.fault in
    ([], rw c.in_err-send.ensures.other.0 (Consumes-nil _), ([], [], refl, tt, omega arith), rw (p.1, p.2) ended)

pub returns-clause-offered : goal.returns-clause-offered
returns-clause-offered g c =
    let text = c.deref.ensures.value ∙ spelling_of _ _ c.in_ok-offer.ensures.spelling ∙ ap (λ (l : List ℕ). spelling (Offer l)) c.in-Some.ensures.counts in
    let whole = subst (Appends (g.W.Write.contents c.args.channel.now.writer) (g.W.Write.contents c.send.new.channel.writer)) text c.in_ok-send.ensures.whole in
    any_ok c.look.result _ (rw c.look.ensures.other.0 whole)

pub returns-clause-part : goal.returns-clause-part
returns-clause-part g c =
    let text = c.deref.ensures.value ∙ spelling_of _ _ c.in_ok-offer.ensures.spelling ∙ ap (λ (l : List ℕ). spelling (Offer l)) c.in-Some.ensures.counts in
    rw c.look.ensures.other.0 (subst (AppendsFront _ _) text c.in_ok-send.ensures.part)
