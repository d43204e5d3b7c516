use Rattle.std.proofs.Common.{refl, Result, Ok, OnOk, ◌≡◌, [], ℕ, List, Err, Option, ◌∙◌, subst}
use Rattle.std.proofs.KnownBytes.{Consumes-nil}
use Rattle.std.specs.Io.KnownBytes.{Appends, IsAtEnd}
use Rattle.bayou_streams.specs.Written.{AppendsFront}
use Rattle.bayou_wire.specs.Laws.Frames.{spelling_of}
use Rattle.bayou_peer.proofs.Received.{ends_sending, received_start}
use Rattle.bayou_peer.proofs.pulling.pull_from_on.Goals as goal

front_of : (old new : Option (List ℕ)) (text whole : List ℕ) → text ≡ whole → AppendsFront old new text → AppendsFront old new whole
front_of old new text whole same front = subst (AppendsFront old new) same front

any_ok : {T E : Type 0} (result : Result T E) (P : Type 0) → P → OnOk result P
any_ok (Ok value) P p = p
any_ok (Err fault) P p = tt

pub returns-in_default-clause-ends : goal.returns-in_default-clause-ends
returns-in_default-clause-ends g c = ([], Consumes-nil _, rw c.at_once.ensures ([], received_start _ _ 0 0 refl refl, refl))

pub returns-clause-part : goal.returns-clause-part
returns-clause-part g c =
    let text = c.deref.ensures.value ∙ spelling_of _ _ c.in-Ok.ensures.spelling in
    front_of _ _ _ _ text c.in-Err.ensures.part

pub returns-clause-ends : goal.returns-clause-ends
returns-clause-ends g c =
    let ended = ends_sending {S = g.row.P.Denot} (record { list = g.P.Replica.list; takes = g.P.Replica.takes }) c.args.replica.now
    (IsAtEnd (g.R.Read.remaining c.send.new.channel.reader)) c.in-Err.fault c.in-Err.ensures.fault in
    ([], rw c.in-Err.ensures.other.0 (Consumes-nil _), rw c.at_once-in-Err.ensures ended)

pub returns-in-Ok-send-clause-offered : goal.returns-in-Ok-send-clause-offered
returns-in-Ok-send-clause-offered g c =
    let text = c.deref.ensures.value ∙ spelling_of _ _ c.in-Ok.ensures.spelling in
    let whole = subst (Appends (g.W.Write.contents c.args.channel.now.writer) (g.W.Write.contents c.send.new.channel.writer)) text c.in-Ok-send.ensures.whole in
    any_ok c.receive.result _ (rw c.receive.ensures.other.0 whole)

pub returns-in-Ok-send-clause-part : goal.returns-in-Ok-send-clause-part
returns-in-Ok-send-clause-part g c =
    let text = c.deref.ensures.value ∙ spelling_of _ _ c.in-Ok.ensures.spelling in
    rw c.receive.ensures.other.0 (front_of _ _ _ _ text c.in-Ok-send.ensures.part)
