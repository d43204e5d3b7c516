use Rattle.std.proofs.Common.{◌≡◌, ◌∙◌, ℕ, List, Option, Ok, Err, OnOk, inr, refl, subst}
use Rattle.std.proofs.lemmas.Result.{err_from_is_err_and}
use Rattle.std.specs.Io.KnownBytes.{Appends}
use Rattle.bayou_frames.specs.declared.fault.ChannelFault.TheVariants as faults
use Rattle.bayou_frames.specs.Laws.Bytes.{front_of_nothing}
use Rattle.bayou_net.specs.Inner.Dumping.{HasDumped, SendsHeld}
use Rattle.bayou_net.specs.Serving.{Steps}
use Rattle.bayou_net.proofs.Dumped.{dump_broken, dump_ended, dumped_first, dumped_none, dumped_part}
use Rattle.bayou_streams.specs.Written.{AppendsFront}
use Rattle.bayou_wire.specs.declared.frame.Frame.TheVariants.{End, Refused}
use Rattle.bayou_base.specs.declared.refusal.Refusal.TheVariants.{OutOfMemory}
use Rattle.bayou_wire.specs.Stream.{spelling}
use Rattle.bayou_net.proofs.dumping.answer_dump.Goals as goal

pub returns-in_err-text-clause-does : goal.returns-in_err-text-clause-does
returns-in_err-text-clause-does g c =
    let p = err_from_is_err_and c.from_residual.result c.from_residual.ensures.1 in
    rw (p.1, p.2) (spelling (Refused OutOfMemory), inr (refl, c.part_at.ensures.same), front_of_nothing _ (spelling (Refused OutOfMemory)))

pub returns-in_err-send-clause-does : goal.returns-in_err-send-clause-does
returns-in_err-send-clause-does g c =
    let steps : Steps g.row.S.Denot = record { list = g.S.Replica.list; reads = g.S.Served.reads; writes = g.S.Served.writes; reopens = g.S.Served.reopens } in
    let list = g.S.Replica.list c.args.served.now in
    let first = c.in-Ok.first in
    let before = g.W.Write.contents c.args.channel.now.writer in
    let after = g.W.Write.contents c.send-2.new.channel.writer in
    let fault = c.in_err-send.field-0.0 in
    let p = err_from_is_err_and c.from_residual-in_err-send.result c.from_residual-in_err-send.ensures.1 in
    let front = subst (AppendsFront before after) c.deref-2.ensures.value c.in_err-send.ensures.part in
    let sends = dumped_part list before before after 0 first.text.items first.number fault (dumped_none list before) c.in-Ok.ensures.part front in
    rw (p.1, p.2) (dump_broken {S = g.row.S.Denot} steps c.args.served.now c.part_at.new.served before after (Unit {0}) fault c.in_err-send.ensures.fault c.part_at.ensures.same sends)

pub returns-in_err-number-clause-does : goal.returns-in_err-number-clause-does
returns-in_err-number-clause-does g c =
    let steps : Steps g.row.S.Denot = record { list = g.S.Replica.list; reads = g.S.Served.reads; writes = g.S.Served.writes; reopens = g.S.Served.reopens } in
    let list = g.S.Replica.list in
    let first = c.in-Ok.first in
    let before = g.W.Write.contents c.args.channel.now.writer in
    let mid = g.W.Write.contents c.send-2.new.channel.writer in
    let after = g.W.Write.contents c.send_behind.new.channel.writer in
    let fault = c.in_err-number.field-0.0 in
    let p = err_from_is_err_and c.from_residual-in_err-number.result c.from_residual-in_err-number.ensures.1 in
    let wrote = subst (Appends before mid) c.deref-2.ensures.value c.in_ok-send.ensures.whole in
    let prior = dumped_first (list c.args.served.now) before mid first.text.items first.number c.in-Ok.ensures.part wrote in
    let sends = subst (λ served. HasDumped (list served) before mid first.number → SendsHeld (list served) before after (Err fault)) c.part_at.ensures.same (c.in_err-number.ensures.sends before) in
    rw (p.1, p.2) (dump_broken {S = g.row.S.Denot} steps c.args.served.now c.send_behind.new.served before after (Unit {0}) fault c.in_err-number.ensures.fault
    (c.in_err-number.ensures.same ∙ c.part_at.ensures.same) (sends prior))

pub returns-in_err-end-clause-does : goal.returns-in_err-end-clause-does
returns-in_err-end-clause-does g c =
    let steps : Steps g.row.S.Denot = record { list = g.S.Replica.list; reads = g.S.Served.reads; writes = g.S.Served.writes; reopens = g.S.Served.reopens } in
    let list = g.S.Replica.list in
    let first = c.in-Ok.first in
    let number = c.in_ok-number.number in
    let before = g.W.Write.contents c.args.channel.now.writer in
    let mid = g.W.Write.contents c.send-2.new.channel.writer in
    let after = g.W.Write.contents c.send_behind.new.channel.writer in
    let p = err_from_is_err_and c.from_residual-in_err-end.result c.from_residual-in_err-end.ensures.1 in
    let wrote = subst (Appends before mid) c.deref-2.ensures.value c.in_ok-send.ensures.whole in
    let prior = dumped_first (list c.args.served.now) before mid first.text.items first.number c.in-Ok.ensures.part wrote in
    let sends = subst (λ served. HasDumped (list served) before mid first.number → SendsHeld (list served) before after (Ok number)) c.part_at.ensures.same (c.in_ok-number.ensures.sends before) in
    rw (p.1, p.2) (dump_ended {S = g.row.S.Denot} steps c.args.served.now c.send_behind.new.served before after after (Unit {0}) (Err faults.OutOfMemory) number (spelling (End number))
    (c.in_ok-number.ensures.same ∙ c.part_at.ensures.same) (sends prior) refl tt (front_of_nothing after (spelling (End number))) tt)

pub returns-clause-does : goal.returns-clause-does
returns-clause-does g c =
    let steps : Steps g.row.S.Denot = record { list = g.S.Replica.list; reads = g.S.Served.reads; writes = g.S.Served.writes; reopens = g.S.Served.reopens } in
    let list = g.S.Replica.list in
    let first = c.in-Ok.first in
    let number = c.in_ok-number.number in
    let before = g.W.Write.contents c.args.channel.now.writer in
    let mid = g.W.Write.contents c.send-2.new.channel.writer in
    let last = g.W.Write.contents c.send_behind.new.channel.writer in
    let after = g.W.Write.contents c.send-3.new.channel.writer in
    let wrote = subst (Appends before mid) c.deref-2.ensures.value c.in_ok-send.ensures.whole in
    let prior = dumped_first (list c.args.served.now) before mid first.text.items first.number c.in-Ok.ensures.part wrote in
    let sends = subst (λ served. HasDumped (list served) before mid first.number → SendsHeld (list served) before last (Ok number)) c.part_at.ensures.same (c.in_ok-number.ensures.sends before) in
    let whole = subst (λ (text : List ℕ). OnOk c.send-3.result (Appends last after text)) c.deref-3.ensures.value c.send-3.ensures.whole in
    let front = subst (AppendsFront last after) c.deref-3.ensures.value c.send-3.ensures.part in
    dump_ended {S = g.row.S.Denot} steps c.args.served.now c.send_behind.new.served before last after (Unit {0}) c.send-3.result number c.in_ok-end.end.items
    (c.in_ok-number.ensures.same ∙ c.part_at.ensures.same) (sends prior) c.in_ok-end.ensures whole front c.send-3.ensures.fault
