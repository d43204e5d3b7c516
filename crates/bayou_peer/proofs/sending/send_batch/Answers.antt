use Rattle.std.proofs.Common.{rules, ◌≡◌, ◌<◌, ap, subst, length, arith}
use Rattle.std.proofs.lemmas.Result.{err_from_is_err_and}
use Rattle.std.specs.Io.KnownBytes.{Appends}
use Rattle.std.specs.List.{AllByRecursion}
use Rattle.bayou_base.specs.declared.limits.TheConstants.{ITEMS_AT_ONCE}
use Rattle.bayou_lang.specs.Ranges.{IsWrite}
use Rattle.bayou_frames.specs.Spelled.{item_bytes}
use Rattle.bayou_frames.specs.Laws.Bytes.{front_of_nothing}
use Rattle.bayou_peer.proofs.Items.{item_bytes-of, item_bytes-some, lacks_on, raised_to, sends_fault}
use Rattle.bayou_peer.proofs.sending.send_batch.Goals as goal
use Rattle.bayou_streams.specs.Written.{AppendsFront}

pub returns-in_err-text-clause-sends : goal.returns-in_err-text-clause-sends
returns-in_err-text-clause-sends g c =
    let told = c.args.told.now in
    let writes = c.in_ok-batch.batch.items in
    let contents = g.W.Write.contents c.args.channel.now.writer in
    let fails = err_from_is_err_and c.from_residual-in_err-text.result c.from_residual-in_err-text.ensures.1 in
    let raises = raised_to told c.raise_all.new.told c.deref.result.now writes c.raise_all.ensures c.deref.ensures.value in (
      writes,
      lacks_on (g.P.Replica.list c.args.replica.now) told c.raise_all.new.told writes ITEMS_AT_ONCE raises c.in_ok-batch.ensures.value c.in_ok-batch.ensures.goes_on,
      rw fails.1 (sends_fault item_bytes writes contents contents fails.0 (front_of_nothing contents (item_bytes writes))),
    )

pub returns-in_err-send-clause-sends : goal.returns-in_err-send-clause-sends
returns-in_err-send-clause-sends g c =
    let told = c.args.told.now in
    let writes = c.in_ok-batch.batch.items in
    let before = g.W.Write.contents c.args.channel.now.writer in
    let after = g.W.Write.contents c.send.new.channel.writer in
    let fails = err_from_is_err_and c.from_residual-in_err-send.result c.from_residual-in_err-send.ensures.1 in
    let raises = raised_to told c.raise_all.new.told c.deref.result.now writes c.raise_all.ensures c.deref.ensures.value in
    let text = item_bytes-of c.deref-3.result.now c.in_ok-text.text.items c.deref-2.result.now writes c.deref-3.ensures.value c.in_ok-text.ensures.spelled c.deref-2.ensures.value in (
      writes,
      lacks_on (g.P.Replica.list c.args.replica.now) told c.raise_all.new.told writes ITEMS_AT_ONCE raises c.in_ok-batch.ensures.value c.in_ok-batch.ensures.goes_on,
      rw fails.1 (sends_fault item_bytes writes before after fails.0 (subst (AppendsFront before after) text c.in_err-send.ensures.part)),
    )

pub returns-clause-sends : goal.returns-clause-sends
returns-clause-sends g c =
    let told = c.args.told.now in
    let writes = c.in_ok-batch.batch.items in
    let before = g.W.Write.contents c.args.channel.now.writer in
    let after = g.W.Write.contents c.send.new.channel.writer in
    let raises = raised_to told c.raise_all.new.told c.deref.result.now writes c.raise_all.ensures c.deref.ensures.value in
    let text = item_bytes-of c.deref-3.result.now c.in_ok-text.text.items c.deref-2.result.now writes c.deref-3.ensures.value c.in_ok-text.ensures.spelled c.deref-2.ensures.value in (
      writes,
      lacks_on (g.P.Replica.list c.args.replica.now) told c.raise_all.new.told writes ITEMS_AT_ONCE raises c.in_ok-batch.ensures.value c.in_ok-batch.ensures.goes_on,
      record {
        whole = subst (Appends before after) text c.in_ok-send.ensures.whole;
        part = subst (AppendsFront before after) text c.in_ok-send.ensures.part;
        number = search rules;
        each = subst (AllByRecursion IsWrite) c.deref-2.ensures.value c.in_ok-text.ensures.each;
      },
    )

pub returns-clause-spent : goal.returns-clause-spent
returns-clause-spent g c some =
    let writes = c.in_ok-batch.batch.items in
    let text = item_bytes-of c.deref-3.result.now c.in_ok-text.text.items c.deref-2.result.now writes c.deref-3.ensures.value c.in_ok-text.ensures.spelled c.deref-2.ensures.value in
    let number : c.len.result ≡ length writes = search rules in
    let any : 0 < length writes = omega (arith, some, number) in
    c.in_ok-send.ensures.spent (omega (arith, item_bytes-some writes any, ap length text))
