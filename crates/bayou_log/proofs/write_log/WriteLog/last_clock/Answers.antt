use Rattle.std.proofs.Common.{◌≡◌, ◌<◌, ◌≤◌, length, slice_index, slice_index_or, ap, sym, ◌∙◌, subst, arith}
use Rattle.bayou_base.specs.declared.stamp.Stamp.{Stamp}
use Rattle.bayou_lang.specs.declared.write.Write.{Write}
use Rattle.bayou_lang.specs.Writes.{count_of}
use Rattle.bayou_lang.specs.Laws.Clocks.{IsLastClock, IsLastClock-held}
use Rattle.bayou_log.specs.Inner.Index.{place_in}
use Rattle.bayou_log.specs.Log.{Log}
use Rattle.bayou_log.proofs.Indexed.{place_held}
use Rattle.bayou_log.proofs.write_log.WriteLog.last_clock.Goals as goal

pub index-requires : goal.index-requires
index-requires c =
    let inside = c.self.inside in
    let some : 0 < c.args.seq = omega (arith, c.if-seq-eq0.false) in
    let within = subst (λ (log : Log). c.args.seq ≤ slice_index (count_of log.receipts) c.args.server) (sym c.self.view_is) c.requires.held in
    let held = place_held inside.count inside.own.rows inside.writes.items c.args.server c.args.seq c.self.invariant.0.fitting c.self.invariant.4 some within in
    omega (arith, held.0, inside.writes.ok.0, c.place.ensures)

pub returns : goal.returns
returns c =
    let inside = c.self.inside in
    let writes = inside.writes.items in
    let here = c.index.result.now in
    let some : 0 < c.args.seq = omega (arith, c.if-seq-eq0.false) in
    let within = subst (λ (log : Log). c.args.seq ≤ slice_index (count_of log.receipts) c.args.server) (sym c.self.view_is) c.requires.held in
    let held = place_held inside.count inside.own.rows writes c.args.server c.args.seq c.self.invariant.0.fitting c.self.invariant.4 some within in
    let at : place_in inside.own.rows c.args.server c.args.seq ≡ c.place.result = sym c.place.ensures in
    let named = subst (λ (w : Write). (w.wid.origin.index ≡ c.args.server) × (w.wid.seq ≡ c.args.seq)) (ap (λ p. slice_index_or writes p here) at ∙ sym c.index.ensures) (held.1 here) in
    let last = IsLastClock-held inside.count writes c.args.server c.args.seq here c.self.invariant.0.fitting
    (c.place.result, subst (λ p. p < length writes) at held.0, sym c.index.ensures) named.0 named.1 in
    subst (λ (log : Log). IsLastClock c.args.server c.args.seq log.receipts c.stamp.result.clock) c.self.view_is
    (subst (IsLastClock c.args.server c.args.seq writes) (ap (λ (stamp : Stamp). stamp.clock) (sym c.stamp.ensures)) last)
