use Rattle.std.proofs.Common.{◌≡◌, ◌<◌, ◌≤◌, Contains, length, slice_index, slice_index_or, ap, sym, ◌∙◌, subst, arith}
use Rattle.bayou_lang.specs.declared.write.Write.{Write}
use Rattle.bayou_lang.specs.Writes.{count_of}
use Rattle.bayou_log.specs.Inner.Index.{place_in}
use Rattle.bayou_log.specs.Log.{Log}
use Rattle.bayou_log.proofs.Indexed.{place_held}
use Rattle.bayou_log.proofs.write_log.WriteLog.own_write.Goals as goal

pub index-requires : goal.index-requires
index-requires c =
    let inside = c.self.inside in
    let within = subst (λ (log : Log). c.args.seq ≤ slice_index (count_of log.receipts) c.args.server) (sym c.self.view_is) c.requires.held.1 in
    let held = place_held inside.count inside.own.rows inside.writes.items c.args.server c.args.seq c.self.invariant.0.fitting c.self.invariant.4 c.requires.held.0 within in
    omega (arith, held.0, inside.writes.ok.0, c.place.ensures)

pub returns-clause-held : goal.returns-clause-held
returns-clause-held c =
    let inside = c.self.inside in
    let writes = inside.writes.items in
    let here = c.index.result.now in
    let within = subst (λ (log : Log). c.args.seq ≤ slice_index (count_of log.receipts) c.args.server) (sym c.self.view_is) c.requires.held.1 in
    let held = place_held inside.count inside.own.rows writes c.args.server c.args.seq c.self.invariant.0.fitting c.self.invariant.4 c.requires.held.0 within in
    subst (λ (log : Log). Contains log.receipts here) c.self.view_is
    (c.place.result, subst (λ p. p < length writes) (sym c.place.ensures) held.0, sym c.index.ensures)

pub returns-clause-named : goal.returns-clause-named
returns-clause-named c =
    let inside = c.self.inside in
    let writes = inside.writes.items in
    let here = c.index.result.now in
    let within = subst (λ (log : Log). c.args.seq ≤ slice_index (count_of log.receipts) c.args.server) (sym c.self.view_is) c.requires.held.1 in
    let held = place_held inside.count inside.own.rows writes c.args.server c.args.seq c.self.invariant.0.fitting c.self.invariant.4 c.requires.held.0 within in
    let at : place_in inside.own.rows c.args.server c.args.seq ≡ c.place.result = sym c.place.ensures in
    subst (λ (w : Write). (w.wid.origin.index ≡ c.args.server) × (w.wid.seq ≡ c.args.seq)) (ap (λ p. slice_index_or writes p here) at ∙ sym c.index.ensures) (held.1 here)
