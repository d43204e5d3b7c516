use Rattle.std.proofs.Common.{◌≡◌, ◌≢◌, ◌≤◌, true, false, All, slice_index, ap, sym, ◌∙◌, subst, arith}
use Rattle.bayou_lang.specs.declared.write.Write.{Write}
use Rattle.bayou_lang.specs.Laws.Equality.{server-ext, wid-ext}
use Rattle.bayou_lang.specs.Writes.{count_of}
use Rattle.bayou_log.specs.Log.{Log}
use Rattle.bayou_log.proofs.Indexed.{none_of_wid}
use Rattle.bayou_log.proofs.write_log.WriteLog.find.Goals as goal

pub returns-then-not-covers-clause-missing : goal.returns-then-not-covers-clause-missing
returns-then-not-covers-clause-missing c =
    let inside = c.self.inside in
    let missed : c.args.wid.seq ≤ slice_index (count_of inside.writes.items) c.args.wid.origin.index → ⊥ = λ within.
    let counted : c.args.wid.seq ≤ slice_index inside.vector c.args.wid.origin.index = omega (arith, within, ap (λ counts. slice_index counts c.args.wid.origin.index) c.self.invariant.1.counted) in
    let both : true ≡ false = sym (c.covers.ensures.1 counted) ∙ c.if-not-covers.true in cc in
    subst (λ (log : Log). All (λ (held : Write). held.wid ≢ c.args.wid) log.receipts) c.self.view_is
    (none_of_wid inside.count inside.writes.items c.args.wid c.self.invariant.0.fitting missed)

pub own_write-requires-clause-held : goal.own_write-requires-clause-held
own_write-requires-clause-held c =
    let inside = c.self.inside in
    let within : c.args.wid.seq ≤ slice_index (count_of inside.writes.items) c.args.wid.origin.index =
    omega (arith, c.covers.ensures.0 c.if-not-covers.false, ap (λ counts. slice_index counts c.args.wid.origin.index) c.self.invariant.1.counted) in
    let there = subst (λ (log : Log). c.args.wid.seq ≤ slice_index (count_of log.receipts) c.args.wid.origin.index) c.self.view_is within in
    (c.args.wid.in_range.0, subst (λ server. c.args.wid.seq ≤ slice_index (count_of c.args.self.now.receipts) server) (sym c.from.ensures) there)

pub returns-clause-held : goal.returns-clause-held
returns-clause-held c =
    let here = c.own_write.result.now in
    let named = c.own_write.ensures.named in
    (c.own_write.ensures.held, wid-ext here.wid c.args.wid (server-ext here.wid.origin c.args.wid.origin (named.0 ∙ c.from.ensures)) named.1)
