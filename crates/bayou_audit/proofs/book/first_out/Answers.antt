use Rattle.std.proofs.Common.{◌≡◌, ◌∙◌, sym, ap, arith, get_or}
use Rattle.bayou_audit.proofs.Out.{found_out, none_out, one_more}
use Rattle.bayou_audit.specs.Totals.{Shared}
use Rattle.bayou_audit.proofs.book.first_out.Goals as goal

pub loop-at-init : goal.loop-at-init
loop-at-init g c = record { none = λ at none within. absurd (omega (arith, within)) }

pub returns-then-share-gt0 : goal.returns-then-share-gt0
returns-then-share-gt0 g c =
    let view = ap (λ (s : Shared). s.totals.slips) c.share.view_is in
    let (is, sum) = found_out c.args.shares.now c.loop-at.at c.index-shares-at.result c.loop-at-test.true c.index-shares-at.is
    (omega (arith, view, c.share.invariant.1, c.if-share-gt0.true)) in
    (c.loop-at-test.true, is, sum)

pub loop-at-preserved : goal.loop-at-preserved
loop-at-preserved g c =
    let view = ap (λ (s : Shared). s.totals.slips) c.share.view_is in
    record {
      none = one_more c.args.shares.now c.loop-at.at c.index-shares-at.result c.loop-at-test.true c.loop-at.invariant.none c.index-shares-at.is
          (omega (arith, view, c.share.invariant.1, c.if-share-gt0.false));
    }

pub returns : goal.returns
returns g c = none_out c.args.shares.now (λ at none within. c.loop-at.invariant.none at none (omega (arith, within, c.loop-at-test.false)))
