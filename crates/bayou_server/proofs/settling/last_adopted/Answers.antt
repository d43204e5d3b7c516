use Rattle.std.proofs.Common.{◌≡◌, ◌-◌, inr, Some, ap, sym, ◌∙◌, arith}
use Rattle.bayou_base.specs.declared.wid.Wid.{Wid}
use Rattle.bayou_server.proofs.Bodies.{read_at}
use Rattle.bayou_server.proofs.settling.last_adopted.Goals as goal

pub returns : goal.returns
returns c = λ doubt is.
    let taking = c.args.holding.now.taking.items in
    let at = c.args.more - 1 in
    inr (
      at,
      c.index.result.now,
      omega (arith, c.if-more-eq0.false),
      read_at taking at c.index.result.now (omega (arith, c.if-more-eq0.false, c.requires.more)) c.index.ensures,
      c.wid-2.ensures,
    )
