use Rattle.std.proofs.Common.{List, ap, subst}
use Rattle.bayou_lang.specs.declared.write.Write.{Write}
use Rattle.bayou_renew.proofs.Holding.{holds_made}
use Rattle.bayou_restore.specs.Gathering.{Gathering}
use Rattle.bayou_restore.specs.Restoring.{Restores}
use Rattle.bayou_renew.proofs.renewing.make.Goals as goal

pub returns-in-Ok-clause-held : goal.returns-in-Ok-clause-held
returns-in-Ok-clause-held g c =
    let old = c.args.server.now.core in
    let new = c.restore-2.new.server.core in
    let restored = subst (λ (l : List Write). Restores old l new) (ap (λ (x : Gathering). x.writes) c.of.ensures) c.in-Ok.ensures.restores in
    holds_made old new c.args.rows.now c.args.log.receipts c.requires.up c.requires.own c.requires.made restored
