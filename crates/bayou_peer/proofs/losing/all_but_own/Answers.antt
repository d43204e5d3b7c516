use Rattle.std.proofs.Common.{◌<◌, ℕ, arith, subst, sym}
use Rattle.bayou_base.specs.declared.limits.TheConstants.{SERVERS}
use Rattle.bayou_peer.proofs.Asking.{all_within}
use Rattle.bayou_peer.proofs.losing.all_but_own.Goals as goal

pub returns-clause-some : goal.returns-clause-some
returns-clause-some c =
    c.from_counts.ensures.within.1
    (all_within c.from.result _ (subst (λ (n : ℕ). n < SERVERS) (sym c.from.ensures) c.args.id.in_range) (let most = c.requires in omega (arith, most)))
