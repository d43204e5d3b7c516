use Rattle.std.proofs.Common.{map}
use Rattle.bayou_renew.proofs.Said.{refused_for}
use Rattle.bayou_renew.proofs.plan.RenewalPlan.new.Goals as goal

pub returns-in-Err-clause-refused : goal.returns-in-Err-clause-refused
returns-in-Err-clause-refused c = refused_for c.args.id c.args.servers c.args.servers_then (map (λ word. word.now) c.args.without.now) c.in-Err.fault c.in-Err.ensures.refused
