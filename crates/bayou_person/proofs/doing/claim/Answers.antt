use Rattle.std.proofs.Common.{arith}
use Rattle.bayou_person.proofs.Claiming.{claims}
use Rattle.bayou_person.proofs.Zipped.{AllZip-length}
use Rattle.bayou_person.proofs.doing.claim.Goals as goal

pub new-requires-clause-alternatives : goal.new-requires-clause-alternatives
new-requires-clause-alternatives c = omega (arith, AllZip-length _ c.in_ok-merge.merge.items c.args.others.now c.in_ok-merge.ensures, c.requires)

pub returns : goal.returns
returns c = claims c.args.key.now c.args.others.now c.args.value.now _ _ _ c.new.result c.in_ok-check.ensures c.in_ok-update.ensures c.in_ok-merge.ensures c.new.ensures
