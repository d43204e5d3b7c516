use Rattle.bayou_restore.proofs.Alike.{found_other, found_same}
use Rattle.bayou_restore.proofs.differing.differ_at.Goals as goal

pub returns-clause-differ : goal.returns-clause-differ
returns-clause-differ c =
    let found = c.in-Some-Some.ensures in
    let also = c.in-Some-Some.ensures' in
    found_other c.args.one.now.writes c.args.other.now.writes c.in-Some-Some.write.now c.in-Some-Some.another.now c.args.wid c.eq.result found.0 found.1 also.0 also.1 c.eq.ensures

pub returns-clause-agree : goal.returns-clause-agree
returns-clause-agree c =
    let found = c.in-Some-Some.ensures in
    let also = c.in-Some-Some.ensures' in
    found_same c.args.one.now.count c.args.other.now.count c.args.one.now.writes c.args.other.now.writes c.in-Some-Some.write.now c.in-Some-Some.another.now c.args.wid c.eq.result
    c.requires.one c.requires.other found.0 found.1 also.0 also.1 c.eq.ensures
