use Rattle.std.proofs.Common.{length, ap, arith}
use Rattle.bayou_log.specs.Inner.ChangeList.{Listed}
use Rattle.bayou_log.proofs.ChangeList.{length-put_together}
use Rattle.bayou_log.proofs.change_list.ChangeList.len.Goals as goal

pub returns : goal.returns
returns c =
    let l = c.self.inside in
    omega (
      arith,
      c.len.ensures,
      l.keys.ok.0,
      length-put_together l.keys.items l.kinds.items l.numbers.items l.texts.items c.self.invariant.one_each c.self.invariant.counted c.self.invariant.told,
      ap (λ (list : Listed). length list.items) c.self.view_is,
    )
