use Rattle.std.proofs.Common.{◌∙◌}
use Rattle.bayou_connect.proofs.Going.{asked_anywhere}
use Rattle.bayou_connect.proofs.anywhere.anywhere.Goals as goal

pub returns : goal.returns
returns g c =
    asked_anywhere c.args.who c.args.attempt.now c.args.first c.args.rounds c.is_read.result c.deref.result.now c.in_ok-order.ensures.0 c.args.store.now c.in_rounds.new.ways c.in_rounds.result
    c.is_read.ensures (c.deref.ensures.value ∙ c.in_ok-order.ensures.1) c.in_rounds.ensures
