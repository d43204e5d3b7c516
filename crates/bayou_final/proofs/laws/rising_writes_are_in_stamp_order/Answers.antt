use Rattle.bayou_final.proofs.Rising.{in_order}
use Rattle.bayou_final.proofs.laws.rising_writes_are_in_stamp_order.Goals as goal

pub returns : goal.returns
returns c = in_order
