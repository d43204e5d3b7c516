use Rattle.bayou_lang.specs.Writes.{in_stamp_order}
use Rattle.bayou_lang.specs.Laws.SetOfWrites.{in_stamp_order-same_writes, AllPairs-from_in_order}
use Rattle.bayou_lang.specs.Laws.StampOrder.{length-in_stamp_order, IsInOrder-in_stamp_order}
use Rattle.bayou_lang.proofs.laws.stamp_order_is_of_the_writes.Goals as goal

pub returns-clause-same : goal.returns-clause-same
returns-clause-same c = in_stamp_order-same_writes

pub returns-clause-as_many : goal.returns-clause-as_many
returns-clause-as_many c = length-in_stamp_order

pub returns-clause-ordered : goal.returns-clause-ordered
returns-clause-ordered c = λ writes. AllPairs-from_in_order (in_stamp_order writes) (IsInOrder-in_stamp_order writes)
