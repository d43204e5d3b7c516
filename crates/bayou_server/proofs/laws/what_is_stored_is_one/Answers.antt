use Rattle.bayou_server.proofs.Deciding.{one_list}
use Rattle.bayou_server.proofs.laws.what_is_stored_is_one.Goals as goal

pub returns : goal.returns
returns c = λ id bodies stored others stores again. one_list c.bytes_are_of_one_record.ensures id bodies stored others stores again
