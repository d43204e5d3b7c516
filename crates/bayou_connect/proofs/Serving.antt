-- What becomes of a session whose operation wasn't served: it is as it was sent.
use Rattle.std.proofs.Common.{refl}
use Rattle.bayou_client.specs.Operating.{Asking}
use Rattle.bayou_connect.specs.Operating.{IsNoService, TellsFate, TellsRead, TellsRows, TellsWrite}
use Rattle.bayou_connect.specs.declared.told.ServerTold.{ServerTold}
use Rattle.bayou_connect.specs.declared.told.ServerTold.TheVariants as told

pub unserved_read : (begun : Asking) (answer : ServerTold) → IsNoService answer → TellsRead begun begun answer
unserved_read begun told.Away none = none
unserved_read begun (told.Seen seen) none = absurd none
unserved_read begun (told.Rows page) none = absurd none
unserved_read begun (told.Fate fate) none = absurd none
unserved_read begun (told.Accepted accepted) none = none
unserved_read begun (told.Refused fault) none = refl
unserved_read begun told.Lost none = refl

pub unserved_write : (begun : Asking) (answer : ServerTold) → IsNoService answer → TellsWrite begun begun answer
unserved_write begun told.Away none = none
unserved_write begun (told.Seen seen) none = none
unserved_write begun (told.Rows page) none = absurd none
unserved_write begun (told.Fate fate) none = absurd none
unserved_write begun (told.Accepted accepted) none = absurd none
unserved_write begun (told.Refused fault) none = refl
unserved_write begun told.Lost none = refl

pub unserved_rows : (begun : Asking) (answer : ServerTold) → IsNoService answer → TellsRows begun begun answer
unserved_rows begun told.Away none = absurd none
unserved_rows begun (told.Seen seen) none = absurd none
unserved_rows begun (told.Rows page) none = absurd none
unserved_rows begun (told.Fate fate) none = absurd none
unserved_rows begun (told.Accepted accepted) none = absurd none
unserved_rows begun (told.Refused fault) none = refl
unserved_rows begun told.Lost none = refl

pub unserved_fate : (begun : Asking) (answer : ServerTold) → IsNoService answer → TellsFate begun begun answer
unserved_fate begun told.Away none = absurd none
unserved_fate begun (told.Seen seen) none = absurd none
unserved_fate begun (told.Rows page) none = absurd none
unserved_fate begun (told.Fate fate) none = absurd none
unserved_fate begun (told.Accepted accepted) none = absurd none
unserved_fate begun (told.Refused fault) none = refl
unserved_fate begun told.Lost none = refl
