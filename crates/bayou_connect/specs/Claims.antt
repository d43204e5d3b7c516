-- As what a Write was accepted, and where it was asked last: this project's own.
use Rattle.std.specs.Prelude.{◌≡◌, ◌≢◌, All, IsSomeAnd, List, MatchOption, Option, None, slice_get}
use Rattle.bayou_base.specs.declared.answer.Accepted.{Accepted}
use Rattle.bayou_connect.specs.declared.desk.MadeWrite.{MadeWrite}
use Rattle.bayou_connect.specs.declared.reach.Access.{Access}
use Rattle.bayou_connect.specs.declared.told.ServerTold.{ServerTold}
use Rattle.bayou_connect.specs.declared.told.ServerTold.TheVariants as told

-- as what a Write was accepted: its name, its clock, and the place of its server, where that has one
abbrev pub IsMadeAs : List Access → Accepted → Option MadeWrite → Type 0
IsMadeAs accesses accepted made = MatchOption made (All (λ access. access.place.id ≢ accepted.wid.origin) accesses)
    (λ made. (made.wid ≡ accepted.wid) × (made.clock ≡ accepted.stamp.clock) × IsSomeAnd (slice_get accesses made.at) (λ access. access.place.id ≡ accepted.wid.origin))

-- the same by what was reported of a Write: nothing, where it wasn't accepted
abbrev pub IsMade : List Access → ServerTold → Option MadeWrite → Type 0
IsMade accesses (told.Accepted accepted) made = IsMadeAs accesses accepted made
IsMade accesses told.Away made = made ≡ None
IsMade accesses (told.Seen seen) made = made ≡ None
IsMade accesses (told.Rows page) made = made ≡ None
IsMade accesses (told.Fate fate) made = made ≡ None
IsMade accesses (told.Refused fault) made = made ≡ None
IsMade accesses told.Lost made = made ≡ None
