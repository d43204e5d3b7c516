-- Lists most of which are empty.
use Rattle.std.specs.Prelude.{List, [], Option, None, Some}
use Rattle.std.specs.Global.{Box, Vec}

-- the items, of which there are none where there is no list
abbrev pub items_of : {X : Type 0} → Option (Box (Vec X)) → List X
items_of None = []
items_of (Some list) = list.value.items
