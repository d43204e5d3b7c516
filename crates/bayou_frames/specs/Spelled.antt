-- What an Offer is answered (anti-entropy, Petersen et al. 1997), in this project's own frames.
use Rattle.std.specs.Prelude.{ℕ, List, ◌++◌, length, map}
use Rattle.bayou_lang.specs.declared.write.Write.{Write}
use Rattle.bayou_wire.specs.declared.frame.Frame.{Frame}
use Rattle.bayou_wire.specs.declared.frame.Frame.TheVariants.{Item, End}
use Rattle.bayou_wire.specs.Stream.{spelling, spellings}

-- an Item of each Write
abbrev pub items_of : List Write → List Frame
items_of writes = map Item writes

-- the bytes of those
abbrev pub item_bytes : List Write → List ℕ
item_bytes writes = spellings (items_of writes)

-- the Items of the Writes, and one End of their number
abbrev pub answer_bytes : List Write → List ℕ
answer_bytes writes = item_bytes writes ++ spelling (End (length writes))
