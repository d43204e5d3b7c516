-- A log of Writes as its callers see it: this project's own.
use Rattle.std.specs.Prelude.{ℕ, ◌-◌, ◌<◌, ◌≤◌, List, length, take}
use Rattle.bayou_lang.specs.declared.write.Write.{Write}
use Rattle.bayou_lang.specs.Changes.{most_changes}
use Rattle.bayou_log.specs.Db.{HasRoomFor}

-- room taken ahead: for so many more Writes, for these keys, and for so many more changes, so that they can be taken back
pub record Room : Type 0 where
  pub writes : ℕ
  pub keys : List (List ℕ)
  pub changes : ℕ

-- the Writes held, in order of receipt; the number of servers; how many Writes it may hold; the room taken ahead; and how many of
-- the Writes, those that came last, wait to be applied
pub record Log : Type 0 where
  pub receipts : List Write
  pub count : ℕ
  pub limit : ℕ
  pub room : Room
  pub waiting : ℕ

-- the Writes that are applied: all but those that wait
abbrev pub applied : Log → List Write
applied log = take (length log.receipts - log.waiting) log.receipts

-- the room is enough for the Write to be inserted
abbrev pub IsReserved : Room → Write → Type 0
IsReserved room write = (0 < room.writes) × HasRoomFor room.keys write.program × (most_changes write.program ≤ room.changes)
